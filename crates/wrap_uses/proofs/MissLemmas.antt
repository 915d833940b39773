-- What two fingerprints say of keys.
use Rattle.std.proofs.Common.{◌≡◌, ◌↔◌, None, Option, Ok, sym, ◌∙◌}
use Rattle.base_files.specs.Bytes.{Bytes}
use Rattle.ckeys_records.specs.declared.step.Step.{Step}
use Rattle.wrap.specs.Account.{Account, Work, passed, worked}
use Rattle.wrap.specs.CallRecords.{AreDistinct, IsTold}
use Rattle.wrap.specs.Fingerprints.{IsFingerprintOf, fingerprint_of}
use Rattle.wrap.specs.StoreKeys.{store_key_of}
use Rattle.wrap.specs.Telling.{Tells}
use Rattle.wrap_fingerprints.specs.declared.fingerprint.Fingerprint.{Fingerprint}
use Rattle.wrap_fingerprints.specs.declared.part.Part.{Part}
use Rattle.wrap_uses.specs.Misses.{Explains}

-- fingerprints are equal exactly where keys are
abbrev pub TellKeys : (Bytes → Bytes) → Type 0
TellKeys digest_of = (one other : Work) → IsTold digest_of one.rec → IsTold digest_of other.rec → AreDistinct digest_of one.rec other.rec → (fingerprint_of digest_of one ≡ fingerprint_of digest_of other) ↔ (store_key_of digest_of one ≡ store_key_of digest_of other)

pub found_explains : (digest_of : Bytes → Bytes) → TellKeys digest_of → (a : Account) (on_file : Bytes → Type 0) (device_in : Step → Type 0) (made earlier : Fingerprint) (before : Work) (found : Option Part) → Tells digest_of a on_file device_in (Ok (Ok made)) → IsFingerprintOf digest_of before earlier → ((found ≡ None) ↔ (made ≡ earlier)) → Explains digest_of a before (Ok found)
found_explains digest_of tell (passed why) on_file device_in made earlier before found tells was equal = absurd tells
found_explains digest_of tell (worked w) on_file device_in made earlier before found tells was equal = λ distinct.
    let keys = tell w before tells.told was.told distinct in (
      (λ none. keys.0 (sym tells.is ∙ equal.0 none ∙ was.is)),
      (λ same. equal.1 (tells.is ∙ keys.1 same ∙ sym was.is)),
    )
