-- What a report on a miss says.
use Rattle.std.specs.Prelude.{◌≡◌, ◌↔◌, Option, None, Result, Ok, Err}
use Rattle.base_files.specs.Bytes.{Bytes}
use Rattle.wrap.specs.Account.{Account, Work, passed, worked}
use Rattle.wrap.specs.CallRecords.{AreDistinct}
use Rattle.wrap.specs.StoreKeys.{store_key_of}
use Rattle.wrap.specs.Verdicts.{why_of}
use Rattle.wrap_base.specs.declared.reason.Reason.{Reason}
use Rattle.wrap_fingerprints.specs.declared.part.Part.{Part}

-- where digests are distinct, nothing differs exactly where two calls have one key
abbrev pub TellsKeys : (Bytes → Bytes) → Work → Work → Option Part → Type 0
TellsKeys digest_of w before found = AreDistinct digest_of w.rec before.rec → (found ≡ None) ↔ (store_key_of digest_of w ≡ store_key_of digest_of before)

-- a part in which a call differs from an earlier one, or why it is passed through
abbrev pub Explains : (Bytes → Bytes) → Account → Work → Result (Option Part) Reason → Type 0
Explains digest_of (passed why) before (Ok found) = ⊥
Explains digest_of (passed why) before (Err reason) = why_of reason ≡ why
Explains digest_of (worked w) before (Ok found) = TellsKeys digest_of w before found
Explains digest_of (worked w) before (Err reason) = ⊥
