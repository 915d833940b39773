-- Whether a call has an entry key, and which.
use Rattle.std.proofs.Common.{◌≡◌, ◌∷◌, [], true, false, ◌&&◌, if◌then◌else◌, Option, Some, None, ap, sym, subst, ◌∙◌}
use Rattle.std.specs.Prelude.{IfSome}
use Rattle.base_files.specs.Bytes.{Bytes}
use Rattle.base_files.specs.Tree.{contents_at}
use Rattle.ckeys_include_records.specs.Surroundings.{contents_in}
use Rattle.ckeys_include_records.specs.Identity.{IdentityFits}
use Rattle.ckeys_include_records.specs.Sights.{SightsFit, can_be_told, sights_of}
use Rattle.ckeys_include_records.specs.Telling.{entry_key_over, entry_key_with}
use Rattle.ckeys.specs.Calls.{KeyCall, asks_records, input_path, missing_input}
use Rattle.ckeys_records.specs.Faults.{first_missing}
use Rattle.ckeys.specs.Entries.{IsFramed, entry_key_by, entry_key_of, extra_digests, has_entry_key, identity_by, input_with, is_told, sights_by}
use Rattle.ckeys.proofs.RecordLemmas.{contents_are}

pub unasked_key : (digest_of : Bytes → Bytes) (c : KeyCall) → asks_records c ≡ false → entry_key_of digest_of c ≡ None
unasked_key digest_of c h = ap (λ b. if b && is_told c (contents_at c.scene.files (input_path c)) then Some (entry_key_by digest_of c) else None) h

pub unasked_input : (c : KeyCall) → asks_records c ≡ false → missing_input c ≡ None
unasked_input c h = ap (λ b. if b then first_missing c.scene.files (input_path c ∷ []) else None) h

pub asked_input : (c : KeyCall) → asks_records c ≡ true → missing_input c ≡ first_missing c.scene.files (input_path c ∷ [])
asked_input c h = ap (λ b. if b then first_missing c.scene.files (input_path c ∷ []) else None) h

module _ (digest_of : Bytes → Bytes) (c : KeyCall) (contents : Bytes) (there : contents_at c.scene.files (input_path c) ≡ Some contents) where
  -- where its input holds this
  pub asked_key : asks_records c ≡ true → entry_key_over digest_of (identity_by c) (extra_digests digest_of c) (input_with c contents) ≡ entry_key_of digest_of c
  unfolding sights_by
  asked_key asks =
      let read : contents_in c.scene.files (input_path c) ≡ contents = contents_are c.scene.files (input_path c) contents there in
      let has : has_entry_key c ≡ can_be_told (input_with c contents) = ap (λ b. b && is_told c (contents_at c.scene.files (input_path c))) asks ∙ ap (is_told c) there in
      ap (λ (x : Bytes). if can_be_told (input_with c contents) then Some (entry_key_with digest_of (identity_by c) (sights_of digest_of (identity_by c) (extra_digests digest_of c) (input_with c x))) else None) (sym read)
      ∙ ap (λ b. if b then Some (entry_key_with digest_of (identity_by c) (sights_by digest_of c)) else None) (sym has)

  pub asked_framed : IdentityFits (identity_by c) → SightsFit (sights_of digest_of (identity_by c) (extra_digests digest_of c) (input_with c contents)) → IsFramed digest_of c
  unfolding sights_by
  asked_framed identity sights =
      let read : contents_in c.scene.files (input_path c) ≡ contents = contents_are c.scene.files (input_path c) contents there in
      record { identity = identity; sights = subst (λ (x : Bytes). SightsFit (sights_of digest_of (identity_by c) (extra_digests digest_of c) (input_with c x))) (sym read) sights }

-- what follows from two facts of a key that is there
pub both_fit : {A : Type 0} {P Q R : Type 0} (key : Option A) → (P → Q → R) → IfSome key (λ _. P) → IfSome key (λ _. Q) → IfSome key (λ _. R)
both_fit None on p q = tt
both_fit (Some key) on p q = on p q
