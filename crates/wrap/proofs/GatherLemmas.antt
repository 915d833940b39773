-- One more output that is gathered.
use Rattle.std.proofs.Common.{◌≡◌, ℕ, suc, ◌+◌, ◌<◌, List, [], ◌∷◌, ◌++◌, length, get_or, drop, drop-cons, add-one, Option, None, Some, true, refl, ap, sym, ◌∙◌, append_assoc}
use Rattle.base_files.specs.Bytes.{Bytes}
use Rattle.cmdlines_base.specs.declared.command.ArtifactDescriptor.{ArtifactDescriptor}
use Rattle.wrap_keys.specs.Account.{Collected, missing, all, Pairs, after, gathered, collected, first_file, files_after}
use Rattle.ckeys_records.specs.Meaning.{names_of}
use Rattle.wrap.specs.Gathering.{and_then}

made_more : (map : Pairs) (o : Bytes × Bytes) (c : Collected) → and_then map (after o c) ≡ and_then (map ++ o ∷ []) c
made_more map o (missing name) = refl
made_more map o (all outputs) = ap all (sym (append_assoc map (o ∷ []) outputs))

module _ (map : Pairs) (outputs : List (Bytes × ArtifactDescriptor)) (i : ℕ) (o : Bytes × ArtifactDescriptor) (files : List (Option Bytes)) (lt : i < length outputs) (at : o ≡ get_or outputs i o) where
  left : drop i outputs ≡ o ∷ drop (i + 1) outputs
  left = drop-cons outputs i o lt ∙ ap (λ x. x ∷ drop (suc i) outputs) (sym at) ∙ ap (λ n. o ∷ drop n outputs) (sym (add-one i))

  -- an output that was made
  pub gather_made : (contents : Bytes) → Some contents ≡ first_file files → and_then (map ++ (o.0, contents) ∷ []) (collected (names_of (drop (i + 1) outputs)) (files_after files)) ≡ and_then map (collected (names_of (drop i outputs)) files)
  gather_made contents h =
      let rest = collected (names_of (drop (i + 1) outputs)) (files_after files) in
      sym (ap (λ d. and_then map (collected (names_of d) files)) left ∙ ap (λ f. and_then map (gathered (record { name = o.0; optional = o.1.optional }) f rest)) (sym h) ∙ made_more map _ rest)

  -- one that wasn't, and may be left out
  pub gather_none : None ≡ first_file files → o.1.optional ≡ true → and_then map (collected (names_of (drop (i + 1) outputs)) (files_after files)) ≡ and_then map (collected (names_of (drop i outputs)) files)
  gather_none h optional =
      let rest = collected (names_of (drop (i + 1) outputs)) (files_after files) in
      sym (ap (λ d. and_then map (collected (names_of d) files)) left ∙ ap (λ f. and_then map (gathered (record { name = o.0; optional = o.1.optional }) f rest)) (sym h) ∙ (rw optional refl))
