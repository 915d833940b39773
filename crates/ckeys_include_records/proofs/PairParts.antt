-- Names and what each is paired with, one pair more.
use Rattle.std.proofs.Common.{◌≡◌, ℕ, ◌+◌, ◌<◌, List, [], ◌∷◌, ◌++◌, length, get_or, take, refl, sym, ap, ◌∙◌, subst}
use Rattle.std.proofs.lemmas.List.{flat_map_more, map_more, take_more}
use Rattle.base_files.specs.Bytes.{Bytes}
use Rattle.cmdlines_base.specs.declared.command.ArtifactDescriptor.{ArtifactDescriptor}
use Rattle.base_formats.specs.Spelling.{FitsFrame, framed, framed_all}
use Rattle.ckeys_include_records.specs.Framing.{FitFrames, Pairs, pair_parts, path_at, paths_of}

pair_parts-push : (pairs : Pairs) (pair : Bytes × Bytes) → pair_parts (pairs ++ pair ∷ []) ≡ (pair_parts pairs ++ pair.0 ∷ []) ++ pair.1 ∷ []
pair_parts-push [] pair = refl
pair_parts-push (first ∷ pairs) pair = ap (λ (parts : List Bytes). first.0 ∷ first.1 ∷ parts) (pair_parts-push pairs pair)

fits-push : (parts : List Bytes) (part : Bytes) → FitFrames parts → FitsFrame part → FitFrames (parts ++ part ∷ [])
fits-push [] part h p = (p, tt)
fits-push (first ∷ parts) part h p = (h.0, fits-push parts part h.1 p)

framed_all-push : (parts : List Bytes) (part : Bytes) → framed_all parts ++ framed part ≡ framed_all (parts ++ part ∷ [])
framed_all-push parts part = flat_map_more framed [] parts part

-- the bytes after one pair more, and that its lengths fit
framed-pair : (pairs : Pairs) (pair : Bytes × Bytes) → (framed_all (pair_parts pairs) ++ framed pair.0) ++ framed pair.1 ≡ framed_all (pair_parts (pairs ++ pair ∷ []))
framed-pair pairs pair =
    ap (λ (bytes : Bytes). bytes ++ framed pair.1) (framed_all-push (pair_parts pairs) pair.0)
    ∙ framed_all-push (pair_parts pairs ++ pair.0 ∷ []) pair.1
    ∙ ap framed_all (sym (pair_parts-push pairs pair))

fits-pair : (pairs : Pairs) (pair : Bytes × Bytes) → FitFrames (pair_parts pairs) → FitsFrame pair.0 → FitsFrame pair.1 → FitFrames (pair_parts (pairs ++ pair ∷ []))
fits-pair pairs pair h name value =
    subst FitFrames (sym (pair_parts-push pairs pair)) (fits-push (pair_parts pairs ++ pair.0 ∷ []) pair.1 (fits-push (pair_parts pairs) pair.0 h name) value)

-- at the pair of a list that is at an index
module _ (pairs : Pairs) (i : ℕ) (pair : Bytes × Bytes) (within : i < length pairs) (is : pair ≡ get_or pairs i pair) where
  one_more : take i pairs ++ pair ∷ [] ≡ take (i + 1) pairs
  one_more = ap (λ (last : Bytes × Bytes). take i pairs ++ last ∷ []) is ∙ sym (take_more pairs i pair within)

  pub framed-more : (framed_all (pair_parts (take i pairs)) ++ framed pair.0) ++ framed pair.1 ≡ framed_all (pair_parts (take (i + 1) pairs))
  framed-more = framed-pair (take i pairs) pair ∙ ap (λ (pairs : Pairs). framed_all (pair_parts pairs)) one_more

  pub fits-more : FitFrames (pair_parts (take i pairs)) → FitsFrame pair.0 → FitsFrame pair.1 → FitFrames (pair_parts (take (i + 1) pairs))
  fits-more h name value = subst (λ (pairs : Pairs). FitFrames (pair_parts pairs)) one_more (fits-pair (take i pairs) pair h name value)

-- the same of outputs and their paths
module _ (outputs : List (Bytes × ArtifactDescriptor)) (i : ℕ) (output : Bytes × ArtifactDescriptor) (within : i < length outputs) (is : output ≡ get_or outputs i output) where
  one_output_more : paths_of (take i outputs) ++ path_at output ∷ [] ≡ paths_of (take (i + 1) outputs)
  one_output_more = ap (λ (last : Bytes × ArtifactDescriptor). paths_of (take i outputs) ++ path_at last ∷ []) is ∙ sym (map_more path_at outputs i output within)

  pub framed-outputs_more : (framed_all (pair_parts (paths_of (take i outputs))) ++ framed output.0) ++ framed output.1.path ≡ framed_all (pair_parts (paths_of (take (i + 1) outputs)))
  framed-outputs_more = framed-pair (paths_of (take i outputs)) (path_at output) ∙ ap (λ (pairs : Pairs). framed_all (pair_parts pairs)) one_output_more

  pub fits-outputs_more : FitFrames (pair_parts (paths_of (take i outputs))) → FitsFrame output.0 → FitsFrame output.1.path → FitFrames (pair_parts (paths_of (take (i + 1) outputs)))
  fits-outputs_more h name path = subst (λ (pairs : Pairs). FitFrames (pair_parts pairs)) one_output_more (fits-pair (paths_of (take i outputs)) (path_at output) h name path)
