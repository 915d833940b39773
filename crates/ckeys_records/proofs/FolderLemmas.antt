-- Folders without the slashes at their ends.
use Rattle.std.proofs.Common.{◌≡◌, ℕ, Bool, true, false, ◌&&◌, [], ◌∷◌, ◌++◌, refl, ap, sym, ◌∙◌, cond}
use Rattle.std.specs.List.{list_all}
use Rattle.base_files.specs.Bytes.{Bytes}
use Rattle.base_files.specs.Path.{is_slash}
use Rattle.ckeys_records.specs.Folders.{without_slashes}

and_false : (s : Bool) → (s && false) ≡ false
and_false true = refl
and_false false = refl

-- a slash more or less at the end is no matter
without_last : (f : Bytes) → without_slashes (f ++ 47 ∷ []) ≡ without_slashes f
without_last [] = refl
without_last (b ∷ f) = ap (λ s. cond s [] (b ∷ without_slashes (f ++ 47 ∷ []))) (all_and_slash (b ∷ f)) ∙ ap (λ rest. cond (list_all is_slash (b ∷ f)) [] (b ∷ rest)) (without_last f)
  where
    all_and_slash : (f : Bytes) → list_all is_slash (f ++ 47 ∷ []) ≡ list_all is_slash f
    all_and_slash [] = refl
    all_and_slash (b ∷ f) = ap (λ s. is_slash b && s) (all_and_slash f)

-- with another byte at the end all of it stays
kept_whole : (f : Bytes) (b : ℕ) → is_slash b ≡ false → without_slashes (f ++ b ∷ []) ≡ f ++ b ∷ []
kept_whole [] b h = ap (λ s. cond (s && true) [] (b ∷ [])) h
kept_whole (x ∷ f) b h = ap (λ s. cond s [] (x ∷ without_slashes (f ++ b ∷ []))) (not_all (x ∷ f)) ∙ ap (λ rest. x ∷ rest) (kept_whole f b h)
  where
    not_all : (f : Bytes) → list_all is_slash (f ++ b ∷ []) ≡ false
    not_all [] = ap (λ s. s && true) h
    not_all (y ∷ f) = ap (λ s. is_slash y && s) (not_all f) ∙ and_false (is_slash y)

pub shorter : (kept f : Bytes) (b : ℕ) → kept ≡ f ++ b ∷ [] → b ≡ 47 → without_slashes f ≡ without_slashes kept
shorter kept f b e h = sym (ap without_slashes e ∙ ap (λ x. without_slashes (f ++ x ∷ [])) h ∙ without_last f)

pub whole : (kept f : Bytes) (b : ℕ) → kept ≡ f ++ b ∷ [] → is_slash b ≡ false → kept ≡ without_slashes kept
whole kept f b e h = e ∙ sym (ap without_slashes e ∙ kept_whole f b h)
