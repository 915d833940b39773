-- Where names occur last, with one more name.
use Rattle.std.proofs.Common.{◌≡◌, ℕ, zero, suc, Bool, true, false, List, [], ◌∷◌, ◌++◌, length, drop, nat_le, refl, ap, sym, ◌∙◌}
use Rattle.std.specs.Prelude.{cond, Option, Some}
use Rattle.std.specs.Str.{bytes_eq}
use Rattle.std.proofs.Math.Dec.{leb-suc-suc, leb-suc-zero, leb-zero}
use Rattle.base_files.specs.Bytes.{Bytes}
use Rattle.rustc_texts.specs.Outputs.{has_name}
use Rattle.rustc_texts.specs.Places.{is_from}
use Rattle.rustc_texts.proofs.ToldNames.{has-pushed}

-- the names from a place on are the one more name, where it is there, and those that were there before
pub has-from : (names : List Bytes) (name other : Bytes) (place : ℕ) → has_name (drop place (names ++ name ∷ [])) other ≡ cond (bytes_eq name other) (nat_le place (length names)) (has_name (drop place names) other)
has-from names name other zero =
    has-pushed names name other
    ∙ ap (λ b. cond (bytes_eq name other) b (has_name names other)) (sym (leb-zero (length names)))
has-from [] name other (suc place) = none place ∙ by (bytes_eq name other) ∙ ap (λ b. cond (bytes_eq name other) b false) (sym (leb-suc-zero place))
  where
    none : (p : ℕ) → has_name (drop p []) other ≡ false
    none zero = refl
    none (suc p) = refl

    by : (same : Bool) → false ≡ cond same false false
    by true = refl
    by false = refl
has-from (first ∷ names) name other (suc place) =
    has-from names name other place
    ∙ ap (λ b. cond (bytes_eq name other) b (has_name (drop place names) other)) (sym (leb-suc-suc place (length names)))

-- what occurs last at one place or where it was before
pub from-cond : (place last : ℕ) (before : Option ℕ) (here : Bool) → is_from place (cond here (Some last) before) ≡ cond here (nat_le place last) (is_from place before)
from-cond place last before true = refl
from-cond place last before false = refl
