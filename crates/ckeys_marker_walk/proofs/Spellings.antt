-- What a scanner finds between quotes is the spelling of what it means.
use Rattle.std.proofs.Common.{◌≡◌, ◌==◌, ◌++◌, ℕ, Bool, true, false, cond, if◌then◌else◌, List, [], ◌∷◌, Option, None, Some, drop, refl, ap, sym, ◌∙◌}
use Rattle.std.proofs.lemmas.Bool.Decides.{Decides-eqb}
use Rattle.std.specs.List.{AllByRecursion, cons_option, filter_map, starts_with}
use Rattle.std.specs.Prelude.{codes, nat_eq}
use Rattle.ckeys_marker_walk.proofs.Meaning.{not_special}
use Rattle.ckeys_marker_walk.specs.Lines.{lines}
use Rattle.ckeys_marker_walk.specs.Markers.{Start, bare, worded, is_digit, is_space}
use Rattle.ckeys_marker_walk.specs.Scanning.{Name, closed, unclosed, misspelled, Sight, named, refused, after_digits, after_hash, after_spaces, led_by, name_from, past, quoted_at, sight_by, sight_in, sights}
use Rattle.ckeys_marker_walk.specs.Spelling.{is_special, meant, meant_from, spelled}

-- a name as written between quotes is the spelling of what it means
abbrev pub IsSpelledWell : Sight → Type 0
IsSpelledWell (named raw) = spelled (meant raw) ≡ raw
IsSpelledWell refused = Unit {0}

-- the same after an opening quote, or after a backslash, which is then put before it
abbrev pub IsWellAfter : Bool → Name → Type 0
IsWellAfter true (closed raw) = spelled (meant_from true raw) ≡ 92 ∷ raw
IsWellAfter false (closed raw) = spelled (meant raw) ≡ raw
IsWellAfter escaped unclosed = Unit {0}
IsWellAfter escaped misspelled = Unit {0}

special_on : (b : ℕ) (special : Bool) (name : Name) → is_special b ≡ special → IsWellAfter false name → IsWellAfter true (if special then led_by b name else misspelled)
special_on b true (closed raw) is h = ap (λ (t : Bool). cond t (92 ∷ b ∷ []) (b ∷ []) ++ spelled (meant raw)) is ∙ ap (λ (l : List ℕ). 92 ∷ b ∷ l) h
special_on b true unclosed is h = tt
special_on b true misspelled is h = tt
special_on b false name is h = tt

plain_on : (b : ℕ) (quote slash : Bool) (name : Name) → (b == 34) ≡ quote → (b == 92) ≡ slash → IsWellAfter slash name → IsWellAfter false (if quote then closed [] else led_by b name)
plain_on b true slash name q s h = refl
plain_on b false true (closed raw) q s h =
    ap (λ (t : Bool). spelled (cond t (meant_from true raw) (b ∷ meant raw))) s ∙ h ∙ ap (λ (n : ℕ). n ∷ raw) (sym ((Decides-eqb b 92).0 s))
plain_on b false true unclosed q s h = tt
plain_on b false true misspelled q s h = tt
plain_on b false false (closed raw) q s h =
    ap (λ (t : Bool). spelled (cond t (meant_from true raw) (b ∷ meant raw))) s
    ∙ ap (λ (t : Bool). cond t (92 ∷ b ∷ []) (b ∷ []) ++ spelled (meant raw)) (not_special b q s) ∙ ap (λ (l : List ℕ). b ∷ l) h
plain_on b false false unclosed q s h = tt
plain_on b false false misspelled q s h = tt

name_is_well : (escaped : Bool) (bytes : List ℕ) → IsWellAfter escaped (name_from escaped bytes)
name_is_well true [] = tt
name_is_well false [] = tt
name_is_well true (b ∷ rest) = special_on b (is_special b) (name_from false rest) refl (name_is_well false rest)
name_is_well false (b ∷ rest) = plain_on b (b == 34) (b == 92) (name_from (b == 92) rest) refl refl (name_is_well (b == 92) rest)

-- what a line says is well spelled
abbrev pub IsWellIn : Option Sight → Type 0
IsWellIn None = Unit {0}
IsWellIn (Some sight) = IsSpelledWell sight

well_by : (start : Start) (name : Name) → IsWellAfter false name → IsWellIn (sight_by start name)
well_by start (closed raw) h = h
well_by start misspelled h = tt
well_by bare unclosed h = tt
well_by worded unclosed h = tt

choose : {X : Type 0} (P : X → Type 0) (c : Bool) {x y : X} → P x → P y → P (if c then x else y)
choose P true p q = p
choose P false p q = q

pub well_quoted : (gone : Option (List ℕ)) → IsWellAfter false (quoted_at gone)
well_quoted None = tt
well_quoted (Some []) = tt
well_quoted (Some (b ∷ rest)) = choose (IsWellAfter false) (b == 34) (name_is_well false rest) tt

well_digits : (start : Start) (gone : Option (List ℕ)) → IsWellIn (after_digits start gone)
well_digits start None = tt
well_digits start (Some rest) = well_by start (quoted_at (past is_space rest)) (well_quoted (past is_space rest))

well_spaces : (start : Start) (gone : Option (List ℕ)) → IsWellIn (after_spaces start gone)
well_spaces start None = tt
well_spaces start (Some rest) = well_digits start (past is_digit rest)

well_hash : (rest : List ℕ) → IsWellIn (after_hash rest)
well_hash rest = choose IsWellIn (starts_with nat_eq rest (codes "line")) (well_spaces worded (past is_space (drop 4 rest))) (well_spaces bare (past is_space rest))

pub well_in : (line : List ℕ) → IsWellIn (sight_in line)
well_in [] = tt
well_in (b ∷ rest) = choose IsWellIn (b == 35) (well_hash rest) tt

well_cons : (sight : Option Sight) (told : List Sight) → IsWellIn sight → AllByRecursion IsSpelledWell told → AllByRecursion IsSpelledWell (cons_option sight told)
well_cons None told h k = k
well_cons (Some sight) told h k = (h, k)

well_all : (ls : List (List ℕ)) → AllByRecursion IsSpelledWell (filter_map sight_in ls)
well_all [] = tt
well_all (l ∷ ls) = well_cons (sight_in l) (filter_map sight_in ls) (well_in l) (well_all ls)

pub all_spelled_well : (text : List ℕ) → AllByRecursion IsSpelledWell (sights text)
all_spelled_well text = well_all (lines text)
