-- What names mean.
use Rattle.std.proofs.Common.{◌≡◌, ◌<◌, ◌+◌, ◌==◌, ◌&&◌, ◌||◌, ◌++◌, ℕ, suc, Bool, true, false, not, cond, if◌then◌else◌, List, [], ◌∷◌, None, Some, length, drop, get_or, refl, ap, sym, ◌∙◌, arith, add-one, drop-cons, append_assoc}
use Rattle.std.proofs.lemmas.List.Folds.{list_any_at}
use Rattle.std.specs.List.{list_any}
use Rattle.memchr.specs.Find.{IsFirstByte, is_byte}
use Rattle.ckeys_marker_walk.specs.Spelling.{is_backslash, is_special, meant_from, meant, spelled, spelled_byte}

untrue : (b : Bool) → (b ≡ true → ⊥) → b ≡ false
untrue true h = absurd (h refl)
untrue false h = refl

plain_from : (b : ℕ) (rest : List ℕ) (slashed : Bool) → slashed ≡ false → meant_from false rest ≡ rest → (if slashed then meant_from true rest else b ∷ meant_from false rest) ≡ b ∷ rest
plain_from b rest true e h = cc
plain_from b rest false e h = ap (λ (l : List ℕ). b ∷ l) h

-- without backslashes bytes mean themselves
pub meant_plain : (raw : List ℕ) → IsFirstByte (is_byte 92) raw None → meant raw ≡ raw
meant_plain [] h = refl
meant_plain (b ∷ rest) h = plain_from b rest (b == 92) (untrue _ (h 0 (omega arith) (omega arith))) (meant_plain rest (λ k low high. h (suc k) (omega arith) (omega arith)))

-- whether there is a backslash
pub none_held : (raw : List ℕ) → IsFirstByte (is_byte 92) raw None → list_any is_backslash raw ≡ false
none_held [] h = refl
none_held (b ∷ rest) h = ap (λ (t : Bool). t || list_any is_backslash rest) (untrue _ (h 0 (omega arith) (omega arith))) ∙ none_held rest (λ k low high. h (suc k) (omega arith) (omega arith))

pub one_held : (raw : List ℕ) (k : ℕ) → IsFirstByte (is_byte 92) raw (Some k) → list_any is_backslash raw ≡ true
one_held raw k h = list_any_at is_backslash raw k 0 (omega (arith, h.0.high)) h.1

-- the first byte, after a backslash that counts or not
meant-cons : (escaped : Bool) (b : ℕ) (rest : List ℕ) → meant_from escaped (b ∷ rest) ≡ (if (not escaped && is_backslash b) then meant_from true rest else b ∷ meant_from false rest)
meant-cons true b rest = refl
meant-cons false b rest = refl

meant-drop : (escaped : Bool) (raw : List ℕ) (i : ℕ) → i < length raw → meant_from escaped (drop i raw) ≡ (if (not escaped && is_backslash (get_or raw i 0)) then meant_from true (drop (i + 1) raw) else get_or raw i 0 ∷ meant_from false (drop (i + 1) raw))
meant-drop escaped raw i lt =
    ap (meant_from escaped) (drop-cons raw i 0 lt) ∙ meant-cons escaped (get_or raw i 0) (drop (suc i) raw)
    ∙ ap (λ (n : ℕ). cond (not escaped && is_backslash (get_or raw i 0)) (meant_from true (drop n raw)) (get_or raw i 0 ∷ meant_from false (drop n raw))) (sym (add-one i))

-- a step that passes a backslash over
pub step_over : (escaped : Bool) (raw name : List ℕ) (i : ℕ) → i < length raw → (not escaped && is_backslash (get_or raw i 0)) ≡ true →
    name ++ meant_from true (drop (i + 1) raw) ≡ name ++ meant_from escaped (drop i raw)
step_over escaped raw name i lt begins =
    sym (ap (λ (l : List ℕ). name ++ l) (meant-drop escaped raw i lt ∙ ap (λ (t : Bool). cond t (meant_from true (drop (i + 1) raw)) (get_or raw i 0 ∷ meant_from false (drop (i + 1) raw))) begins))

-- a step that keeps its byte
pub step_on : (escaped : Bool) (raw name : List ℕ) (i : ℕ) → i < length raw → (not escaped && is_backslash (get_or raw i 0)) ≡ false →
    (name ++ get_or raw i 0 ∷ []) ++ meant_from false (drop (i + 1) raw) ≡ name ++ meant_from escaped (drop i raw)
step_on escaped raw name i lt begins =
    append_assoc name (get_or raw i 0 ∷ []) (meant_from false (drop (i + 1) raw))
    ∙ sym (ap (λ (l : List ℕ). name ++ l) (meant-drop escaped raw i lt ∙ ap (λ (t : Bool). cond t (meant_from true (drop (i + 1) raw)) (get_or raw i 0 ∷ meant_from false (drop (i + 1) raw))) begins))

pub not_slash : (b : ℕ) (quote slash : Bool) → (b == 34) ≡ quote → (b == 92) ≡ slash → is_special b ≡ false → (b == 92) ≡ false
not_slash b quote false q s h = s
not_slash b false true q s h = let t : is_special b ≡ (false || true) = (λ j. q j || s j) in cc
not_slash b true true q s h = let t : is_special b ≡ (true || true) = (λ j. q j || s j) in cc

meant_byte : (b : ℕ) (rest : List ℕ) (special : Bool) → is_special b ≡ special → meant (spelled_byte b ++ rest) ≡ b ∷ meant rest
meant_byte b rest true is = ap (λ (t : Bool). meant (cond t (92 ∷ b ∷ []) (b ∷ []) ++ rest)) is
meant_byte b rest false is =
    ap (λ (t : Bool). meant (cond t (92 ∷ b ∷ []) (b ∷ []) ++ rest)) is
    ∙ ap (λ (t : Bool). cond t (meant_from true rest) (b ∷ meant rest)) (not_slash b (b == 34) (b == 92) refl refl is)

-- a name is what its spelling means
pub meant-spelled : (name : List ℕ) → meant (spelled name) ≡ name
meant-spelled [] = refl
meant-spelled (b ∷ rest) = meant_byte b (spelled rest) (is_special b) refl ∙ ap (λ (l : List ℕ). b ∷ l) (meant-spelled rest)

pub not_special : (b : ℕ) → (b == 34) ≡ false → (b == 92) ≡ false → is_special b ≡ false
not_special b q s = λ j. q j || s j
