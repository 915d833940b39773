-- Runs of bytes, and what comes after them.
use Rattle.std.proofs.Common.{◌≡◌, ◌≤◌, ◌==◌, ℕ, suc, Bool, true, false, cond, if◌then◌else◌, List, [], ◌∷◌, None, Some, length, refl, ap, sym, arith}
use Rattle.std.proofs.lemmas.Bool.{ne_eqb, eq-eqb}
use Rattle.ckeys_marker_walk.specs.Scanning.{after_run, past}

after_by : (test : ℕ → Bool) (b : ℕ) (rest : List ℕ) (passes : Bool) → length (after_run test rest) ≤ length rest → length (if passes then after_run test rest else b ∷ rest) ≤ suc (length rest)
after_by test b rest true h = omega arith
after_by test b rest false h = omega arith

pub length-after_run : (test : ℕ → Bool) (bytes : List ℕ) → length (after_run test bytes) ≤ length bytes
length-after_run test [] = omega arith
length-after_run test (b ∷ rest) = after_by test b rest (test b) (length-after_run test rest)

past_by : (test : ℕ → Bool) (b : ℕ) (rest : List ℕ) (passes : Bool) → length (after_run test rest) ≤ length rest →
    (if passes then Some (after_run test rest) else None) ≡ (if length (if passes then after_run test rest else b ∷ rest) == suc (length rest) then None else Some (if passes then after_run test rest else b ∷ rest))
past_by test b rest true h = ap (λ (c : Bool). cond c None (Some (after_run test rest))) (sym (ne_eqb (length (after_run test rest)) (suc (length rest)) (λ e. omega arith)))
past_by test b rest false h = ap (λ (c : Bool). cond c None (Some (b ∷ rest))) (sym (eq-eqb (suc (length rest)) (suc (length rest)) refl))

-- where nothing is passed over, there is nothing after it
pub past_by_length : (test : ℕ → Bool) (bytes : List ℕ) → past test bytes ≡ (if length (after_run test bytes) == length bytes then None else Some (after_run test bytes))
past_by_length test [] = refl
past_by_length test (b ∷ rest) = past_by test b rest (test b) (length-after_run test rest)
