-- What comes before the added bytes stays there.
use Rattle.std.proofs.Common.{◌≡◌, ◌≤◌, ◌++◌, List, [], ◌∷◌, ℕ, Bool, true, false, cond, length, take, sym, ap, subst, ◌∙◌, arith, refl}
use Rattle.std.specs.Io.{StartsWith}
use Rattle.std.proofs.lemmas.List.{take_at, take-take, length-take}
use Rattle.std.proofs.Math.Seq.{take-length}

pub front-then : (a b c : List ℕ) → StartsWith b a → StartsWith c b → StartsWith c a
front-then a b c p q =
    let le : length a ≤ length b = omega (arith, ap (λ (l : List ℕ). length l) p, length-take (length a) b) in
    sym (take-take (length a) (length b) c le) ∙ ap (λ (l : List ℕ). take (length a) l) q ∙ p

pub front-grown : (a x new : List ℕ) (ok : Bool) → new ≡ cond ok (a ++ x) a → StartsWith new a
front-grown a x new true is = subst (λ (l : List ℕ). StartsWith l a) (sym is) (take_at a x (length a) refl)
front-grown a x new false is = subst (λ (l : List ℕ). StartsWith l a) (sym is) (take-length a)

-- each begins with the one before it
abbrev pub Grows : List ℕ → List (List ℕ) → Type 0
Grows a [] = Unit {0}
Grows a (b ∷ rest) = StartsWith b a × Grows b rest

abbrev pub end_of : List ℕ → List (List ℕ) → List ℕ
end_of a [] = a
end_of a (b ∷ rest) = end_of b rest

pub front-all : (a : List ℕ) (rest : List (List ℕ)) → Grows a rest → StartsWith (end_of a rest) a
front-all a [] grows = take-length a
front-all a (b ∷ rest) grows = front-then a b (end_of b rest) grows.0 (front-all b rest grows.1)
