-- Bytes that are fed one after another.
use Rattle.std.proofs.Common.{◌≡◌, ℕ, ◌+◌, List, [], ◌∷◌, ◌++◌, length, filter, Bool, true, false, cond, ap, sym, subst, append_assoc, arith}
use Rattle.std.proofs.lemmas.List.{append-nil}
use Rattle.std.specs.List.{AllByRecursion}
use Rattle.base_files.specs.Bytes.{Bytes}
use Rattle.ckeys_records.specs.Params.{is_cached, IsFed}
use Rattle.ckeys_records.specs.Records.{Variable, FitsLength}

pub fed-none : {H : Type 0} (holds : H → Bytes → Type 0) (a : H) → IsFed holds a [] a
fed-none holds a = λ held h. subst (holds a) (sym (append-nil held)) h

-- bytes alone, as the one part of a list
pub fed-alone : {H : Type 0} (holds : H → Bytes → Type 0) (a b : H) (x : Bytes) → IsFed holds a x b → IsFed holds a (x ++ []) b
fed-alone holds a b x f = λ held h. subst (λ y. holds b (held ++ y)) (sym (append-nil x)) (f held h)

-- a variable that counts is one more, and another is none
pub one-more : (rest : List Variable) (v : Variable) (vs : List Variable) (n total : ℕ) → rest ≡ v ∷ vs → n + length (filter is_cached rest) ≡ total → is_cached v ≡ true → n + 1 + length (filter is_cached vs) ≡ total
one-more rest v vs n total e h c =
    let here : length (filter is_cached rest) ≡ length (filter is_cached (v ∷ vs)) = ap (λ xs. length (filter is_cached xs)) e in
    let one : length (filter is_cached (v ∷ vs)) ≡ length (v ∷ filter is_cached vs) = ap (λ s. length (cond s (v ∷ filter is_cached vs) (filter is_cached vs))) c in
    omega (arith, here, one, h)

pub none-more : (rest : List Variable) (v : Variable) (vs : List Variable) (n total : ℕ) → rest ≡ v ∷ vs → n + length (filter is_cached rest) ≡ total → is_cached v ≡ false → n + length (filter is_cached vs) ≡ total
none-more rest v vs n total e h c =
    let here : length (filter is_cached rest) ≡ length (filter is_cached (v ∷ vs)) = ap (λ xs. length (filter is_cached xs)) e in
    let none : length (filter is_cached (v ∷ vs)) ≡ length (filter is_cached vs) = ap (λ s. length (cond s (v ∷ filter is_cached vs) (filter is_cached vs))) c in
    omega (arith, here, none, h)
