-- Fields read one after another, as the loops do.
use Rattle.std.proofs.Common.{◌≡◌, ℕ, suc, ◌-◌, ◌+◌, ◌≤◌, ◌<◌, List, [], ◌∷◌, ◌++◌, length, get_or, drop, Some, None, refl, sym, ap, ◌∙◌, append_assoc, arith}
use Rattle.std.proofs.lemmas.List.{append-nil, drop_more, drop_all}
use Rattle.base_formats.specs.declared.fault.ReadFault.{ReadFault}
use Rattle.base_formats.specs.declared.fault.ReadFault.TheVariants as faults
use Rattle.base_formats.specs.Reading.{Read, ◌>>=◌, Fails, times_at}
use Rattle.rustc_parts.specs.Reading.{each_at}

-- what was read before, and what is still read
abbrev pub with_front : {X : Type 0} → List X → Read (List X) → Read (List X)
with_front front read = read >>= λ x. Some (front ++ x.0, x.1)

regroup : {X : Type 0} (front : List X) (n : X) (read : Read (List X)) → with_front front (read >>= λ x. Some (n ∷ x.0, x.1)) ≡ with_front (front ++ n ∷ []) read
regroup {X} front n (Some x) = ap (λ (ns : List X). Some (ns, x.1)) (simp append_assoc)
regroup front n None = refl

module _ {X : Type 0} (one : List ℕ → Read X) (front : List X) (count i : ℕ) (bytes : List ℕ) (total : Read (List X)) where
  pub times-goes_on : (n : X) (after : List ℕ) → i < count → one bytes ≡ Some (n, after) → with_front front (times_at one (count - i) bytes) ≡ total → with_front (front ++ n ∷ []) (times_at one (count - (i + 1)) after) ≡ total
  unfolding times_at
  times-goes_on n after lt h so_far =
      let k : count - i ≡ suc (count - (i + 1)) = omega arith in
      let step : with_front front (times_at one (count - i) bytes) ≡ with_front (front ++ n ∷ []) (times_at one (count - (i + 1)) after) = rw (k, h) (regroup front n (times_at one (count - (i + 1)) after)) in
      sym step ∙ so_far

  pub times-ends : (e : ReadFault) → i < count → Fails e (one bytes) → with_front front (times_at one (count - i) bytes) ≡ total → Fails e total
  unfolding times_at
  times-ends faults.Memory lt h so_far = tt
  times-ends faults.Unfit lt h so_far =
      let k : count - i ≡ suc (count - (i + 1)) = omega arith in
      let step : with_front front (times_at one (count - i) bytes) ≡ None = rw (k, h) refl in
      sym so_far ∙ step

  pub times-done : count ≤ i → with_front front (times_at one (count - i) bytes) ≡ total → total ≡ Some (front, bytes)
  unfolding times_at
  times-done le so_far =
      let k : count - i ≡ 0 = omega arith in
      let step : with_front front (times_at one (count - i) bytes) ≡ Some (front, bytes) = rw k (ap (λ (ns : List X). Some (ns, bytes)) (append-nil front)) in
      sym so_far ∙ step

module _ {A X : Type 0} (one : A → List ℕ → Read X) (front : List X) (all : List A) (i : ℕ) (bytes : List ℕ) (total : Read (List X)) where
  pub each-goes_on : (d : A) (n : X) (after : List ℕ) → i < length all → one (get_or all i d) bytes ≡ Some (n, after) → with_front front (each_at one (drop i all) bytes) ≡ total → with_front (front ++ n ∷ []) (each_at one (drop (i + 1) all) after) ≡ total
  unfolding each_at
  each-goes_on d n after lt h so_far =
      let k : drop i all ≡ get_or all i d ∷ drop (i + 1) all = drop_more all i d lt in
      let step : with_front front (each_at one (drop i all) bytes) ≡ with_front (front ++ n ∷ []) (each_at one (drop (i + 1) all) after) = rw (k, h) (regroup front n (each_at one (drop (i + 1) all) after)) in
      sym step ∙ so_far

  pub each-ends : (d : A) (e : ReadFault) → i < length all → Fails e (one (get_or all i d) bytes) → with_front front (each_at one (drop i all) bytes) ≡ total → Fails e total
  unfolding each_at
  each-ends d faults.Memory lt h so_far = tt
  each-ends d faults.Unfit lt h so_far =
      let k : drop i all ≡ get_or all i d ∷ drop (i + 1) all = drop_more all i d lt in
      let step : with_front front (each_at one (drop i all) bytes) ≡ None = rw (k, h) refl in
      sym so_far ∙ step

  pub each-done : length all ≤ i → with_front front (each_at one (drop i all) bytes) ≡ total → total ≡ Some (front, bytes)
  unfolding each_at
  each-done le so_far =
      let k : drop i all ≡ [] = drop_all i all le in
      let step : with_front front (each_at one (drop i all) bytes) ≡ Some (front, bytes) = rw k (ap (λ (ns : List X). Some (ns, bytes)) (append-nil front)) in
      sym so_far ∙ step
