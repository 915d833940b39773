-- The entries of a table that begin as the first one does.
use Rattle.std.proofs.Common.{◌≡◌, ◌∷◌, [], ◌≤◌, ◌<◌, ℕ, zero, suc, List, length, take, get_or, Option, Some, MatchOption, true, false, nat_lt, nat_le, refl, ap, sym, subst, ◌∙◌, arith, All}
use Rattle.std.proofs.lemmas.List.{take-map}
use Rattle.std.proofs.lemmas.Option.{get_or_from_slice_get}
use Rattle.std.specs.List.{slice_get}
use Rattle.std.specs.List.Sorted.{IsPartitionPoint, IsNonDecreasingBy}
use Rattle.cmdlines_base.specs.declared.branch.Stem.{Stem}
use Rattle.cmdlines_base.specs.declared.table.ArgInfo.{ArgInfo}
use Rattle.cmdlines_base.specs.Forks.{IsStemOf}
use Rattle.cmdlines_base.specs.Nodes.{GoesOn, IsNode, IsPicked, byte_at}
use Rattle.cmdlines_base.specs.Reach.{reach}
use Rattle.cmdlines_base.specs.Table.{Entry, entry_of, entries_of, is_table, longest_fit}
use Rattle.cmdlines_base.proofs.NodeLemmas.{all_on, below_fits, below_node, bytes_rise, picked_is, root}
use Rattle.cmdlines_base.proofs.ReachLemmas.{reach-below}
use borrow.Author.Tests.{leb-false}

-- a list with a first element has some
some_first : {X : Type 0} (xs : List X) (x : X) → slice_get xs 0 ≡ Some x → 0 < length xs
some_first [] x h = cc
some_first (y ∷ xs) x h = omega arith

-- no flag is empty where the first one isn't
pub none_empty : {T K : Type 0} (xs : List (ArgInfo T K)) (a : ArgInfo T K) (byte : ℕ) → is_table (entries_of xs) ≡ true
    → slice_get xs 0 ≡ Some a → slice_get (entry_of a).flag 0 ≡ Some byte → All (GoesOn 0) (entries_of xs)
none_empty [] a byte rise one head = cc
none_empty (x ∷ xs) a byte rise one head =
    all_on 0 [] (entry_of x) (entries_of xs) (root [] (entries_of (x ∷ xs)) rise)
    (subst (λ (r : Option (ArgInfo _ _)). MatchOption r (Unit {0}) (λ y. 0 < length (entry_of y).flag)) (sym one) (some_first (entry_of a).flag byte head))

not_less : (a b : ℕ) → b ≤ a → nat_lt a b ≡ false
not_less a b h = grind (arith, h)

-- where the front of a table ends by its first bytes
module _ {T K : Type 0} (xs : List (ArgInfo T K)) (a : ArgInfo T K) (byte count : ℕ)
    (rise : is_table (entries_of xs) ≡ true)
    (one : slice_get xs 0 ≡ Some a)
    (head : slice_get (entry_of a).flag 0 ≡ Some byte) where
  abbrev At : ArgInfo T K → ℕ
  At y = byte_at 0 (entry_of y)

  pub firsts_rise : IsNonDecreasingBy (λ y. byte_at 0 (entry_of y)) xs
  firsts_rise = let node = root [] (entries_of xs) rise in bytes_rise 0 [] xs node.rise node.begin (none_empty xs a byte rise one head)

  at_first : (d : ArgInfo T K) → At (get_or xs 0 d) ≡ byte
  at_first d = ap At (get_or_from_slice_get xs 0 a d one) ∙ get_or_from_slice_get (entry_of a).flag 0 byte 0 head

  module _ (within : count ≤ length xs) (parted : IsPartitionPoint (λ y. nat_le (At y) byte ≡ true) (λ y. nat_le (At y) byte ≡ false) xs count) where
    pub some_front : 0 < count
    some_front = by count refl
      where
        by : (n : ℕ) → count ≡ n → 0 < count
        by zero q =
            let none = parted.1 0 a (omega (arith, q)) (some_first xs a one) in
            absurd (omega (arith, leb-false (At (get_or xs 0 a)) byte none, at_first a))
        by (suc n) q = omega (arith, q)

    pub front_picked : IsPicked 0 byte (entries_of xs) (entries_of (take count xs))
    front_picked = picked_is 0 byte xs 0 count xs (omega arith) within refl
        ((λ k d l h. absurd (omega (arith, h))), (λ k d l h. not_less (At (get_or xs k d)) byte (omega (arith, at_first d, firsts_rise 0 k d (omega arith) h))))
        parted

    pub front_node : IsNode 1 (byte ∷ []) (entries_of (take count xs))
    front_node = below_node 0 (byte ∷ []) (entries_of xs) (entries_of (take count xs)) (omega arith) (root (byte ∷ []) (entries_of xs) rise) (none_empty xs a byte rise one head) front_picked

-- a word that begins with the stem's byte: its entries are those of the stem
module _ {T K : Type 0} (word : List ℕ) (xs : List (ArgInfo T K)) (t : List (Entry K)) (stem : Stem)
    (is : entries_of xs ≡ t) (rise : is_table t ≡ true) (h : IsStemOf stem t)
    (lt : 0 < length word) (same : get_or word 0 0 ≡ stem.byte) where
  picked : IsPicked 0 (get_or word 0 0) t (entries_of (take stem.count xs))
  picked = subst (λ ys. IsPicked 0 (get_or word 0 0) t ys) (ap (λ es. take stem.count es) (sym is) ∙ take-map entry_of stem.count xs) (subst (λ b. IsPicked 0 b t (take stem.count t)) (sym same) h.front)

  pub stem_node : IsNode 1 word (entries_of (take stem.count xs))
  stem_node = below_node 0 word t (entries_of (take stem.count xs)) lt (root word t rise) h.on picked

  pub stem_fits : longest_fit t word ≡ longest_fit (entries_of (take stem.count xs)) word
  stem_fits = below_fits 0 word t (entries_of (take stem.count xs)) lt (root word t rise) h.on picked

  pub stem_reach : reach t word ≡ reach (entries_of (take stem.count xs)) word
  stem_reach = omega (arith, reach-below 0 word t (entries_of (take stem.count xs)) lt (root word t rise) h.on picked)
