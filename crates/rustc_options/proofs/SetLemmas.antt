-- Lists of keys in order: they rise strictly and have the keys that were put in; in which order, and how often, doesn't matter.
use Rattle.std.proofs.Common.{◌≡◌, ◌||◌, Bool, true, false, List, [], ◌∷◌, refl, ap, sym, ◌∙◌, arith, Ordering, Less, Equal, Greater}
use Rattle.std.specs.BTreeSet.{insert_key}
use Rattle.std.specs.Cmp.{IsTotalOrder}
use Rattle.std.specs.List.{AllByRecursion, fold, list_any}
use Rattle.std.specs.List.Sorted.{IsStrictlySortedBy}
use Rattle.std.specs.Ordering.{match_ordering, ordering_reverse}
use Rattle.std.proofs.lemmas.Cmp.{tied_itself}
use Rattle.std.proofs.lemmas.Map.Lookups.{CmpEqualImpliesEq}

module _ {K : Type 0} (cmp : K → K → Ordering) (o : IsTotalOrder cmp) (exact : CmpEqualImpliesEq cmp) where
  abbrev put : List K → K → List K
  put s k = insert_key cmp s k

  put-as : (x : K) (xs : List K) (k : K) (r : Ordering) → cmp k x ≡ r → put (x ∷ xs) k ≡ match_ordering r (k ∷ x ∷ xs) (x ∷ xs) (x ∷ put xs k)
  put-as x xs k r h = ap (λ r. match_ordering r (k ∷ x ∷ xs) (x ∷ xs) (x ∷ put xs k)) h

  turned : (a b : K) (r : Ordering) → cmp a b ≡ r → cmp b a ≡ ordering_reverse r
  turned a b r h = o.antisymm b a ∙ ap ordering_reverse h

  again-by : (x : K) (xs : List K) (k : K) (r : Ordering) → cmp k x ≡ r → put (put xs k) k ≡ put xs k → put (put (x ∷ xs) k) k ≡ put (x ∷ xs) k
  again-by x xs k Less h later = ap (λ s. put s k) (put-as x xs k Less h) ∙ put-as k (x ∷ xs) k Equal (tied_itself o k) ∙ sym (put-as x xs k Less h)
  again-by x xs k Equal h later = ap (λ s. put s k) (put-as x xs k Equal h)
  again-by x xs k Greater h later = ap (λ s. put s k) (put-as x xs k Greater h) ∙ put-as x (put xs k) k Greater h ∙ ap (λ (s : List K). x ∷ s) later ∙ sym (put-as x xs k Greater h)

  -- a key that is put in twice
  pub put-again : (s : List K) (k : K) → put (put s k) k ≡ put s k
  put-again [] k = put-as k [] k Equal (tied_itself o k)
  put-again (x ∷ xs) k = again-by x xs k (cmp k x) refl (put-again xs k)

  -- two keys that both go to the front
  front-by : (zs : List K) (a b : K) (r : Ordering) → cmp a b ≡ r → put zs a ≡ a ∷ zs → put zs b ≡ b ∷ zs → put (a ∷ zs) b ≡ put (b ∷ zs) a
  front-by zs a b Less h first second = put-as a zs b Greater (turned a b Less h) ∙ ap (λ (s : List K). a ∷ s) second ∙ sym (put-as b zs a Less h)
  front-by zs a b Equal h first second = put-as a zs b Equal (turned a b Equal h) ∙ ap (λ k. k ∷ zs) (exact a b h) ∙ sym (put-as b zs a Equal h)
  front-by zs a b Greater h first second = put-as a zs b Less (turned a b Greater h) ∙ sym (ap (λ (s : List K). b ∷ s) first) ∙ sym (put-as b zs a Greater h)

  above : (x a b : K) → cmp a x ≡ Less → cmp b x ≡ Greater → cmp b a ≡ Greater
  above x a b below over = turned a b Less (o.trans a x b below (turned b x Greater over))

  tied : (x a b : K) → cmp a x ≡ Less → cmp b x ≡ Equal → cmp b a ≡ Greater
  tied x a b below same = o.congr b x a same ∙ turned a x Less below

  less-equal : (x : K) (xs : List K) (a b : K) → cmp a x ≡ Less → cmp b x ≡ Equal → put (put (x ∷ xs) a) b ≡ put (put (x ∷ xs) b) a
  less-equal x xs a b h k = ap (λ s. put s b) (put-as x xs a Less h) ∙ put-as a (x ∷ xs) b Greater (tied x a b h k) ∙ ap (λ (s : List K). a ∷ s) (put-as x xs b Equal k) ∙ sym (put-as x xs a Less h) ∙ sym (ap (λ s. put s a) (put-as x xs b Equal k))

  less-greater : (x : K) (xs : List K) (a b : K) → cmp a x ≡ Less → cmp b x ≡ Greater → put (put (x ∷ xs) a) b ≡ put (put (x ∷ xs) b) a
  less-greater x xs a b h k = ap (λ s. put s b) (put-as x xs a Less h) ∙ put-as a (x ∷ xs) b Greater (above x a b h k) ∙ ap (λ (s : List K). a ∷ s) (put-as x xs b Greater k) ∙ sym (put-as x (put xs b) a Less h) ∙ sym (ap (λ s. put s a) (put-as x xs b Greater k))

  equal-greater : (x : K) (xs : List K) (a b : K) → cmp a x ≡ Equal → cmp b x ≡ Greater → put (put (x ∷ xs) a) b ≡ put (put (x ∷ xs) b) a
  equal-greater x xs a b h k = ap (λ s. put s b) (put-as x xs a Equal h) ∙ put-as x xs b Greater k ∙ sym (put-as x (put xs b) a Equal h) ∙ sym (ap (λ s. put s a) (put-as x xs b Greater k))

  swap-by : (x : K) (xs : List K) (a b : K) (p q : Ordering) → cmp a x ≡ p → cmp b x ≡ q → put (put xs a) b ≡ put (put xs b) a → put (put (x ∷ xs) a) b ≡ put (put (x ∷ xs) b) a
  swap-by x xs a b Less Less h k later = ap (λ s. put s b) (put-as x xs a Less h) ∙ front-by (x ∷ xs) a b (cmp a b) refl (put-as x xs a Less h) (put-as x xs b Less k) ∙ sym (ap (λ s. put s a) (put-as x xs b Less k))
  swap-by x xs a b Less Equal h k later = less-equal x xs a b h k
  swap-by x xs a b Less Greater h k later = less-greater x xs a b h k
  swap-by x xs a b Equal Less h k later = sym (less-equal x xs b a k h)
  swap-by x xs a b Equal Equal h k later = ap (λ s. put s b) (put-as x xs a Equal h) ∙ put-as x xs b Equal k ∙ sym (put-as x xs a Equal h) ∙ sym (ap (λ s. put s a) (put-as x xs b Equal k))
  swap-by x xs a b Equal Greater h k later = equal-greater x xs a b h k
  swap-by x xs a b Greater Less h k later = sym (less-greater x xs b a k h)
  swap-by x xs a b Greater Equal h k later = sym (equal-greater x xs b a k h)
  swap-by x xs a b Greater Greater h k later = ap (λ s. put s b) (put-as x xs a Greater h) ∙ put-as x (put xs a) b Greater k ∙ ap (λ (s : List K). x ∷ s) later ∙ sym (put-as x (put xs b) a Greater h) ∙ sym (ap (λ s. put s a) (put-as x xs b Greater k))

  -- two keys, in either order
  pub put-swap : (s : List K) (a b : K) → put (put s a) b ≡ put (put s b) a
  put-swap [] a b = front-by [] a b (cmp a b) refl refl refl
  put-swap (x ∷ xs) a b = swap-by x xs a b (cmp a x) (cmp b x) refl refl (put-swap xs a b)

  abbrev put-all : List K → List K → List K
  put-all s ks = fold put s ks

  -- first or last
  pub put-last : (s ks : List K) (k : K) → put-all (put s k) ks ≡ put (put-all s ks) k
  put-last s [] k = refl
  put-last s (x ∷ xs) k = ap (λ t. put-all t xs) (put-swap s k x) ∙ put-last (put s x) xs k

  into-by : (s : List K) (x : K) (xs : List K) (k : K) (r : Ordering) → cmp k x ≡ r → put-all (put s x) (put xs k) ≡ put (put-all (put s x) xs) k → put-all s (put (x ∷ xs) k) ≡ put (put-all s (x ∷ xs)) k
  into-by s x xs k Less h later = ap (put-all s) (put-as x xs k Less h) ∙ put-last s (x ∷ xs) k
  into-by s x xs k Equal h later =
      let twice : put-all s (x ∷ xs) ≡ put (put-all s (x ∷ xs)) x = sym (ap (λ t. put-all t xs) (put-again s x)) ∙ put-last (put s x) xs x in
      ap (put-all s) (put-as x xs k Equal h) ∙ twice ∙ sym (ap (put (put-all s (x ∷ xs))) (exact k x h))
  into-by s x xs k Greater h later = ap (put-all s) (put-as x xs k Greater h) ∙ later

  into : (s ks : List K) (k : K) → put-all s (put ks k) ≡ put (put-all s ks) k
  into s [] k = refl
  into s (x ∷ xs) k = into-by s x xs k (cmp k x) refl (into (put s x) xs k)

  -- keys that were put together before
  pub together : (s t ks : List K) → put-all s (put-all t ks) ≡ put-all (put-all s t) ks
  together s t [] = refl
  together s t (k ∷ ks) = together s (put t k) ks ∙ ap (λ u. put-all u ks) (into s t k)

  all-put : (P : K → Type 0) (xs : List K) (k : K) → AllByRecursion P xs → P k → AllByRecursion P (put xs k)
  all-put P [] k a p = (p, tt)
  all-put P (x ∷ xs) k a p = by (cmp k x) (all-put P xs k a.1 p)
    where
      by : (r : Ordering) → AllByRecursion P (put xs k) → AllByRecursion P (match_ordering r (k ∷ x ∷ xs) (x ∷ xs) (x ∷ put xs k))
      by Less later = (p, a)
      by Equal later = a
      by Greater later = (a.0, later)

  all-above : (k x : K) → cmp k x ≡ Less → (xs : List K) → AllByRecursion (λ y. cmp x y ≡ Less) xs → AllByRecursion (λ y. cmp k y ≡ Less) xs
  all-above k x h [] a = tt
  all-above k x h (y ∷ ys) a = (o.trans k x y h a.0, all-above k x h ys a.1)

  -- a key more
  rises-put : (xs : List K) (k : K) → IsStrictlySortedBy cmp xs → IsStrictlySortedBy cmp (put xs k)
  unfolding IsStrictlySortedBy
  rises-put [] k rises = (tt, tt)
  rises-put (x ∷ xs) k rises = by (cmp k x) refl (rises-put xs k rises.1)
    where
      by : (r : Ordering) → cmp k x ≡ r → IsStrictlySortedBy cmp (put xs k) → IsStrictlySortedBy cmp (match_ordering r (k ∷ x ∷ xs) (x ∷ xs) (x ∷ put xs k))
      by Less h later = ((h, all-above k x h xs rises.0), rises)
      by Equal h later = rises
      by Greater h later = (all-put (λ y. cmp x y ≡ Less) xs k rises.0 (turned k x Greater h), later)

  -- keys that are put in rise strictly
  pub rises-all : (s ks : List K) → IsStrictlySortedBy cmp s → IsStrictlySortedBy cmp (put-all s ks)
  rises-all s [] rises = rises
  rises-all s (k ∷ ks) rises = rises-all (put s k) ks (rises-put s k rises)

  module _ (test : K → Bool) where
    twice : (a b : Bool) → (a || b) ≡ (a || (a || b))
    twice true b = refl
    twice false b = refl

    turned-or : (a b c : Bool) → (a || (b || c)) ≡ (b || (a || c))
    turned-or true true c = refl
    turned-or true false c = refl
    turned-or false b c = refl

    any-put : (xs : List K) (k : K) → list_any test (put xs k) ≡ (test k || list_any test xs)
    any-put [] k = refl
    any-put (x ∷ xs) k = by (cmp k x) refl (any-put xs k)
      where
        by : (r : Ordering) → cmp k x ≡ r → list_any test (put xs k) ≡ (test k || list_any test xs) → list_any test (match_ordering r (k ∷ x ∷ xs) (x ∷ xs) (x ∷ put xs k)) ≡ (test k || (test x || list_any test xs))
        by Less h later = refl
        by Equal h later = twice (test x) (list_any test xs) ∙ ap (λ y. test y || (test x || list_any test xs)) (sym (exact k x h))
        by Greater h later = ap (λ rest. test x || rest) later ∙ turned-or (test x) (test k) (list_any test xs)

    or-false : (a : Bool) → a ≡ (a || false)
    or-false true = refl
    or-false false = refl

    moved : (a b c : Bool) → ((a || b) || c) ≡ (b || (a || c))
    moved true true c = refl
    moved true false c = refl
    moved false b c = refl

    -- and they are those keys
    pub any-all : (s ks : List K) → list_any test (put-all s ks) ≡ (list_any test s || list_any test ks)
    any-all s [] = or-false (list_any test s)
    any-all s (k ∷ ks) = any-all (put s k) ks ∙ ap (λ first. first || list_any test ks) (any-put s k) ∙ moved (test k) (list_any test s) (list_any test ks)
