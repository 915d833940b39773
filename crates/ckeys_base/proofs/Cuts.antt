-- There is one stripping, and going from the left finds it.
use Rattle.std.proofs.Common.{◌≡◌, ℕ, zero, suc, Option, Some, ◌+◌, ◌-◌, ◌<◌, ◌≤◌, true, false, ltb, eqb, List, [], ◌∷◌, ◌++◌, length, take, drop, refl, sym, ap, subst, ◌∙◌, arith, inl, inr}
use Rattle.std.proofs.lemmas.Bool.{cases_lt, cases_eq, ne_eqb, lt-ltb, le-ltb}
use Rattle.std.proofs.lemmas.List.{take_all, length-drop, append-nil}
use Rattle.std.specs.Prelude.{slice_range}
use Rattle.ckeys_base.specs.KeptParts.{parts_from}
use Rattle.std.specs.List.{flat_map}
use Rattle.ckeys_base.specs.Stripping.{AreApart, IsInside, IsStripping, parts, left_by}
use Rattle.ckeys_base.specs.FromTheLeft.{cuts, kept_parts, start_after, stripped}

-- the places that are passed over
pub cuts-skip : (width : ℕ → ℕ) (k i n : ℕ) → cuts width k i n ≡ cuts width 0 (i + k) (n - k)
unfolding cuts
cuts-skip width zero i n = let a : i + 0 ≡ i = omega arith in let b : n - 0 ≡ n = omega arith in rw (a, b) refl
cuts-skip width (suc k) i zero = let b : zero - suc k ≡ zero = omega arith in rw b refl
cuts-skip width (suc k) i (suc n) =
    let a : (i + 1) + k ≡ i + suc k = omega arith in
    let b : n - k ≡ suc n - suc k = omega arith in
    cuts-skip width k (i + 1) n ∙ ap (λ (x : ℕ). cuts width 0 x (n - k)) a ∙ ap (λ (x : ℕ). cuts width 0 (i + suc k) x) b

-- at a place where nothing counts
cuts-pass : (width : ℕ → ℕ) (i n : ℕ) → width i ≡ 0 → cuts width 0 i (suc n) ≡ cuts width 0 (i + 1) n
unfolding cuts
cuts-pass width i n e = rw e refl

-- at one where something does
pub cuts-here : (width : ℕ → ℕ) (i n : ℕ) → i < n → 0 < width i → cuts width 0 i (n - i) ≡ i ∷ cuts width 0 (i + width i) (n - (i + width i))
unfolding cuts
cuts-here width i n lt pos =
    let m : n - i ≡ suc ((n - i) - 1) = omega arith in
    let no : eqb (width i) 0 ≡ false = ne_eqb (width i) 0 (λ e. omega arith) in
    let a : (i + 1) + (width i - 1) ≡ i + width i = omega arith in
    let b : ((n - i) - 1) - (width i - 1) ≡ n - (i + width i) = omega arith in
    ap (cuts width 0 i) m ∙ rw no (ap (λ (x : List ℕ). i ∷ x) (cuts-skip width (width i - 1) (i + 1) ((n - i) - 1) ∙ ap (λ (x : ℕ). cuts width 0 x (((n - i) - 1) - (width i - 1))) a ∙ ap (cuts width 0 (i + width i)) b))

-- up to the first place where something counts
pub cuts-next : (width : ℕ → ℕ) (d i n : ℕ) → i + d ≤ n → ((k : ℕ) → i ≤ k → k < i + d → width k ≡ 0) → cuts width 0 i (n - i) ≡ cuts width 0 (i + d) (n - (i + d))
cuts-next width zero i n le none = let a : i + 0 ≡ i = omega arith in rw a refl
cuts-next width (suc d) i n le none =
    let m : n - i ≡ suc (n - (i + 1)) = omega arith in
    let e : width i ≡ 0 = none i (omega arith) (omega arith) in
    let a : (i + 1) + d ≡ i + suc d = omega arith in
    ap (cuts width 0 i) m ∙ cuts-pass width i (n - (i + 1)) e ∙ cuts-next width d (i + 1) n (omega arith) (λ k lo hi. none k (omega arith) (omega arith)) ∙ ap (λ (x : ℕ). cuts width 0 x (n - x)) a

pub cuts-end : (width : ℕ → ℕ) (i n : ℕ) → n ≤ i → cuts width 0 i (n - i) ≡ []
unfolding cuts
cuts-end width i n le = let a : n - i ≡ 0 = omega arith in rw a refl

inside_after : (width : ℕ → ℕ) (from : ℕ) (ss : List ℕ) (k : ℕ) → AreApart width from ss → IsInside width ss k → from ≤ k
inside_after width from [] k apart inside = absurd inside
inside_after width from (s ∷ ss) k apart (inl here) = omega (arith, apart.0, here.0)
inside_after width from (s ∷ ss) k apart (inr later) = omega (arith, apart.0, inside_after width (s + width s) ss k apart.1 later)

-- nothing counts where no place that counts may be
none_from : (width : ℕ → ℕ) (from to : ℕ) → ((i : ℕ) → from ≤ i → i < to → 0 < width i → ⊥) → (k : ℕ) → from ≤ k → k < to → width k ≡ 0
none_from width from to h k lo hi = elim (cases_eq (width k) 0) [ inl e ↦ e | inr ne ↦ absurd (h k lo hi (omega arith)) ]

not_inside : (width : ℕ → ℕ) (s : ℕ) (ss : List ℕ) (k : ℕ) → AreApart width (s + width s) ss → k < s → IsInside width (s ∷ ss) k → ⊥
not_inside width s ss k apart lt (inl here) = omega (arith, here.0)
not_inside width s ss k apart lt (inr later) = omega (arith, inside_after width (s + width s) ss k apart later)

past_first : (width : ℕ → ℕ) (s : ℕ) (ss : List ℕ) (k : ℕ) → s + width s ≤ k → IsInside width (s ∷ ss) k → IsInside width ss k
past_first width s ss k le (inl here) = absurd (omega (arith, here.1))
past_first width s ss k le (inr later) = later

-- any stripping is the one from the left
pub is_the_one : (width : ℕ → ℕ) (from n : ℕ) (ss : List ℕ) → from ≤ n → IsStripping width from n ss → ss ≡ cuts width 0 from (n - from)
is_the_one width from n [] le h =
    let none = none_from width from (from + (n - from)) (λ i lo hi pos. h.covering i lo (omega arith) pos) in
    sym (cuts-next width (n - from) from n (omega arith) none ∙ cuts-end width (from + (n - from)) n (omega arith))
is_the_one width from n (s ∷ ss) le h =
    let lo : from ≤ s = h.apart.0 in
    let pos : 0 < width s = h.counting.0.0 in
    let fits : s + width s ≤ n = h.counting.0.1 in
    let none = none_from width from (from + (s - from)) (λ i low hi p. not_inside width s ss i h.apart.1 (omega arith) (h.covering i low (omega arith) p)) in
    let at : from + (s - from) ≡ s = omega arith in
    let to_s : cuts width 0 from (n - from) ≡ cuts width 0 s (n - s) = cuts-next width (s - from) from n (omega arith) none ∙ ap (λ (x : ℕ). cuts width 0 x (n - x)) at in
    let later : IsStripping width (s + width s) n ss = record {
      counting = h.counting.1;
      apart = h.apart.1;
      covering = λ i low hi p. past_first width s ss i low (h.covering i (omega arith) hi p);
    } in
    ap (λ (x : List ℕ). s ∷ x) (is_the_one width (s + width s) n ss fits later) ∙ sym (to_s ∙ cuts-here width s n (omega arith) pos)

apart_from : (width : ℕ → ℕ) (a b : ℕ) (ss : List ℕ) → b ≤ a → AreApart width a ss → AreApart width b ss
apart_from width a b [] le h = tt
apart_from width a b (s ∷ ss) le h = (omega (arith, h.0), h.1)

-- going from the left strips: by recursion on a bound of what is left
pub cuts_strip : (width : ℕ → ℕ) (bound from n : ℕ) → n - from ≤ bound → from ≤ n → ((i : ℕ) → i < n → i + width i ≤ n) → IsStripping width from n (cuts width 0 from (n - from))
cuts_strip width zero from n small le fits =
    let e : cuts width 0 from (n - from) ≡ [] = cuts-end width from n (omega arith) in
    subst (λ (x : List ℕ). IsStripping width from n x) (sym e) (record { counting = tt; apart = tt; covering = λ i lo hi p. omega arith })
cuts_strip width (suc bound) from n small le fits = elim (cases_lt from n) [
  | inr end ↦ let e : cuts width 0 from (n - from) ≡ [] = cuts-end width from n end in subst (λ (x : List ℕ). IsStripping width from n x) (sym e) (record { counting = tt; apart = tt; covering = λ i lo hi p. omega arith })
  | inl lt ↦ elim (cases_eq (width from) 0) [
    | inl zero_here ↦
        let m : n - from ≡ suc (n - (from + 1)) = omega arith in
        let e : cuts width 0 from (n - from) ≡ cuts width 0 (from + 1) (n - (from + 1)) = ap (cuts width 0 from) m ∙ cuts-pass width from (n - (from + 1)) zero_here in
        let later = cuts_strip width bound (from + 1) n (omega arith) (omega arith) fits in
        subst (λ (x : List ℕ). IsStripping width from n x) (sym e) (record {
          counting = later.counting;
          apart = apart_from width (from + 1) from (cuts width 0 (from + 1) (n - (from + 1))) (omega arith) later.apart;
          covering = λ i lo hi p. elim (cases_lt from i) [ inl past ↦ later.covering i (omega arith) hi p | inr at ↦ absurd (let same : i ≡ from = omega arith in omega (arith, ap width same)) ];
        })
    | inr ne ↦
        let pos : 0 < width from = omega arith in
        let e = cuts-here width from n lt pos in
        let room : from + width from ≤ n = fits from lt in
        let later = cuts_strip width bound (from + width from) n (omega arith) room fits in
        subst (λ (x : List ℕ). IsStripping width from n x) (sym e) (record {
          counting = ((pos, room), later.counting);
          apart = (omega arith, later.apart);
          covering = λ i lo hi p. elim (cases_lt i (from + width from)) [ inl in_it ↦ inl (lo, in_it) | inr past ↦ inr (later.covering i past hi p) ];
        })
  ]
]

-- the next part, and those after it
pub kept-next : (width : ℕ → ℕ) (text : List ℕ) (i e : ℕ) → i ≤ e → e ≤ length text → ((k : ℕ) → i ≤ k → k < e → width k ≡ 0) → (e < length text → 0 < width e)
    → kept_parts width text i ≡ slice_range text i e ∷ parts_from width text (start_after width (length text) e)
unfolding parts
kept-next width text i e lo hi none found = elim (cases_lt e (length text)) [
  | inl lt ↦
      let at : i + (e - i) ≡ e = omega arith in
      let cut : cuts width 0 i (length text - i) ≡ e ∷ cuts width 0 (e + width e) (length text - (e + width e)) = cuts-next width (e - i) i (length text) (omega arith) (λ k a b. none k a (omega arith)) ∙ ap (λ (x : ℕ). cuts width 0 x (length text - x)) at ∙ cuts-here width e (length text) lt (found lt) in
      let yes : ltb e (length text) ≡ true = lt-ltb e (length text) lt in
      rw (cut, yes) refl
  | inr end ↦
      let at : i + (e - i) ≡ length text = omega arith in
      let cut : cuts width 0 i (length text - i) ≡ [] = cuts-next width (e - i) i (length text) (omega arith) (λ k a b. none k a (omega arith)) ∙ ap (λ (x : ℕ). cuts width 0 x (length text - x)) at ∙ cuts-end width (length text) (length text) (omega arith) in
      let no : ltb e (length text) ≡ false = le-ltb e (length text) end in
      let same : e ≡ length text = omega arith in
      let whole : drop i text ≡ take (e - i) (drop i text) = sym (take_all (e - i) (drop i text) (omega (arith, length-drop i text))) in
      rw (cut, no) (ap (λ (x : List ℕ). x ∷ []) whole)
]

-- the parts that are still to come, where the next one begins at place i and ends at e
pub parts-next : (width : ℕ → ℕ) (text : List ℕ) (next later : Option ℕ) (i e : ℕ) → next ≡ Some i → later ≡ start_after width (length text) e
    → i ≤ e → e ≤ length text → ((k : ℕ) → i ≤ k → k < e → width k ≡ 0) → (e < length text → 0 < width e)
    → parts_from width text next ≡ slice_range text i e ∷ parts_from width text later
parts-next width text next later i e at after lo hi none found =
    ap (parts_from width text) at ∙ kept-next width text i e lo hi none found ∙ ap (λ (o : Option ℕ). slice_range text i e ∷ parts_from width text o) (sym after)

pub from_start : (width : ℕ → ℕ) (n : ℕ) → cuts width 0 0 (n - 0) ≡ cuts width 0 0 n
from_start width n = let a : n - 0 ≡ n = omega arith in ap (cuts width 0 0) a

-- the one stripping of n bytes
pub strips : (width : ℕ → ℕ) (n : ℕ) → ((i : ℕ) → i < n → i + width i ≤ n) → IsStripping width 0 n (cuts width 0 0 n)
strips width n fits = subst (λ (x : List ℕ). IsStripping width 0 n x) (from_start width n) (cuts_strip width n 0 n (omega arith) (omega arith) fits)

pub only_one : (width : ℕ → ℕ) (n : ℕ) (others : List ℕ) → IsStripping width 0 n others → others ≡ cuts width 0 0 n
only_one width n others h = is_the_one width 0 n others (omega arith) h ∙ from_start width n

pub none-cut : (width : ℕ → ℕ) (n : ℕ) → ((k : ℕ) → k < n → width k ≡ 0) → cuts width 0 0 n ≡ []
none-cut width n none = sym (from_start width n) ∙ cuts-next width n 0 n (omega arith) (λ k lo hi. none k (omega arith)) ∙ cuts-end width (0 + n) n (omega arith)

pub some-cut : (width : ℕ → ℕ) (n e : ℕ) → e < n → ((k : ℕ) → k < e → width k ≡ 0) → 0 < width e → cuts width 0 0 n ≡ [] → ⊥
some-cut width n e lt none pos is =
    let at : 0 + e ≡ e = omega arith in
    let cut : cuts width 0 0 n ≡ e ∷ cuts width 0 (e + width e) (n - (e + width e)) = sym (from_start width n) ∙ cuts-next width e 0 n (omega arith) (λ k lo hi. none k (omega arith)) ∙ ap (λ (x : ℕ). cuts width 0 x (n - x)) at ∙ cuts-here width e n lt pos in
    let clash : e ∷ cuts width 0 (e + width e) (n - (e + width e)) ≡ [] = sym cut ∙ is in
    cc

pub left-whole : (width : ℕ → ℕ) (text : List ℕ) → cuts width 0 0 (length text) ≡ [] → text ≡ left_by width text (cuts width 0 0 (length text))
unfolding parts
left-whole width text is = rw is (sym (append-nil text))

-- what comes before the first that goes, and then the later parts
pub stripped-first : (width : ℕ → ℕ) (text : List ℕ) (first : ℕ) → first ≤ length text → ((k : ℕ) → k < first → width k ≡ 0) → (first < length text → 0 < width first)
    → take first text ++ flat_map (λ part. part) (parts_from width text (start_after width (length text) first)) ≡ stripped width text
stripped-first width text first le none found =
    let whole : length text - 0 ≡ length text = omega arith in
    let front : first ≡ first - 0 = omega arith in
    let later = flat_map (λ (part : List ℕ). part) (parts_from width text (start_after width (length text) first)) in
    ap (λ (n : ℕ). take n text ++ later) front
    ∙ sym (ap (λ (x : List (List ℕ)). flat_map (λ part. part) x) (kept-next width text 0 first (omega arith) le (λ k lo hi. none k hi) found))
    ∙ ap (λ (x : ℕ). left_by width text (cuts width 0 0 x)) whole
