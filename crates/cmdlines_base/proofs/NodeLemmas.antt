-- Nodes of a table: entries whose flags begin alike, and those of them with one byte after that.
use Rattle.std.proofs.Common.{◌≡◌, ◌≢◌, ◌+◌, ◌-◌, ◌⊎◌, inl, inr, ⊎_elim, Ordering, ◌&&◌, suc, zero, ℕ, ◌≤◌, ◌<◌, List, [], ◌∷◌, ◌++◌, length, take, drop, Option, None, Some, Bool, true, false, nat_lt, nat_le, cond, refl, ap, sym, subst, ◌∙◌, arith, All, get_or, MatchOption}
use Rattle.std.proofs.lemmas.List.{append-nil, take-append-drop, take-take, get_or-take, get_or-drop, length-take, length-drop, length-map, map-append, get_or-map}
use Rattle.std.proofs.lemmas.List.Elements.{All-cons, All-nil, All-head, All-tail, All-weaker, All-map, All-from_all_within, All-get_or}
use Rattle.std.proofs.Math.Seq.{take-length}
use Rattle.std.proofs.lemmas.Option.{get_or_from_slice_get}
use Rattle.std.specs.List.{AllWithin, slice_get}
use Rattle.std.specs.List.Sorted.{IsPartitionPoint, IsNonDecreasingBy}
use Rattle.cmdlines_base.specs.declared.table.ArgInfo.{ArgInfo}
use Rattle.cmdlines_base.specs.Table.{after, longer, longest_fit, Entry, entry_of, entries_of, fits, may_follow, has_ascii, is_table, rises_to}
use Rattle.cmdlines_base.specs.Nodes.{Begins, GoesOn, HasByte, IsNode, IsPicked, LacksByte, byte_at}
use Rattle.cmdlines_base.proofs.TableLemmas.{after-append, longest_fit-append, longer-none}
use Rattle.std.specs.Option.{option_map_or}
use Rattle.cmdlines_base.specs.Forks.{going_on}
use Rattle.std.specs.Ordering.{nat_cmp, is_lt, ordering_then}
use Rattle.std.specs.declared.cmp.Ordering.TheVariants.{Less, Equal, Greater}
use Rattle.std.proofs.lemmas.Cmp.{ranked}
use Rattle.std.specs.Cmp.Lexicographic.{slice_cmp}
use borrow.Author.Tests.{ltb-true, ltb-false, leb-true, leb-false}

-- what holds of the first i elements, by index
pub taken : {X : Type 0} (P : X → Type 0) (i : ℕ) (xs : List X) → i ≤ length xs → AllWithin P xs 0 i → All P (take i xs)
taken P i xs le h = All-from_all_within P (take i xs) (λ k d low high. let long = length-take i xs in subst P (sym (get_or-take i xs k d (omega arith))) (h k d low (omega arith)))

-- what holds of the others
pub left : {X : Type 0} (P : X → Type 0) (i : ℕ) (xs : List X) → AllWithin P xs i (length xs) → All P (drop i xs)
left P i xs h = All-from_all_within P (drop i xs) (λ k d low high. let long = length-drop i xs in subst P (sym (get_or-drop i xs k d)) (h (i + k) d (omega arith) (omega arith)))

-- entries in three stretches, of which the middle one alone has the byte
pub stretches : {T K : Type 0} (depth byte : ℕ) (xs : List (ArgInfo T K)) (start count : ℕ)
    → All (λ y. byte_at depth (entry_of y) ≢ byte) (take start xs)
    → All (λ y. byte_at depth (entry_of y) ≡ byte) (take count (drop start xs))
    → All (λ y. byte_at depth (entry_of y) ≢ byte) (drop count (drop start xs))
    → IsPicked depth byte (entries_of xs) (entries_of (take count (drop start xs)))
stretches depth byte xs start count low mid high =
    let parts : take start xs ++ (take count (drop start xs) ++ drop count (drop start xs)) ≡ xs = ap (λ ys. take start xs ++ ys) (take-append-drop count (drop start xs)) ∙ take-append-drop start xs in
    record {
      front = entries_of (take start xs);
      back = entries_of (drop count (drop start xs));
      whole = ap entries_of (sym parts) ∙ map-append entry_of (take start xs) (take count (drop start xs) ++ drop count (drop start xs)) ∙ ap (λ ys. entries_of (take start xs) ++ ys) (map-append entry_of (take count (drop start xs)) (drop count (drop start xs)));
      before = All-map (LacksByte depth byte) entry_of (take start xs) low;
      have = All-map (HasByte depth byte) entry_of (take count (drop start xs)) mid;
      after = All-map (LacksByte depth byte) entry_of (drop count (drop start xs)) high;
    }

module _ {T K : Type 0} (depth byte : ℕ) (xs : List (ArgInfo T K)) (start end : ℕ) (rest : List (ArgInfo T K)) where
  abbrev At : ArgInfo T K → ℕ
  At y = byte_at depth (entry_of y)

  -- what two searches pick
  pub picked_is : start ≤ length xs → end ≤ length rest → rest ≡ drop start xs
      → IsPartitionPoint (λ y. nat_lt (At y) byte ≡ true) (λ y. nat_lt (At y) byte ≡ false) xs start
      → IsPartitionPoint (λ y. nat_le (At y) byte ≡ true) (λ y. nat_le (At y) byte ≡ false) rest end
      → IsPicked depth byte (entries_of xs) (entries_of (take end rest))
  picked_is le le2 is one two =
      let low : All (λ y. nat_lt (At y) byte ≡ true) (take start xs) = taken (λ y. nat_lt (At y) byte ≡ true) start xs le one.0 in
      let up : All (λ y. nat_lt (At y) byte ≡ false) rest = subst (All (λ y. nat_lt (At y) byte ≡ false)) (sym is) (left (λ y. nat_lt (At y) byte ≡ false) start xs one.1) in
      let mid : All (λ y. (nat_le (At y) byte ≡ true) × (nat_lt (At y) byte ≡ false)) (take end rest) = taken (λ y. (nat_le (At y) byte ≡ true) × (nat_lt (At y) byte ≡ false)) end rest le2 (λ k d l h. (two.0 k d l h, All-get_or (λ y. nat_lt (At y) byte ≡ false) rest k d (omega arith) up)) in
      let high : All (λ y. nat_le (At y) byte ≡ false) (drop end rest) = left (λ y. nat_le (At y) byte ≡ false) end rest two.1 in
      subst (λ ys. IsPicked depth byte (entries_of xs) (entries_of (take end ys))) (sym is) (stretches depth byte xs start end
      (All-weaker (λ y. nat_lt (At y) byte ≡ true) (λ y. At y ≢ byte) (λ y h e. let l = ltb-true (At y) byte h in omega arith) (take start xs) low)
      (subst (λ ys. All (λ y. At y ≡ byte) (take end ys)) is (All-weaker (λ y. (nat_le (At y) byte ≡ true) × (nat_lt (At y) byte ≡ false)) (λ y. At y ≡ byte) (λ y h. let l = leb-true (At y) byte h.0 in let m = ltb-false (At y) byte h.1 in omega arith) (take end rest) mid))
      (subst (λ ys. All (λ y. At y ≢ byte) (drop end ys)) is (All-weaker (λ y. nat_le (At y) byte ≡ false) (λ y. At y ≢ byte) (λ y h e. let l = leb-false (At y) byte h in omega arith) (drop end rest) high)))

-- of entries of which none has that byte nothing is picked
pub none_picked : {K : Type 0} (d byte : ℕ) (es : List (Entry K)) → All (LacksByte d byte) es → IsPicked d byte es []
none_picked d byte es lacks = record { front = es; back = []; whole = sym (append-nil es); before = lacks; have = All-nil (HasByte d byte); after = All-nil (LacksByte d byte) }

pub nothing_picked : {T K : Type 0} (d byte : ℕ) (xs : List (ArgInfo T K)) → slice_get xs 0 ≡ None → IsPicked d byte (entries_of xs) (entries_of xs)
nothing_picked d byte [] h = none_picked d byte [] (All-nil (LacksByte d byte))
nothing_picked d byte (x ∷ xs) h = cc

-- where bytes rise, the first one and the last one determine all
pub ends_tell : {T K : Type 0} (d byte : ℕ) (xs : List (ArgInfo T K)) (a b : ArgInfo T K) → IsNonDecreasingBy (λ y. byte_at d (entry_of y)) xs
    → slice_get xs 0 ≡ Some a → slice_get xs (length xs - 1) ≡ Some b
    → byte_at d (entry_of a) ≡ byte → byte_at d (entry_of b) ≡ byte → All (HasByte d byte) (entries_of xs)
ends_tell d byte xs a b rising one two low high = All-map (HasByte d byte) entry_of xs (λ k y lt.
    let first = ap (λ z. byte_at d (entry_of z)) (get_or_from_slice_get xs 0 a y one) in
    let last = ap (λ z. byte_at d (entry_of z)) (get_or_from_slice_get xs (length xs - 1) b y two) in
    let up = rising 0 k y (omega arith) lt in
    let down = rising k (length xs - 1) y (omega (arith, lt)) (omega (arith, lt)) in
    omega (arith, first, last, up, down, low, high))

-- where the first one has a higher byte or the last one a lower one, none has it
pub low_tells : {T K : Type 0} (d byte : ℕ) (xs : List (ArgInfo T K)) (a : ArgInfo T K) → IsNonDecreasingBy (λ y. byte_at d (entry_of y)) xs
    → slice_get xs 0 ≡ Some a → byte < byte_at d (entry_of a) → IsPicked d byte (entries_of xs) []
low_tells d byte xs a rising one low = none_picked d byte (entries_of xs) (All-map (LacksByte d byte) entry_of xs (λ k y lt has.
    let first = ap (λ z. byte_at d (entry_of z)) (get_or_from_slice_get xs 0 a y one) in
    let up = rising 0 k y (omega arith) lt in
    omega (arith, first, up, low, has)))

pub high_tells : {T K : Type 0} (d byte : ℕ) (xs : List (ArgInfo T K)) (b : ArgInfo T K) → IsNonDecreasingBy (λ y. byte_at d (entry_of y)) xs
    → slice_get xs (length xs - 1) ≡ Some b → byte_at d (entry_of b) < byte → IsPicked d byte (entries_of xs) []
high_tells d byte xs b rising two high = none_picked d byte (entries_of xs) (All-map (LacksByte d byte) entry_of xs (λ k y lt has.
    let last = ap (λ z. byte_at d (entry_of z)) (get_or_from_slice_get xs (length xs - 1) b y two) in
    let down = rising k (length xs - 1) y (omega (arith, lt)) (omega (arith, lt)) in
    omega (arith, last, down, high, has)))

-- entries of which all have that byte are what is picked of them
pub whole_picked : {K : Type 0} (d byte : ℕ) (es : List (Entry K)) → All (HasByte d byte) es → IsPicked d byte es es
whole_picked d byte es have = record { front = []; back = []; whole = sym (append-nil es); before = All-nil (LacksByte d byte); have = have; after = All-nil (LacksByte d byte) }

pub drop_whole : {X : Type 0} (i : ℕ) (xs : List X) → take (length xs - i) (drop i xs) ≡ drop i xs
drop_whole i xs = ap (λ n. take n (drop i xs)) (sym (length-drop i xs)) ∙ take-length (drop i xs)

-- a flag that begins the word: what comes after it is what is left of the word
begins_by : (flag word : List ℕ) → take (length flag) word ≡ flag → after flag word ≡ Some (drop (length flag) word)
begins_by flag word same = ap (λ w. after flag w) (sym (take-append-drop (length flag) word) ∙ ap (λ l. l ++ drop (length flag) word) same) ∙ after-append flag (drop (length flag) word)

-- so it fits where that may follow
pub ended_fits : {K : Type 0} (d : ℕ) (word : List ℕ) (e : Entry K) → Begins d word e → length e.flag ≤ d → fits e word ≡ may_follow e (drop d word)
ended_fits d word e b le =
    let long : length e.flag ≡ d = omega (arith, le, b.long) in
    let all : take (length e.flag) word ≡ e.flag = ap (λ n. take n word) long ∙ sym b.alike ∙ ap (λ n. take n e.flag) (sym long) ∙ take-length e.flag in
    ap (λ r. option_map_or (may_follow e) r false) (begins_by e.flag word all) ∙ ap (λ n. may_follow e (drop n word)) long

pub ended_within : {K : Type 0} (d : ℕ) (word : List ℕ) (e : Entry K) → Begins d word e → d ≤ length word
ended_within d word e b = omega (arith, b.long, ap (λ (l : List ℕ). length l) b.alike, length-take d e.flag, length-take d word)

-- a longer flag doesn't begin a word
after-longer : (flag word : List ℕ) → length word < length flag → after flag word ≡ None
after-longer [] word lt = absurd (omega (arith, lt))
after-longer (b ∷ flag) [] lt = refl
after-longer (b ∷ flag) (c ∷ word) lt = grind (arith, after-longer flag word (omega (arith, lt)))

-- nor does one that goes on with another byte
after-other : (d : ℕ) (flag word : List ℕ) → d < length flag → d < length word → take d flag ≡ take d word → get_or flag d 0 ≢ get_or word d 0 → after flag word ≡ None
after-other d [] word one two same other = absurd (omega (arith, one))
after-other d (b ∷ flag) [] one two same other = refl
after-other zero (b ∷ flag) (c ∷ word) one two same other = grind (arith, other)
after-other (suc d) (b ∷ flag) (c ∷ word) one two same other = grind (arith, ap (λ (l : List ℕ). get_or l 0 0) same, after-other d flag word (omega (arith, one)) (omega (arith, two)) (ap (λ (l : List ℕ). drop 1 l) same) other)

-- one byte more is alike
take-more : (d : ℕ) (flag word : List ℕ) → d < length flag → d < length word → take d flag ≡ take d word → get_or flag d 0 ≡ get_or word d 0 → take (d + 1) flag ≡ take (d + 1) word
take-more d [] word one two same byte = absurd (omega (arith, one))
take-more d (b ∷ flag) [] one two same byte = absurd (omega (arith, two))
take-more zero (b ∷ flag) (c ∷ word) one two same byte = ap (λ n. n ∷ []) byte
take-more (suc d) (b ∷ flag) (c ∷ word) one two same byte = grind (arith, ap (λ (l : List ℕ). get_or l 0 0) same, take-more d flag word (omega (arith, one)) (omega (arith, two)) (ap (λ (l : List ℕ). drop 1 l) same) byte)

-- what makes the first of two lists the lesser one
lesser : (x y : ℕ) (o : Ordering) → is_lt (ordering_then (nat_cmp x y) o) ≡ true → (x < y) ⊎ ((x ≡ y) × (is_lt o ≡ true))
lesser x y o h = by (nat_cmp x y) refl h
  where
    by : (r : Ordering) → nat_cmp x y ≡ r → is_lt (ordering_then r o) ≡ true → (x < y) ⊎ ((x ≡ y) × (is_lt o ≡ true))
    by Less q t = inl (ranked x y Less (sym q))
    by Equal q t = inr (ranked x y Equal (sym q), t)
    by Greater q t = cc

-- flags that rise and are alike so far: the later one goes on after that
cmp-goes_on : (d : ℕ) (a b : List ℕ) → d ≤ length b → take d a ≡ take d b → is_lt (slice_cmp nat_cmp a b) ≡ true → d < length b
cmp-goes_on zero [] [] le same h = cc
cmp-goes_on zero (x ∷ a) [] le same h = cc
cmp-goes_on zero a (y ∷ b) le same h = omega arith
cmp-goes_on (suc d) a [] le same h = absurd (omega (arith, le))
cmp-goes_on (suc d) [] (y ∷ b) le same h = absurd (omega (arith, ap (λ (l : List ℕ). length l) same))
cmp-goes_on (suc d) (x ∷ a) (y ∷ b) le same h = ⊎_elim
    (λ lt. absurd (omega (arith, ap (λ (l : List ℕ). get_or l 0 0) same)))
    (λ on. omega (arith, cmp-goes_on d a b (omega (arith, le)) (ap (λ (l : List ℕ). drop 1 l) same) on.1))
    (lesser x y (slice_cmp nat_cmp a b) h)

-- and its byte there isn't less
cmp-byte : (d : ℕ) (a b : List ℕ) → d < length a → d < length b → take d a ≡ take d b → is_lt (slice_cmp nat_cmp a b) ≡ true → get_or a d 0 ≤ get_or b d 0
cmp-byte d [] b one two same h = absurd (omega (arith, one))
cmp-byte d (x ∷ a) [] one two same h = absurd (omega (arith, two))
cmp-byte zero (x ∷ a) (y ∷ b) one two same h = ⊎_elim (λ lt. omega arith) (λ on. omega (arith, on.0)) (lesser x y (slice_cmp nat_cmp a b) h)
cmp-byte (suc d) (x ∷ a) (y ∷ b) one two same h = ⊎_elim
    (λ lt. absurd (omega (arith, ap (λ (l : List ℕ). get_or l 0 0) same)))
    (λ on. cmp-byte d a b (omega (arith, one)) (omega (arith, two)) (ap (λ (l : List ℕ). drop 1 l) same) on.1)
    (lesser x y (slice_cmp nat_cmp a b) h)

and_left : (a b : Bool) → (a && b) ≡ true → a ≡ true
and_left true b h = refl
and_left false b h = cc

and_right : (a b : Bool) → (a && b) ≡ true → b ≡ true
and_right true b h = h
and_right false b h = cc

both : (a b : Bool) → a ≡ true → b ≡ true → (a && b) ≡ true
both true b p q = q
both false b p q = cc

-- a table without its first entry is one
table_after : {K : Type 0} (e : Entry K) (es : List (Entry K)) → is_table (e ∷ es) ≡ true → is_table es ≡ true
table_after e es h = and_right (has_ascii e && rises_to e es) (is_table es) h

-- the flag of its second entry is above that of the first
table_rises : {K : Type 0} (e n : Entry K) (ns : List (Entry K)) → is_table (e ∷ n ∷ ns) ≡ true → is_lt (slice_cmp nat_cmp e.flag n.flag) ≡ true
table_rises e n ns h = and_right (has_ascii e) (rises_to e (n ∷ ns)) (and_left (has_ascii e && rises_to e (n ∷ ns)) (is_table (n ∷ ns)) h)

-- what comes after the first of a table's entries goes on
pub ends_once : {K : Type 0} (d : ℕ) (word : List ℕ) (e : Entry K) (es : List (Entry K)) → is_table (e ∷ es) ≡ true → All (Begins d word) (e ∷ es) → All (GoesOn d) es
ends_once d word e [] rise begin = All-nil (GoesOn d)
ends_once d word e (n ∷ ns) rise begin =
    let first = All-head (Begins d word) e (n ∷ ns) begin in
    let others = All-tail (Begins d word) e (n ∷ ns) begin in
    let next = All-head (Begins d word) n ns others in
    All-cons (GoesOn d) n ns (cmp-goes_on d e.flag n.flag next.long (first.alike ∙ sym next.alike) (table_rises e n ns rise)) (ends_once d word n ns (table_after e (n ∷ ns) rise) others)

-- bytes after so many rise
lowest : {K : Type 0} (d : ℕ) (word : List ℕ) (e : Entry K) (es : List (Entry K)) → is_table (e ∷ es) ≡ true → All (Begins d word) (e ∷ es) → All (GoesOn d) (e ∷ es) → All (λ f. byte_at d e ≤ byte_at d f) es
lowest d word e [] rise begin on = All-nil (λ f. byte_at d e ≤ byte_at d f)
lowest d word e (n ∷ ns) rise begin on =
    let first = All-head (Begins d word) e (n ∷ ns) begin in
    let others = All-tail (Begins d word) e (n ∷ ns) begin in
    let next = All-head (Begins d word) n ns others in
    let here = All-head (GoesOn d) e (n ∷ ns) on in
    let on2 = All-tail (GoesOn d) e (n ∷ ns) on in
    let step : byte_at d e ≤ byte_at d n = cmp-byte d e.flag n.flag here (All-head (GoesOn d) n ns on2) (first.alike ∙ sym next.alike) (table_rises e n ns rise) in
    All-cons (λ f. byte_at d e ≤ byte_at d f) n ns step (All-weaker (λ f. byte_at d n ≤ byte_at d f) (λ f. byte_at d e ≤ byte_at d f) (λ f le. omega (arith, step)) ns (lowest d word n ns (table_after e (n ∷ ns) rise) others on2))

pub bytes_rise : {T K : Type 0} (d : ℕ) (word : List ℕ) (xs : List (ArgInfo T K)) → is_table (entries_of xs) ≡ true → All (Begins d word) (entries_of xs) → All (GoesOn d) (entries_of xs) → IsNonDecreasingBy (λ e. byte_at d (entry_of e)) xs
bytes_rise d word [] rise begin on i j e le lt = absurd (omega (arith, lt))
bytes_rise d word (x ∷ xs) rise begin on zero zero e le lt = omega arith
bytes_rise d word (x ∷ xs) rise begin on zero (suc j) e le lt =
    omega (arith, ap (byte_at d) (get_or-map entry_of xs j e (entry_of e) (omega (arith, lt))), All-get_or (λ f. byte_at d (entry_of x) ≤ byte_at d f) (entries_of xs) j (entry_of e) (omega (arith, lt, length-map xs entry_of)) (lowest d word (entry_of x) (entries_of xs) rise begin on))
bytes_rise d word (x ∷ xs) rise begin on (suc i) zero e le lt = absurd (omega (arith, le))
bytes_rise d word (x ∷ xs) rise begin on (suc i) (suc j) e le lt = bytes_rise d word xs (table_after (entry_of x) (entries_of xs) rise) (All-tail (Begins d word) (entry_of x) (entries_of xs) begin) (All-tail (GoesOn d) (entry_of x) (entries_of xs) on) i j e (omega (arith, le)) (omega (arith, lt))

-- a stretch of a table is one
table_front : {K : Type 0} (es fs : List (Entry K)) → is_table (es ++ fs) ≡ true → is_table es ≡ true
table_front [] fs h = refl
table_front (e ∷ []) fs h = both (has_ascii e && true) true (both (has_ascii e) true (and_left (has_ascii e) (rises_to e fs) (and_left (has_ascii e && rises_to e fs) (is_table fs) h)) refl) refl
table_front (e ∷ n ∷ ns) fs h = both (has_ascii e && rises_to e (n ∷ ns)) (is_table (n ∷ ns)) (and_left (has_ascii e && rises_to e (n ∷ ns)) (is_table (n ∷ ns ++ fs)) h) (table_front (n ∷ ns) fs (table_after e (n ∷ ns ++ fs) h))

table_back : {K : Type 0} (es fs : List (Entry K)) → is_table (es ++ fs) ≡ true → is_table fs ≡ true
table_back [] fs h = h
table_back (e ∷ es) fs h = table_back es fs (table_after e (es ++ fs) h)

-- what holds of all and also holds of all; of the front of a list; of its back
pub all_both : {X : Type 0} (P Q : X → Type 0) (xs : List X) → All P xs → All Q xs → All (λ x. P x × Q x) xs
all_both P Q [] p q = All-nil (λ x. P x × Q x)
all_both P Q (x ∷ xs) p q = All-cons (λ x. P x × Q x) x xs (All-head P x xs p, All-head Q x xs q) (all_both P Q xs (All-tail P x xs p) (All-tail Q x xs q))

pub all_front : {X : Type 0} (P : X → Type 0) (xs ys : List X) → All P (xs ++ ys) → All P xs
all_front P [] ys h = All-nil P
all_front P (x ∷ xs) ys h = All-cons P x xs (All-head P x (xs ++ ys) h) (all_front P xs ys (All-tail P x (xs ++ ys) h))

pub all_back : {X : Type 0} (P : X → Type 0) (xs ys : List X) → All P (xs ++ ys) → All P ys
all_back P [] ys h = h
all_back P (x ∷ xs) ys h = all_back P xs ys (All-tail P x (xs ++ ys) h)

-- entries of which none fits change nothing
unfit : {K : Type 0} (word : List ℕ) (es : List (Entry K)) → All (λ e. fits e word ≡ false) es → longest_fit es word ≡ None
unfit word [] h = refl
unfit word (e ∷ es) h = rw (All-head (λ e. fits e word ≡ false) e es h, unfit word es (All-tail (λ e. fits e word ≡ false) e es h)) refl

-- an entry that goes on with another byte than the word doesn't fit, nor one that goes on past the end of the word
unfit-other : {K : Type 0} (d : ℕ) (word : List ℕ) (e : Entry K) → d < length word → Begins d word e → GoesOn d e → LacksByte d (get_or word d 0) e → fits e word ≡ false
unfit-other d word e lt b on lacks = ap (λ r. option_map_or (may_follow e) r false) (after-other d e.flag word on lt b.alike lacks)

unfit-longer : {K : Type 0} (d : ℕ) (word : List ℕ) (e : Entry K) → length word ≤ d → GoesOn d e → fits e word ≡ false
unfit-longer d word e le on = ap (λ r. option_map_or (may_follow e) r false) (after-longer e.flag word (omega (arith, le, on)))

-- past the word's end nothing fits
pub ended : {K : Type 0} (d : ℕ) (word : List ℕ) (es : List (Entry K)) → length word ≤ d → All (GoesOn d) es → longest_fit es word ≡ None
ended d word es le on = unfit word es (All-weaker (GoesOn d) (λ e. fits e word ≡ false) (λ e h. unfit-longer d word e le h) es on)

-- of a node's entries, those with the word's next byte are the node below, and no other fits
module _ {K : Type 0} (d : ℕ) (word : List ℕ) (es ps : List (Entry K)) (lt : d < length word) (node : IsNode d word es) (on : All (GoesOn d) es) (p : IsPicked d (get_or word d 0) es ps) where
  abbrev Full : Entry K → Type 0
  Full e = Begins d word e × GoesOn d e

  full : All Full (p.front ++ (ps ++ p.back))
  full = subst (All Full) p.whole (all_both (Begins d word) (GoesOn d) es node.begin on)

  none : (fs : List (Entry K)) → All Full fs → All (LacksByte d (get_or word d 0)) fs → longest_fit fs word ≡ None
  none fs h lacks = unfit word fs (All-weaker (λ e. Full e × LacksByte d (get_or word d 0) e) (λ e. fits e word ≡ false) (λ e h. unfit-other d word e lt h.0.0 h.0.1 h.1) fs (all_both Full (LacksByte d (get_or word d 0)) fs h lacks))

  pub below_fits : longest_fit es word ≡ longest_fit ps word
  below_fits = ap (λ fs. longest_fit fs word) p.whole ∙ longest_fit-append p.front (ps ++ p.back) word
      ∙ ap (λ a. longer a (longest_fit (ps ++ p.back) word)) (none p.front (all_front Full p.front (ps ++ p.back) full) p.before)
      ∙ longer-none (longest_fit (ps ++ p.back) word)
      ∙ longest_fit-append ps p.back word
      ∙ ap (λ b. longer (longest_fit ps word) b) (none p.back (all_back Full ps p.back (all_back Full p.front (ps ++ p.back) full)) p.after)

  pub below_node : IsNode (d + 1) word ps
  below_node = record {
    begin = All-weaker (λ e. Full e × HasByte d (get_or word d 0) e) (Begins (d + 1) word) (λ e h. record { long = omega (arith, h.0.1); alike = take-more d e.flag word h.0.1 lt h.0.0.alike h.1 }) ps (all_both Full (HasByte d (get_or word d 0)) ps (all_front Full ps p.back (all_back Full p.front (ps ++ p.back) full)) p.have);
    rise = table_front ps p.back (table_back p.front (ps ++ p.back) (ap is_table (sym p.whole) ∙ node.rise));
  }

-- a node without its first entry is one
pub node_after : {K : Type 0} (d : ℕ) (word : List ℕ) (e : Entry K) (es : List (Entry K)) → IsNode d word (e ∷ es) → IsNode d word es
node_after d word e es h = record { begin = All-tail (Begins d word) e es h.begin; rise = table_after e es h.rise }

-- where the first entry goes on, all do
pub all_on : {K : Type 0} (d : ℕ) (word : List ℕ) (e : Entry K) (es : List (Entry K)) → IsNode d word (e ∷ es) → d < length e.flag → All (GoesOn d) (e ∷ es)
all_on d word e es h on = All-cons (GoesOn d) e es on (ends_once d word e es h.rise h.begin)

-- what comes after an entry that ends is a node, and all of it goes on
pub going_on_node : {K : Type 0} (d : ℕ) (word : List ℕ) (es : List (Entry K)) → IsNode d word es → IsNode d word (going_on d es) × All (GoesOn d) (going_on d es)
going_on_node d word [] h = (h, All-nil (GoesOn d))
going_on_node d word (e ∷ es) h = by (nat_le (length e.flag) d) refl
  where
    by : (s : Bool) → nat_le (length e.flag) d ≡ s → IsNode d word (cond s es (e ∷ es)) × All (GoesOn d) (cond s es (e ∷ es))
    by true q = (node_after d word e es h, ends_once d word e es h.rise h.begin)
    by false q = (h, all_on d word e es h (leb-false (length e.flag) d q))

-- where the first flag of a node goes on, and the first and the last one go on as the word does, all do
pub goes_alike : {T K : Type 0} (d : ℕ) (word : List ℕ) (xs : List (ArgInfo T K)) (a b : ArgInfo T K)
    → slice_get xs 0 ≡ Some a → slice_get xs (length xs - 1) ≡ Some b → d < length word → d < length (entry_of a).flag
    → byte_at d (entry_of a) ≡ get_or word d 0 → byte_at d (entry_of b) ≡ get_or word d 0 → IsNode d word (entries_of xs) → IsNode (d + 1) word (entries_of xs)
goes_alike d word [] a b one two lt on low high node = cc
goes_alike d word (x ∷ xs) a b one two lt on low high node =
    let all : All (GoesOn d) (entries_of (x ∷ xs)) = all_on d word (entry_of x) (entries_of xs) node (subst (λ (r : Option (ArgInfo _ _)). MatchOption r (Unit {0}) (λ y. d < length (entry_of y).flag)) (sym one) on) in
    below_node d word (entries_of (x ∷ xs)) (entries_of (x ∷ xs)) lt node all
    (whole_picked d (get_or word d 0) (entries_of (x ∷ xs)) (ends_tell d (get_or word d 0) (x ∷ xs) a b (bytes_rise d word (x ∷ xs) node.rise node.begin all) one two low high))

-- of no entries there is no fit
pub none_fits : {T K : Type 0} (word : List ℕ) (xs : List (ArgInfo T K)) → length xs ≡ 0 → longest_fit (entries_of xs) word ≡ None
none_fits word [] h = refl
none_fits word (x ∷ xs) h = absurd (omega (arith, h))

-- the root of a table: no byte is looked at
pub root : {K : Type 0} (word : List ℕ) (es : List (Entry K)) → is_table es ≡ true → IsNode 0 word es
root word es rise = record { begin = from_start es; rise = rise }
  where
    from_start : {K : Type 0} (fs : List (Entry K)) → All (Begins 0 word) fs
    from_start [] = All-nil (Begins 0 word)
    from_start (f ∷ fs) = All-cons (Begins 0 word) f fs (record { long = omega arith; alike = refl }) (from_start fs)

-- what begins so far alike begins alike by fewer bytes too
pub node_less : {K : Type 0} (d least : ℕ) (word : List ℕ) (es : List (Entry K)) → least ≤ d → IsNode d word es → IsNode least word es
node_less d least word es le node = record {
  begin = All-weaker (Begins d word) (Begins least word) (λ e b. record { long = omega (arith, b.long); alike = sym (take-take least d e.flag le) ∙ ap (take least) b.alike ∙ take-take least d word le }) es node.begin;
  rise = node.rise;
}
