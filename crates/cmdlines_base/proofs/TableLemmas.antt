-- Laws of the longest fit.
use Rattle.std.proofs.Common.{◌≡◌, ◌≢◌, ℕ, ◌≤◌, List, [], ◌∷◌, ◌++◌, length, Option, None, Some, Bool, true, false, nat_lt, cond, refl, ap, sym, subst, append_assoc, ◌∙◌, arith, MatchOption, Contains, All}
use Rattle.std.proofs.lemmas.List.{append-nil}
use Rattle.cmdlines_base.specs.Table.{after, longer, longest_fit, Entry, fits, may_follow, Fits, NoLonger, Shorter, all_entries, IsEntryOf}
use Rattle.std.specs.Option.{option_copied, option_map_or}
use Rattle.std.proofs.lemmas.List.Elements.{All-append, All-cons, All-nil, All-weaker, Contains-append_right, Contains-append_left, Contains-push}
use denote.Ref.{Bor}
use borrow.Author.Tests.{ltb-true, ltb-false}

-- a flag and a rest: the rest comes after the flag
pub after-append : (flag rest : List ℕ) → after flag (flag ++ rest) ≡ Some rest
after-append [] rest = refl
after-append (b ∷ flag) rest = grind (arith, after-append flag rest)

-- what comes after the flag, appended to the flag, makes the word
pub append-after : (flag word rest : List ℕ) → after flag word ≡ Some rest → word ≡ flag ++ rest
append-after [] word rest h = cc
append-after (b ∷ flag) [] rest h = cc
append-after (b ∷ flag) (c ∷ word) rest h = grind (arith, append-after flag word rest)

pub longer_assoc : {K : Type 0} (a b c : Option (Entry K)) → longer (longer a b) c ≡ longer a (longer b c)
longer_assoc None None None = refl
longer_assoc None None (Some e) = refl
longer_assoc None (Some d) None = refl
longer_assoc None (Some d) (Some e) = grind arith
longer_assoc (Some a) None None = refl
longer_assoc (Some a) None (Some e) = refl
longer_assoc (Some a) (Some b) None = grind arith
longer_assoc (Some a) (Some b) (Some c) = grind arith

pub longer-none : {K : Type 0} (a : Option (Entry K)) → longer None a ≡ a
longer-none None = refl
longer-none (Some e) = refl

pub longest_fit-append : {K : Type 0} (es fs : List (Entry K)) (word : List ℕ) → longest_fit (es ++ fs) word ≡ longer (longest_fit es word) (longest_fit fs word)
longest_fit-append [] fs word = sym (longer-none (longest_fit fs word))
longest_fit-append (e ∷ es) fs word = rw (longest_fit-append es fs word) (sym (longer_assoc (cond (fits e word) (Some e) None) (longest_fit es word) (longest_fit fs word)))

-- what `strip_prefix` gives is what comes after the flag
pub after_is : (flag word : List ℕ) (r : Option (Bor (List ℕ))) → MatchOption r ((rest : List ℕ) → word ≢ flag ++ rest) (λ x. word ≡ flag ++ x.now) → option_copied r ≡ after flag word
after_is flag word None h = by (after flag word) refl
  where
    by : (b : Option (List ℕ)) → after flag word ≡ b → option_copied {T = List ℕ} None ≡ b
    by None q = refl
    by (Some rest) q = absurd (h rest (append-after flag word rest q))
after_is flag word (Some x) h = rw h (sym (after-append flag x.now))

-- the test says what the words of the subject say
pub Fits-from_test : {K : Type 0} (e : Entry K) (word : List ℕ) → fits e word ≡ true → Fits e word
Fits-from_test e word h = by (after e.flag word) refl h
  where
    by : (r : Option (List ℕ)) → after e.flag word ≡ r → option_map_or (may_follow e) r false ≡ true → Fits e word
    by None q t = cc
    by (Some rest) q t = (rest, append-after e.flag word rest q, t)

pub test-from_Fits : {K : Type 0} (e : Entry K) (word : List ℕ) → Fits e word → fits e word ≡ true
test-from_Fits e word f = ap (λ w. fits e w) f.1 ∙ ap (λ r. option_map_or (may_follow e) r false) (after-append e.flag f.0) ∙ f.2

-- what doesn't fit
abbrev pub Unfit : {K : Type 0} → List ℕ → Entry K → Type 0
Unfit word x = ¬ Fits x word

-- It is in the table and fits, and no fitting entry has a longer flag.
pub record IsLongest {K : Type 0} (entries : List (Entry K)) (word : List ℕ) (e : Entry K) : Type 0 where
  pub among : Contains entries e
  pub fits : Fits e word
  pub longest : All (NoLonger word e) entries

abbrev pub IsLongestOf : {K : Type 0} → List (Entry K) → List ℕ → Option (Entry K) → Type 0
IsLongestOf entries word None = All (Unfit word) entries
IsLongestOf entries word (Some e) = IsLongest entries word e

IsLongestOf-cons : {K : Type 0} (e : Entry K) (es : List (Entry K)) (word : List ℕ) (b : Bool) → fits e word ≡ b → (r : Option (Entry K)) → IsLongestOf es word r → IsLongestOf (e ∷ es) word (longer (cond b (Some e) None) r)
IsLongestOf-cons e es word false f None h = All-cons (Unfit word) e es (λ fit. let t = test-from_Fits e word fit in cc) h
IsLongestOf-cons e es word false f (Some d) h = record {
  among = Contains-append_right (e ∷ []) es d h.among;
  fits = h.fits;
  longest = All-cons (NoLonger word d) e es (λ fit. let t = test-from_Fits e word fit in cc) h.longest;
}
IsLongestOf-cons e es word true f None h = record {
  among = Contains-append_left (e ∷ []) es e (Contains-push [] e);
  fits = Fits-from_test e word f;
  longest = All-cons (NoLonger word e) e es (λ fit. omega arith) (All-weaker (Unfit word) (NoLonger word e) (λ x no fit. absurd (no fit)) es h);
}
IsLongestOf-cons e es word true f (Some d) h = by (nat_lt (length d.flag) (length e.flag)) refl
  where
    by : (s : Bool) → nat_lt (length d.flag) (length e.flag) ≡ s → IsLongestOf (e ∷ es) word (cond s (Some e) (Some d))
    by true q = record {
      among = Contains-append_left (e ∷ []) es e (Contains-push [] e);
      fits = Fits-from_test e word f;
      longest = All-cons (NoLonger word e) e es (λ fit. omega arith) (All-weaker (NoLonger word d) (NoLonger word e) (λ x no fit. let l : length x.flag ≤ length d.flag = no fit in omega (arith, ltb-true (length d.flag) (length e.flag) q)) es h.longest);
    }
    by false q = record {
      among = Contains-append_right (e ∷ []) es d h.among;
      fits = h.fits;
      longest = All-cons (NoLonger word d) e es (λ fit. omega (arith, ltb-false (length d.flag) (length e.flag) q)) h.longest;
    }

pub IsLongestOf-longest_fit : {K : Type 0} (es : List (Entry K)) (word : List ℕ) → IsLongestOf es word (longest_fit es word)
IsLongestOf-longest_fit [] word = All-nil (Unfit word)
IsLongestOf-longest_fit (e ∷ es) word = IsLongestOf-cons e es word (fits e word) refl (longest_fit es word) (IsLongestOf-longest_fit es word)

-- the entries of two lists of tables are those of the first, then those of the second
pub all_entries-append : {K : Type 0} (ts us : List (List (Entry K))) → all_entries (ts ++ us) ≡ all_entries ts ++ all_entries us
all_entries-append [] us = refl
all_entries-append (t ∷ []) [] = sym (append-nil t)
all_entries-append (t ∷ []) (u ∷ us) = refl
all_entries-append (t ∷ s ∷ ts) us = ap (λ (es : List (Entry _)). t ++ es) (all_entries-append (s ∷ ts) us) ∙ sym (append_assoc t (all_entries (s ∷ ts)) (all_entries us))

-- a first table, and the others
IsEntryOf-cons : {K : Type 0} (t : List (Entry K)) (ts : List (List (Entry K))) (word : List ℕ) (first : Option (Entry K)) → IsLongestOf t word first → (r : Option (Entry K)) → IsEntryOf ts word r → IsEntryOf (t ∷ ts) word (longer first r)
IsEntryOf-cons t ts word None none None h = subst (λ es. All (Unfit word) es) (sym (all_entries-append (t ∷ []) ts)) (All-append (Unfit word) t (all_entries ts) none h)
IsEntryOf-cons t ts word None none (Some d) h = record {
  before = t ∷ h.before;
  table = h.table;
  later = h.later;
  stands = ap (λ (us : List (List (Entry _))). t ∷ us) h.stands;
  among = h.among;
  fits = h.fits;
  longest = subst (λ es. All (NoLonger word d) es) (sym (all_entries-append (t ∷ []) ts)) (All-append (NoLonger word d) t (all_entries ts) (All-weaker (Unfit word) (NoLonger word d) (λ x no fit. absurd (no fit)) t none) h.longest);
  latest = h.latest;
}
IsEntryOf-cons t ts word (Some e) found None h = record {
  before = [];
  table = t;
  later = ts;
  stands = refl;
  among = found.among;
  fits = found.fits;
  longest = subst (λ es. All (NoLonger word e) es) (sym (all_entries-append (t ∷ []) ts)) (All-append (NoLonger word e) t (all_entries ts) found.longest (All-weaker (Unfit word) (NoLonger word e) (λ x no fit. absurd (no fit)) (all_entries ts) h));
  latest = All-weaker (Unfit word) (Shorter word e) (λ x no fit. absurd (no fit)) (all_entries ts) h;
}
IsEntryOf-cons t ts word (Some e) found (Some d) h = by (nat_lt (length d.flag) (length e.flag)) refl
  where
    by : (s : Bool) → nat_lt (length d.flag) (length e.flag) ≡ s → IsEntryOf (t ∷ ts) word (cond s (Some e) (Some d))
    by true q = record {
      before = [];
      table = t;
      later = ts;
      stands = refl;
      among = found.among;
      fits = found.fits;
      longest = subst (λ es. All (NoLonger word e) es) (sym (all_entries-append (t ∷ []) ts)) (All-append (NoLonger word e) t (all_entries ts) found.longest (All-weaker (NoLonger word d) (NoLonger word e) (λ x no fit. let l : length x.flag ≤ length d.flag = no fit in omega (arith, ltb-true (length d.flag) (length e.flag) q)) (all_entries ts) h.longest));
      latest = All-weaker (NoLonger word d) (Shorter word e) (λ x no fit. let l : length x.flag ≤ length d.flag = no fit in omega (arith, ltb-true (length d.flag) (length e.flag) q)) (all_entries ts) h.longest;
    }
    by false q = record {
      before = t ∷ h.before;
      table = h.table;
      later = h.later;
      stands = ap (λ (us : List (List (Entry _))). t ∷ us) h.stands;
      among = h.among;
      fits = h.fits;
      longest = subst (λ es. All (NoLonger word d) es) (sym (all_entries-append (t ∷ []) ts)) (All-append (NoLonger word d) t (all_entries ts) (All-weaker (NoLonger word e) (NoLonger word d) (λ x no fit. let l : length x.flag ≤ length e.flag = no fit in omega (arith, ltb-false (length d.flag) (length e.flag) q)) t found.longest) h.longest);
      latest = h.latest;
    }

pub IsEntryOf-longest_fit : {K : Type 0} (ts : List (List (Entry K))) (word : List ℕ) → IsEntryOf ts word (longest_fit (all_entries ts) word)
IsEntryOf-longest_fit [] word = All-nil (Unfit word)
IsEntryOf-longest_fit (t ∷ ts) word =
    let split : longest_fit (all_entries (t ∷ ts)) word ≡ longer (longest_fit t word) (longest_fit (all_entries ts) word) = ap (λ es. longest_fit es word) (all_entries-append (t ∷ []) ts) ∙ longest_fit-append t (all_entries ts) word in
    subst (IsEntryOf (t ∷ ts) word) (sym split) (IsEntryOf-cons t ts word (longest_fit t word) (IsLongestOf-longest_fit t word) (longest_fit (all_entries ts) word) (IsEntryOf-longest_fit ts word))
