-- What is written is read again.
use Rattle.std.proofs.Common.{◌≡◌, ℕ, ◌≤◌, ◌<◌, List, [], ◌∷◌, ◌++◌, length, Option, None, Some, Bool, true, false, cond, ◌==◌, refl, ap, sym, subst, ◌∙◌, arith, unwrap_or, Contains, length-append, option_and_then, ◌&&◌, ◌||◌, not, is_some, codes, map, ◌⊎◌, inl, inr, append_assoc}
use Rattle.std.proofs.lemmas.List.{append-nil}
use Rattle.std.proofs.lemmas.List.Elements.{All-contains}
use Rattle.std.proofs.lemmas.Bool.Decides.{Decides-eqb}
use Rattle.std.proofs.lemmas.Slice.Eq.{bytes_eq-Decides}
use Rattle.std.specs.Option.{option_map_or}
use Rattle.std.specs.Cmp.{first_so}
use Rattle.std.specs.List.{AllByRecursion}
use Rattle.cmdlines_base.specs.declared.argument.ArgDisposition.{ArgDisposition}
use Rattle.cmdlines_base.specs.declared.argument.ArgDisposition.TheVariants.{Separated, CanBeConcatenated, CanBeSeparated, Concatenated}
use Rattle.cmdlines_base.specs.Table.{Entry, after, may_follow, joined_by, delimiter_allows, Fits, longest_fit, NoLonger}
use Rattle.cmdlines_base.specs.Reading.{Item, raw, unknown, flag, valued, Start, after_dashes, is_after, is_double_dash, whole, awaits, ends, loose, value_in, start_as, start_either, first_by, first_word, reading, before, from_last, from_first}
use Rattle.cmdlines_base.specs.Printing.{is_j, is_empty_j, either_way, printed, joined, normal, words_of}
use Rattle.cmdlines_base.specs.Again.{IsClear, lets_dashes, ReadsAgain, ReadsTogether, AllReadAgain}
use Rattle.cmdlines_base.proofs.ReadingLemmas.{reading-alone, reading-with_value}
use Rattle.cmdlines_base.proofs.TableLemmas.{IsLongestOf, IsLongestOf-longest_fit, after-append, Unfit}

-- two fronts of one word, the second no shorter: it goes on from the first
pub front_longer : (a b r s : List ℕ) → a ++ r ≡ b ++ s → length a ≤ length b → (more : List ℕ) × (b ≡ a ++ more)
front_longer [] b r s h l = (b, refl)
front_longer (x ∷ a) [] r s h l = absurd (omega arith)
front_longer (x ∷ a) (y ∷ b) r s h l =
    let heads : x ≡ y = cc in
    let tails : a ++ r ≡ b ++ s = cc in
    let shorter : length a ≤ length b = omega arith in
    let rec = front_longer a b r s tails shorter in
    (rec.0, let e = rec.1 in cc)

-- as long, they are one
pub front_same : (a b r s : List ℕ) → a ++ r ≡ b ++ s → length a ≡ length b → a ≡ b
front_same [] [] r s h l = refl
front_same [] (y ∷ b) r s h l = absurd (omega arith)
front_same (x ∷ a) [] r s h l = absurd (omega arith)
front_same (x ∷ a) (y ∷ b) r s h l =
    let tails : a ++ r ≡ b ++ s = cc in
    let long : length a ≡ length b = omega arith in
    let e = front_same a b r s tails long in cc

-- what comes after the flag may come there
abbrev first_allowed : Option ℕ → List ℕ → Bool
first_allowed d [] = true
first_allowed d (b ∷ bs) = delimiter_allows d b

module _ {K : Type 0} (table : List (Entry K)) (clear : IsClear table) (dashes : Bool) (lets : lets_dashes dashes table ≡ true) where
  -- an entry that fits, and than which no fitting entry is longer, is what a search gives
  pub longest_unique : (word : List ℕ) (e : Entry K) → Contains table e → Fits e word → ((y : Entry K) → Contains table y → Fits y word → length y.flag ≤ length e.flag) → longest_fit table word ≡ Some e
  longest_unique word e among fit most = by (longest_fit table word) refl (IsLongestOf-longest_fit table word)
    where
      by : (r : Option (Entry K)) → longest_fit table word ≡ r → IsLongestOf table word r → longest_fit table word ≡ Some e
      by None q d = absurd (All-contains (Unfit word) table e d among fit)
      by (Some d) q h =
          let up : length d.flag ≤ length e.flag = most d h.among h.fits in
          let down : length e.flag ≤ length d.flag = All-contains (NoLonger word d) table e h.longest among fit in
          let long : length d.flag ≡ length e.flag = omega arith in
          let same : d.flag ≡ e.flag = front_same d.flag e.flag h.fits.0 fit.0 (sym h.fits.1 ∙ fit.1) long in
          q ∙ ap Some (clear.one d e h.among among same)

  -- a flag alone has its own entry
  pub flag_again : (e : Entry K) → Contains table e → longest_fit table e.flag ≡ Some e
  flag_again e among = longest_unique e.flag e among ([], sym (append-nil e.flag), refl)
      (λ y in' fit. omega (arith, ap length fit.1, length-append y.flag fit.0))

  -- so has a flag of two bytes with a value after it
  pub joined_again : (e : Entry K) (rest : List ℕ) → Contains table e → is_j e ≡ true → length e.flag ≡ 2 → may_follow e rest ≡ true → longest_fit table (e.flag ++ rest) ≡ Some e
  joined_again e rest among j two may = longest_unique (e.flag ++ rest) e among (rest, refl, may)
      (λ y in' fit. by y in' fit (cases_le (length y.flag) (length e.flag)))
    where
      cases_le : (a b : ℕ) → (a ≤ b) ⊎ (b < a)
      cases_le a b = grind arith

      by : (y : Entry K) → Contains table y → Fits y (e.flag ++ rest) → ((length y.flag ≤ length e.flag) ⊎ (length e.flag < length y.flag)) → length y.flag ≤ length e.flag
      by y in' fit (inl l) = l
      by y in' fit (inr l) =
          let shorter : length e.flag ≤ length y.flag = omega arith in
          let on = front_longer e.flag y.flag rest fit.0 fit.1 shorter in
          let none : on.0 ≡ [] = clear.alone y e on.0 in' among j two on.1 in
          let same : y.flag ≡ e.flag = on.1 ∙ ap (λ m. e.flag ++ m) none ∙ append-nil e.flag in
          omega (arith, ap length same)

  -- what a first word makes reads again, unless it is an empty value that may be joined or separate
  abbrev ReadsStart : Start K → Type 0
  ReadsStart (whole a) = ((is_after a && dashes) || is_empty_j table a) ≡ false → ReadsAgain dashes table a
  ReadsStart ends = dashes ≡ true
  ReadsStart (awaits f k d) = ((v : List ℕ) → is_empty_j table (valued f k v d) ≡ false → ReadsAgain dashes table (valued f k v d)) × (option_map_or is_j (longest_fit table f) false ≡ either_way d)

  loose_again : (w : List ℕ) → first_word dashes table w ≡ whole (loose w) → ReadsAgain dashes table (loose w)
  loose_again [] h = record { item = raw []; reads = reading-alone dashes table [] (raw []) h; alike = refl }
  loose_again (b ∷ bs) h = by (b == 45) h
    where
      by : (s : Bool) → first_word dashes table (b ∷ bs) ≡ whole (cond s (unknown (b ∷ bs)) (raw (b ∷ bs))) → ReadsAgain dashes table (cond s (unknown (b ∷ bs)) (raw (b ∷ bs)))
      by true q = record { item = unknown (b ∷ bs); reads = reading-alone dashes table (b ∷ bs) (unknown (b ∷ bs)) q; alike = refl }
      by false q = record { item = raw (b ∷ bs); reads = reading-alone dashes table (b ∷ bs) (raw (b ∷ bs)) q; alike = refl }

  -- a value joined by concatenation alone
  concatenated_again : (f : List ℕ) (k : K) (d : Option ℕ) (r : List ℕ)
      → first_word dashes table f ≡ whole (valued f k [] (Concatenated d))
      → first_word dashes table (f ++ r) ≡ whole (valued f k (value_in d r) (Concatenated d))
      → first_allowed d r ≡ true
      → ReadsAgain dashes table (valued f k (value_in d r) (Concatenated d))
  concatenated_again f k None [] flagged here may = record { item = valued f k [] (Concatenated None); reads = reading-alone dashes table f _ flagged; alike = refl }
  concatenated_again f k None (b ∷ bs) flagged here may = record { item = valued f k (b ∷ bs) (Concatenated None); reads = reading-alone dashes table (f ++ b ∷ bs) _ here; alike = refl }
  concatenated_again f k (Some x) [] flagged here may = record { item = valued f k [] (Concatenated (Some x)); reads = reading-alone dashes table f _ flagged; alike = refl }
  concatenated_again f k (Some x) (b ∷ []) flagged here may = record { item = valued f k [] (Concatenated (Some x)); reads = reading-alone dashes table f _ flagged; alike = refl }
  concatenated_again f k (Some x) (b ∷ c ∷ cs) flagged here may =
      let same : b ≡ x = (Decides-eqb b x).0 may in
      let there = rw same at here in
      record { item = valued f k (c ∷ cs) (Concatenated (Some x)); reads = reading-alone dashes table (f ++ x ∷ c ∷ cs) _ there; alike = refl }

  -- a value that may be joined or separate, and isn't empty, after its flag
  joined_item : (f : List ℕ) (k : K) (d : Option ℕ)
      → ((x : ℕ) (xs : List ℕ) → length f ≡ 2 → delimiter_allows d x ≡ true → first_word dashes table (f ++ x ∷ xs) ≡ whole (valued f k (value_in d (x ∷ xs)) (CanBeSeparated d)))
      → (c : ℕ) (cs : List ℕ) → length f ≡ 2 → (rest : List (List ℕ)) → reading dashes table (joined f d (c ∷ cs) ∷ rest) ≡ before (valued f k (c ∷ cs) (CanBeSeparated d)) (reading dashes table rest)
  joined_item f k None joins_again c cs two rest = reading-alone dashes table (f ++ c ∷ cs) _ (joins_again c cs two refl) rest
  joined_item f k (Some x) joins_again c cs two rest = reading-alone dashes table (f ++ x ∷ c ∷ cs) _ (joins_again x (c ∷ cs) two ((Decides-eqb x x).1 refl)) rest

  module _ (f : List ℕ) (k : K) (d : Option ℕ)
      (flagged : first_word dashes table f ≡ awaits f k (CanBeConcatenated d))
      (joins_again : (x : ℕ) (xs : List ℕ) → length f ≡ 2 → delimiter_allows d x ≡ true → first_word dashes table (f ++ x ∷ xs) ≡ whole (valued f k (value_in d (x ∷ xs)) (CanBeSeparated d)))
      (j : option_map_or is_j (longest_fit table f) false ≡ true) where
    either_written : (c : ℕ) (cs : List ℕ) → ReadsAgain dashes table (valued f k (c ∷ cs) (CanBeSeparated d))
    either_written c cs = by (length f == 2) refl
      where
        by : (s : Bool) → (length f == 2) ≡ s → ReadsAgain dashes table (valued f k (c ∷ cs) (CanBeSeparated d))
        by true q = record {
          item = valued f k (c ∷ cs) (CanBeSeparated d);
          reads = λ rest. rw q (joined_item f k d joins_again c cs ((Decides-eqb (length f) 2).0 q) rest);
          alike = refl;
        }
        by false q = record {
          item = valued f k (c ∷ cs) (CanBeConcatenated d);
          reads = λ rest. rw q (reading-with_value dashes table f (c ∷ cs) f k (CanBeConcatenated d) flagged rest);
          alike = refl;
        }

    either_again : (r : List ℕ) → ReadsStart (start_either f k d r)
    either_again [] = (by, j)
      where
        by : (v : List ℕ) → is_empty_j table (valued f k v (CanBeConcatenated d)) ≡ false → ReadsAgain dashes table (valued f k v (CanBeConcatenated d))
        by [] full = cc
        by (c ∷ cs) full = let w = either_written c cs in record { item = w.item; reads = w.reads; alike = w.alike }
    either_again (b ∷ bs) = by (value_in d (b ∷ bs))
      where
        by : (v : List ℕ) → is_empty_j table (valued f k v (CanBeSeparated d)) ≡ false → ReadsAgain dashes table (valued f k v (CanBeSeparated d))
        by [] n = cc
        by (c ∷ cs) n = either_written c cs

  -- by an entry's disposition
  start_again : (f : List ℕ) (k : K) (t : Option ArgDisposition) (r : List ℕ)
      → first_word dashes table f ≡ start_as f k t []
      → first_word dashes table (f ++ r) ≡ start_as f k t r
      → ((x : ℕ) (xs : List ℕ) → length f ≡ 2 → option_map_or either_way t false ≡ true → option_map_or (λ d. delimiter_allows d x) (option_and_then joined_by t) false ≡ true → first_word dashes table (f ++ x ∷ xs) ≡ start_as f k t (x ∷ xs))
      → option_map_or is_j (longest_fit table f) false ≡ option_map_or either_way t false
      → may_follow (record { flag = f; kind = k; takes = t }) r ≡ true
      → ReadsStart (start_as f k t r)
  start_again f k None r flagged here on j may = λ full. record { item = flag f k; reads = reading-alone dashes table f (flag f k) flagged; alike = refl }
  start_again f k (Some Separated) r flagged here on j may = ((λ v full. record { item = valued f k v Separated; reads = reading-with_value dashes table f v f k Separated flagged; alike = refl }), j)
  start_again f k (Some (Concatenated d)) r flagged here on j may = λ full. concatenated_again f k d r (flagged ∙ empty d) here (allowed r may)
    where
      empty : (d : Option ℕ) → whole (valued f k (value_in d []) (Concatenated d)) ≡ whole (valued f k [] (Concatenated d))
      empty None = refl
      empty (Some x) = refl

      allowed : (r : List ℕ) → may_follow (record { flag = f; kind = k; takes = Some (Concatenated d) }) r ≡ true → first_allowed d r ≡ true
      allowed [] m = refl
      allowed (b ∷ bs) m = m
  start_again f k (Some (CanBeConcatenated d)) r flagged here on j may = either_again f k d flagged (λ x xs two a. on x xs two refl a) j r
  start_again f k (Some (CanBeSeparated d)) r flagged here on j may = either_again f k d flagged (λ x xs two a. on x xs two refl a) j r

  after-self : (f : List ℕ) → after f f ≡ Some []
  after-self f = ap (λ w. after f w) (sym (append-nil f)) ∙ after-append f []

  -- a word that an entry fits doesn't end the options
  goes_on : (word : List ℕ) (e : Entry K) → longest_fit table word ≡ Some e → (dashes && is_double_dash word) ≡ false
  goes_on word e found = by dashes (is_double_dash word) refl lets
    where
      by : (d s : Bool) → is_double_dash word ≡ s → lets_dashes d table ≡ true → (d && s) ≡ false
      by false s q l = refl
      by true false q l = refl
      by true true q l =
          let same : word ≡ codes "--" = (bytes_eq-Decides word (codes "--")).0 q in
          let some : longest_fit table (codes "--") ≡ Some e = ap (longest_fit table) (sym same) ∙ found in
          let bad : false ≡ true = sym (ap (λ o. not (is_some o)) some) ∙ l in
          absurd (cc)

  first-of : (e : Entry K) (word r : List ℕ) → longest_fit table word ≡ Some e → after e.flag word ≡ Some r → first_word dashes table word ≡ start_as e.flag e.kind e.takes r
  first-of e word r found b = ap (λ s. cond s ends (first_by (longest_fit table word) word)) (goes_on word e found) ∙ ap (λ o. first_by o word) found ∙ ap (λ o. start_as e.flag e.kind e.takes (unwrap_or o [])) b

  -- each word
  pub starts : (word : List ℕ) → ReadsStart (first_word dashes table word)
  starts word = by (longest_fit table word) refl (IsLongestOf-longest_fit table word)
    where
      by : (o : Option (Entry K)) → longest_fit table word ≡ o → IsLongestOf table word o → ReadsStart (first_word dashes table word)
      by None q h = at (dashes && is_double_dash word) refl
        where
          at : (s : Bool) → (dashes && is_double_dash word) ≡ s → ReadsStart (first_word dashes table word)
          at true e = subst ReadsStart (ap (λ s. cond s ends (first_by (longest_fit table word) word)) (sym e)) (first_so dashes (is_double_dash word) e)
          at false e =
              let first : first_word dashes table word ≡ whole (loose word) = ap (λ s. cond s ends (first_by (longest_fit table word) word)) e ∙ ap (λ o. first_by o word) q in
              subst ReadsStart (sym first) (λ full. loose_again word first)
      by (Some e) q h =
          let r : List ℕ = h.fits.0 in
          let is : word ≡ e.flag ++ r = h.fits.1 in
          let stands : after e.flag word ≡ Some r = ap (λ w. after e.flag w) is ∙ after-append e.flag r in
          let first : first_word dashes table word ≡ start_as e.flag e.kind e.takes r = first-of e word r q stands in
          let found : longest_fit table e.flag ≡ Some e = flag_again e h.among in
          let flagged : first_word dashes table e.flag ≡ start_as e.flag e.kind e.takes [] = first-of e e.flag [] found (after-self e.flag) in
          subst ReadsStart (sym first)
          (start_again e.flag e.kind e.takes r flagged (ap (λ w. first_word dashes table w) (sym is) ∙ first)
          (λ x xs two j a. first-of e (e.flag ++ x ∷ xs) (x ∷ xs) (joined_again e (x ∷ xs) h.among j two a) (after-append e.flag (x ∷ xs)))
          (ap (λ o. option_map_or is_j o false) found) h.fits.2)

  abbrev Again : Item K → Type 0
  Again a = ((is_after a && dashes) || is_empty_j table a) ≡ false → ReadsAgain dashes table a

  -- what comes after double dashes needn't
  none_again : dashes ≡ true → (words : List (List ℕ)) → AllByRecursion Again (map after_dashes words)
  none_again ended [] = tt
  none_again ended (w ∷ ws) = ((λ full. let bad : true ≡ false = sym (ap (λ d. d || false) ended) ∙ full in absurd (cc)), none_again ended ws)

  -- each item of a reading
  pub reads_all : (words : List (List ℕ)) → AllByRecursion Again (reading dashes table words).items
  reads_all [] = tt
  reads_all (w ∷ []) = by (first_word dashes table w) (starts w)
    where
      by : (s : Start K) → ReadsStart s → AllByRecursion Again (from_last s).items
      by (whole a) h = (h, tt)
      by (awaits f k Separated) h = tt
      by (awaits f k (CanBeConcatenated None)) h = ((λ full. let j = h.1 in cc), tt)
      by (awaits f k (CanBeConcatenated (Some x))) h = tt
      by (awaits f k (CanBeSeparated d)) h = tt
      by (awaits f k (Concatenated d)) h = tt
      by ends h = tt
  reads_all (w ∷ v ∷ ws) = by (first_word dashes table w) (starts w) (reads_all (v ∷ ws)) (reads_all ws)
    where
      by : (s : Start K) → ReadsStart s → AllByRecursion Again (reading dashes table (v ∷ ws)).items → AllByRecursion Again (reading dashes table ws).items → AllByRecursion Again (from_first s v ws (reading dashes table (v ∷ ws)) (reading dashes table ws)).items
      by (whole a) h one two = (h, one)
      by (awaits f k d) h one two = (h.0 v, two)
      by ends h one two = none_again h (v ∷ ws)

module _ {K : Type 0} (dashes : Bool) (table : List (Entry K)) where
  -- items written one after another
  pub again_all : (items : List (Item K)) → AllReadAgain dashes table items → (rest : List (List ℕ)) → ReadsTogether dashes table items rest
  again_all [] h rest = record { found = []; reads = refl; alike = refl }
  again_all (a ∷ items) h rest =
      let more = again_all items h.1 rest in
      let written : List (List ℕ) = words_of items in
      let one = h.0 in record {
        found = one.item ∷ more.found;
        reads = ap (λ w. reading dashes table w) (append_assoc (printed (normal a)) written rest) ∙ one.reads (written ++ rest) ∙ ap (before one.item) more.reads;
        alike = λ i. one.alike i ∷ more.alike i;
      }
