-- Laws of words that are kept where they appear first.
use Rattle.std.proofs.Common.{◌≡◌, ℕ, Bool, true, false, ◌||◌, ◌&&◌, cond, suc, arith, List, [], ◌∷◌, ◌++◌, length, nat_lt, None, Some, refl, ap, sym, ◌∙◌, append_assoc}
use Rattle.std.proofs.lemmas.List.Folds.{list_any-append}
use Rattle.std.proofs.lemmas.Slice.Eq.{bytes_eq-Decides}
use Rattle.std.proofs.lemmas.Map.Text.{is_eq-slice_cmp}
use Rattle.std.specs.Cmp.Lexicographic.{slice_cmp}
use Rattle.std.specs.Ordering.{is_eq, nat_cmp}
use Rattle.std.specs.Prelude.{not, find, filter}
use Rattle.std.specs.List.{list_any}
use Rattle.std.specs.Str.{bytes_eq}
use Rattle.base_files.specs.Bytes.{Bytes}
use Rattle.cmdlines_tables.specs.Small.{differs_from, without, first_appearances, arch_flag, archs_of}

bytes_same : (xs : Bytes) → bytes_eq xs xs ≡ true
bytes_same xs = (bytes_eq-Decides xs xs).1 refl

bytes_turned : (xs ys : Bytes) → bytes_eq xs ys ≡ bytes_eq ys xs
bytes_turned xs ys = by (bytes_eq xs ys) refl (bytes_eq ys xs) refl
  where
    by : (s : Bool) → bytes_eq xs ys ≡ s → (t : Bool) → bytes_eq ys xs ≡ t → bytes_eq xs ys ≡ bytes_eq ys xs
    by true e t f = e ∙ sym ((bytes_eq-Decides ys xs).1 (sym ((bytes_eq-Decides xs ys).0 e)))
    by false e true f = (bytes_eq-Decides xs ys).1 (sym ((bytes_eq-Decides ys xs).0 f)) ∙ sym f
    by false e false f = e ∙ sym f

-- the word is one of those that were found
abbrev pub is_among : List Bytes → Bytes → Bool
is_among found word = list_any (λ other. bytes_eq other word) found

abbrev pub is_new : List Bytes → Bytes → Bool
is_new found word = not (is_among found word)

-- the architectures of the words that aren't among those that were found
abbrev pub left_of : List Bytes → List Bytes → List Bytes
left_of found words = filter (is_new found) (archs_of words)

pub among-more : (found : List Bytes) (word other : Bytes) → is_among (found ++ word ∷ []) other ≡ cond (bytes_eq word other) true (is_among found other)
among-more found word other = list_any-append (λ w. bytes_eq w other) found (word ∷ []) ∙ by (is_among found other) (bytes_eq word other)
  where
    by : (s t : Bool) → (s || (t || false)) ≡ cond t true s
    by true true = refl
    by true false = refl
    by false true = refl
    by false false = refl

-- the flag adds no architecture
pub left-flag : (found : List Bytes) (word : Bytes) (words : List Bytes) → bytes_eq word arch_flag ≡ true → left_of found (word ∷ words) ≡ left_of found words
left-flag found word words is_flag = rw is_flag refl

-- to leave a word out that was found changes nothing
filter-without : (found : List Bytes) (word : Bytes) (words : List Bytes) → is_among found word ≡ true → filter (is_new found) (without word words) ≡ filter (is_new found) words
filter-without found word [] seen = refl
filter-without found word (other ∷ words) seen = by (bytes_eq other word) refl (filter-without found word words seen)
  where
    by : (s : Bool) → bytes_eq other word ≡ s → filter (is_new found) (without word words) ≡ filter (is_new found) words → filter (is_new found) (without word (other ∷ words)) ≡ filter (is_new found) (other ∷ words)
    by true e rest =
        let same : is_among found other ≡ true = ap (is_among found) ((bytes_eq-Decides other word).0 e) ∙ seen in
        rw (e, same) rest
    by false e rest = rw e (ap (λ (ws : List Bytes). cond (is_new found other) (other ∷ ws) ws) rest)

pub left-seen : (found : List Bytes) (word : Bytes) (words : List Bytes) → bytes_eq word arch_flag ≡ false → is_among found word ≡ true → left_of found (word ∷ words) ≡ left_of found words
left-seen found word words no_flag seen = rw (no_flag, seen) (filter-without found word (archs_of words) seen)

-- to leave a word out is to have found it
filter-more : (found : List Bytes) (word : Bytes) (words : List Bytes) → filter (is_new found) (without word words) ≡ filter (is_new (found ++ word ∷ [])) words
filter-more found word [] = refl
filter-more found word (other ∷ words) = by (bytes_eq other word) refl (filter-more found word words)
  where
    by : (s : Bool) → bytes_eq other word ≡ s → filter (is_new found) (without word words) ≡ filter (is_new (found ++ word ∷ [])) words → filter (is_new found) (without word (other ∷ words)) ≡ filter (is_new (found ++ word ∷ [])) (other ∷ words)
    by true e rest = rw (e, among-more found word other, bytes_turned word other, e) rest
    by false e rest = rw (e, among-more found word other, bytes_turned word other, e) (ap (λ (ws : List Bytes). cond (is_new found other) (other ∷ ws) ws) rest)

-- a word that is new comes next
pub left-new : (found : List Bytes) (word : Bytes) (words : List Bytes) → bytes_eq word arch_flag ≡ false → is_among found word ≡ false → (found ++ word ∷ []) ++ left_of (found ++ word ∷ []) words ≡ found ++ left_of found (word ∷ words)
left-new found word words no_flag new = rw (no_flag, new) (append_assoc found (word ∷ []) (left_of (found ++ word ∷ []) words) ∙ ap (λ (ws : List Bytes). found ++ word ∷ ws) (sym (filter-more found word (archs_of words))))

-- a set that took a word holds it, and what it held before
pub among-set : (found : List Bytes) (word other : Bytes) (now before : Bool) → now ≡ cond (is_eq (slice_cmp nat_cmp word other)) true before → before ≡ is_among found other → now ≡ is_among (found ++ word ∷ []) other
among-set found word other now before taken held = taken ∙ ap (λ b. cond b true before) (is_eq-slice_cmp word other) ∙ ap (λ b. cond (bytes_eq word other) true b) held ∙ sym (among-more found word other)

-- nothing was found yet
pub left-start : (words : List Bytes) → left_of [] words ≡ archs_of words
left-start words = all (archs_of words)
  where
    all : (ws : List Bytes) → filter (is_new []) ws ≡ ws
    all [] = refl
    all (w ∷ ws) = ap (λ (rest : List Bytes). w ∷ rest) (all ws)

-- one of the words that pass a test passes another: it passes both
any-filter : (p q : Bytes → Bool) (words : List Bytes) → list_any p (filter q words) ≡ list_any (λ w. q w && p w) words
any-filter p q [] = refl
any-filter p q (word ∷ words) = by (q word) refl (any-filter p q words)
  where
    by : (s : Bool) → q word ≡ s → list_any p (filter q words) ≡ list_any (λ w. q w && p w) words → list_any p (filter q (word ∷ words)) ≡ ((q word && p word) || list_any (λ w. q w && p w) words)
    by true e rest = rw e (ap (λ b. p word || b) rest)
    by false e rest = rw e rest

-- how a test of lengths computes
longer : (n : ℕ) → nat_lt 0 (suc n) ≡ true
longer n = grind arith

shorter : (n : ℕ) → nat_lt 1 (suc n) ≡ nat_lt 0 n
shorter n = grind arith

-- a word passes where those that pass aren't none
length-any : (p : Bytes → Bool) (words : List Bytes) → nat_lt 0 (length (filter p words)) ≡ list_any p words
length-any p [] = refl
length-any p (word ∷ words) = by (p word) refl (length-any p words)
  where
    by : (s : Bool) → p word ≡ s → nat_lt 0 (length (filter p words)) ≡ list_any p words → nat_lt 0 (length (filter p (word ∷ words))) ≡ list_any p (word ∷ words)
    by true e rest = rw e (longer (length (filter p words)))
    by false e rest = rw e rest

-- a word that differs is one of those that appear first, too
any-first : (word : Bytes) (words : List Bytes) → list_any (differs_from word) (first_appearances words) ≡ list_any (differs_from word) words
any-first word [] = refl
any-first word (other ∷ words) = by (bytes_eq other word) refl (any-first word words)
  where
    twice : (s : Bool) → (s && s) ≡ s
    twice true = refl
    twice false = refl

    none : (ws : List Bytes) → list_any (λ w. differs_from word w && differs_from word w) ws ≡ list_any (differs_from word) ws
    none [] = refl
    none (w ∷ ws) = rw (twice (differs_from word w)) (ap (λ b. differs_from word w || b) (none ws))

    by : (s : Bool) → bytes_eq other word ≡ s → list_any (differs_from word) (first_appearances words) ≡ list_any (differs_from word) words → list_any (differs_from word) (first_appearances (other ∷ words)) ≡ list_any (differs_from word) (other ∷ words)
    by true e rest =
        let same : other ≡ word = (bytes_eq-Decides other word).0 e in
        rw e (ap (λ w. list_any (differs_from word) (without w (first_appearances words))) same ∙ any-filter (differs_from word) (differs_from word) (first_appearances words) ∙ none (first_appearances words) ∙ rest)
    by false e rest = rw e refl

-- without a first architecture there is none
pub no_archs : (words : List Bytes) → find (differs_from arch_flag) words ≡ None → archs_of words ≡ []
no_archs [] h = refl
no_archs (word ∷ words) h = by (bytes_eq word arch_flag) refl h (no_archs words)
  where
    by : (s : Bool) → bytes_eq word arch_flag ≡ s → find (differs_from arch_flag) (word ∷ words) ≡ None → (find (differs_from arch_flag) words ≡ None → archs_of words ≡ []) → archs_of (word ∷ words) ≡ []
    by true e h rest = rw e (rest (rw e at h))
    by false e h rest = let bad = rw e at h in cc

-- there are two where one differs from the first
pub two_archs : (words : List Bytes) (first : Bytes) → find (differs_from arch_flag) words ≡ Some first → list_any (λ word. differs_from arch_flag word && differs_from first word) words ≡ nat_lt 1 (length (archs_of words))
two_archs [] first h = cc
two_archs (word ∷ words) first h = by (bytes_eq word arch_flag) refl h (two_archs words first)
  where
    by : (s : Bool) → bytes_eq word arch_flag ≡ s → find (differs_from arch_flag) (word ∷ words) ≡ Some first → (find (differs_from arch_flag) words ≡ Some first → list_any (λ other. differs_from arch_flag other && differs_from first other) words ≡ nat_lt 1 (length (archs_of words))) → list_any (λ other. differs_from arch_flag other && differs_from first other) (word ∷ words) ≡ nat_lt 1 (length (archs_of (word ∷ words)))
    by true e h rest = rw e (rest (rw e at h))
    by false e h rest =
        let same : word ≡ first = let found = rw e at h in cc in
        let kept = without arch_flag words in
        let beside = length-any (differs_from word) (first_appearances kept) ∙ any-first word kept ∙ any-filter (differs_from word) (differs_from arch_flag) words in
        ap (λ (f : Bytes). list_any (λ other. differs_from arch_flag other && differs_from f other) (word ∷ words)) (sym same) ∙ rw (e, shorter (length (without word (first_appearances kept))), bytes_same word) (sym beside)

-- what isn't so
pub untrue : (s : Bool) → not s ≡ true → s ≡ false
untrue true h = cc
untrue false h = refl

pub unfalse : (s : Bool) → not s ≡ false → s ≡ true
unfalse true h = refl
unfalse false h = cc
