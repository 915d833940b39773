-- The names of a rule, letter by letter. 32 is a space, and 92 a backslash.
use Rattle.std.proofs.Common.{◌≡◌, ℕ, ◌==◌, ◌&&◌, Bool, true, false, not, cond, List, [], ◌∷◌, ◌++◌, length, map, refl, ap, sym, ◌∙◌, nat_eq, append_assoc, arith, unwrap_or, take, drop}
use Rattle.std.specs.List.{slice_split, onto_first}
use Rattle.std.specs.Cmp.Lexicographic.{pointwise}
use Rattle.std.proofs.lemmas.List.{append-nil}
use Rattle.base_files.specs.Bytes.{Bytes}
use Rattle.rustc_texts.specs.DepInfo.{Place, first_of, placed, ends_name, is_letter, name_at, without_empty_last}

-- the names of bytes after this one, the last one among them
abbrev pub all_names : ℕ → Bytes → List Bytes
all_names before bytes = map name_at (slice_split ends_name (placed before bytes))

-- the names that go on where one has begun
abbrev pub going_on : Bytes → List Bytes → List Bytes
going_on name [] = name ∷ []
going_on name (first ∷ others) = (name ++ first) ∷ others

-- the first place of a name, and those after it
name_at-cons : (x : Place) (places : List Place) → name_at (x ∷ places) ≡ cond (is_letter x) (x.here ∷ name_at places) (name_at places)
name_at-cons x places = by (is_letter x) refl
  where
    by : (t : Bool) → is_letter x ≡ t → name_at (x ∷ places) ≡ cond t (x.here ∷ name_at places) (name_at places)
    by true e = rw e refl
    by false e = rw e refl

-- a letter goes on the first name
onto-letter : (x : Place) (parts : List (List Place)) → is_letter x ≡ true → map name_at (onto_first x parts) ≡ onto_first x.here (map name_at parts)
onto-letter x [] e = rw (name_at-cons x [], e) refl
onto-letter x (part ∷ parts) e = rw (name_at-cons x part, e) refl

-- what is no letter goes, where a letter comes after it
onto-mark : (x y : Place) (parts : List (List Place)) → is_letter x ≡ false → is_letter y ≡ true → map name_at (onto_first x (onto_first y parts)) ≡ onto_first y.here (map name_at parts)
onto-mark x y [] e f = rw (name_at-cons x (y ∷ []), e, name_at-cons y [], f) refl
onto-mark x y (part ∷ parts) e f = rw (name_at-cons x (y ∷ part), e, name_at-cons y part, f) refl

-- places with the same byte and the same one after it make the same names
same-onto : (before b next : ℕ) (parts : List (List Place)) → map name_at (onto_first (record { before = before; here = b; after = next }) parts) ≡ map name_at (onto_first (record { before = 0; here = b; after = next }) parts)
same-onto before b next [] = rw (name_at-cons (record { before = before; here = b; after = next }) [], name_at-cons (record { before = 0; here = b; after = next }) []) refl
same-onto before b next (part ∷ parts) = rw (name_at-cons (record { before = before; here = b; after = next }) part, name_at-cons (record { before = 0; here = b; after = next }) part) refl

-- the names of a byte after another one, once it is known whether a name ends there
abbrev begun : ℕ → ℕ → Bytes → Bool → List Bytes
begun before b bs t =
    let place : Place = record { before = before; here = b; after = unwrap_or (first_of bs) 0 } in
    let parts = slice_split ends_name (placed b bs) in
    map name_at (cond t ([] ∷ parts) (onto_first place parts))

same-begun : (before b : ℕ) (bs : Bytes) (t : Bool) → begun before b bs t ≡ begun 0 b bs t
same-begun before b bs true = refl
same-begun before b bs false = same-onto before b (unwrap_or (first_of bs) 0) (slice_split ends_name (placed b bs))

-- names don't depend on what came before them, unless it is a backslash
after-any : (before : ℕ) (bs : Bytes) → (before == 92) ≡ false → all_names before bs ≡ all_names 0 bs
after-any before [] e = refl
after-any before (b ∷ bs) e = ap (λ t. begun before b bs ((b == 32) && not t)) e ∙ same-begun before b bs ((b == 32) && true)

-- nor do they before any byte but a space
before-any : (before b : ℕ) (bs : Bytes) → (b == 32) ≡ false → all_names before (b ∷ bs) ≡ all_names 0 (b ∷ bs)
before-any before b bs e = ap (λ t. begun before b bs (t && not (before == 92))) e ∙ same-begun before b bs false ∙ sym (ap (λ t. begun 0 b bs (t && true)) e)

-- a space ends the first name
pub space : (bs : Bytes) → all_names 0 (32 ∷ bs) ≡ [] ∷ all_names 0 bs
space bs = ap (λ (names : List Bytes). [] ∷ names) (after-any 32 bs refl)

-- a space with a backslash before it goes on it
pub escaped : (bs : Bytes) → all_names 0 (92 ∷ 32 ∷ bs) ≡ onto_first 32 (all_names 0 bs)
escaped bs =
    let x : Place = record { before = 0; here = 92; after = 32 } in
    let y : Place = record { before = 92; here = 32; after = unwrap_or (first_of bs) 0 } in
    onto-mark x y (slice_split ends_name (placed 32 bs)) refl refl ∙ ap (onto_first 32) (after-any 32 bs refl)

-- and so does any other byte
pub letter : (b : ℕ) (bs : Bytes) → (b == 32) ≡ false → pointwise nat_eq (take 2 (b ∷ bs)) (92 ∷ 32 ∷ []) ≡ false → all_names 0 (b ∷ bs) ≡ onto_first b (all_names 0 bs)
letter b bs e f =
    let place : Place = record { before = 0; here = b; after = unwrap_or (first_of bs) 0 } in
    ap (λ t. begun 0 b bs (t && true)) e ∙ onto-letter place (slice_split ends_name (placed b bs)) (counts bs f) ∙ ap (onto_first b) (same (b == 92) refl bs f)
  where
    counts : (bs : Bytes) → pointwise nat_eq (take 2 (b ∷ bs)) (92 ∷ 32 ∷ []) ≡ false → not (b == 92 && unwrap_or (first_of bs) 0 == 32) ≡ true
    counts [] f = grind arith
    counts (c ∷ cs) f = grind (arith, f)

    same : (t : Bool) → (b == 92) ≡ t → (bs : Bytes) → pointwise nat_eq (take 2 (b ∷ bs)) (92 ∷ 32 ∷ []) ≡ false → all_names b bs ≡ all_names 0 bs
    same false q bs f = after-any b bs q
    same true q [] f = refl
    same true q (c ∷ cs) f = before-any b c cs (grind (arith, q, f))

pub going_on-letter : (name : Bytes) (b : ℕ) (names : List Bytes) → going_on name (onto_first b names) ≡ going_on (name ++ b ∷ []) names
going_on-letter name b [] = refl
going_on-letter name b (first ∷ others) = ap (λ (one : Bytes). one ∷ others) (sym (append_assoc name (b ∷ []) first))

pub going_on-end : (name : Bytes) (names : List Bytes) → going_on name ([] ∷ names) ≡ name ∷ names
going_on-end name names = ap (λ (one : Bytes). one ∷ names) (append-nil name)

-- a last name is dropped where it is empty
pub last-empty : (names : List Bytes) → without_empty_last (names ++ [] ∷ []) ≡ names
last-empty [] = refl
last-empty (name ∷ []) = refl
last-empty (name ∷ other ∷ others) = ap (λ (l : List Bytes). name ∷ l) (last-empty (other ∷ others))

pub last-kept : (names : List Bytes) (last : Bytes) → (length last == 0) ≡ false → without_empty_last (names ++ last ∷ []) ≡ names ++ last ∷ []
last-kept [] last e = rw e refl
last-kept (name ∷ []) last e = rw e refl
last-kept (name ∷ other ∷ others) last e = ap (λ (l : List Bytes). name ∷ l) (last-kept (other ∷ others) last e)

-- no name has begun yet
pub going_on-start : (bs : Bytes) → going_on [] (all_names 0 bs) ≡ all_names 0 bs
going_on-start [] = refl
going_on-start (b ∷ bs) = by ((b == 32) && true) (slice_split ends_name (placed b bs))
  where
    by : (t : Bool) (parts : List (List Place)) → going_on [] (map name_at (cond t ([] ∷ parts) (onto_first (record { before = 0; here = b; after = unwrap_or (first_of bs) 0 }) parts))) ≡ map name_at (cond t ([] ∷ parts) (onto_first (record { before = 0; here = b; after = unwrap_or (first_of bs) 0 }) parts))
    by true parts = refl
    by false [] = refl
    by false (part ∷ parts) = refl

marked : (rest : Bytes) → pointwise nat_eq (take 2 rest) (92 ∷ 32 ∷ []) ≡ true → rest ≡ 92 ∷ 32 ∷ drop 2 rest
marked [] e = cc
marked (b ∷ []) e = grind (arith, e)
marked (b ∷ c ∷ rest) e = grind (arith, e)

pub none : (rest : Bytes) → length rest ≡ 0 → rest ≡ []
none [] e = refl
none (b ∷ rest) e = cc

module _ (all names : List Bytes) (name rest : Bytes) (held : all ≡ names ++ going_on name (all_names 0 rest)) where
  go : (others : List Bytes) → going_on name (all_names 0 rest) ≡ others → all ≡ names ++ others
  go others e = held ∙ ap (λ (some : List Bytes). names ++ some) e

  -- a space that belongs to the name
  pub more-escaped : (later : Bytes) → pointwise nat_eq (take 2 rest) (92 ∷ 32 ∷ []) ≡ true → later ≡ drop 2 rest → all ≡ names ++ going_on (name ++ 32 ∷ []) (all_names 0 later)
  more-escaped later e q =
      go (going_on (name ++ 32 ∷ []) (all_names 0 later))
      (ap (λ (bs : Bytes). going_on name (all_names 0 bs)) (marked rest e) ∙ ap (going_on name) (escaped (drop 2 rest)) ∙ going_on-letter name 32 (all_names 0 (drop 2 rest)) ∙ ap (λ (bs : Bytes). going_on (name ++ 32 ∷ []) (all_names 0 bs)) (sym q))

  -- a space that ends it
  pub more-ended : (after : Bytes) → rest ≡ 32 ∷ after → all ≡ (names ++ name ∷ []) ++ going_on [] (all_names 0 after)
  more-ended after e =
      go (name ∷ all_names 0 after)
      (ap (λ (bs : Bytes). going_on name (all_names 0 bs)) e ∙ ap (going_on name) (space after) ∙ going_on-end name (all_names 0 after))
      ∙ sym (append_assoc names (name ∷ []) (all_names 0 after))
      ∙ ap (λ (some : List Bytes). (names ++ name ∷ []) ++ some) (sym (going_on-start after))

  -- any other byte
  pub more-letters : (b : ℕ) (after : Bytes) → rest ≡ b ∷ after → (b == 32) ≡ false → pointwise nat_eq (take 2 rest) (92 ∷ 32 ∷ []) ≡ false → all ≡ names ++ going_on (name ++ b ∷ []) (all_names 0 after)
  more-letters b after e other f =
      go (going_on (name ++ b ∷ []) (all_names 0 after))
      (ap (λ (bs : Bytes). going_on name (all_names 0 bs)) e ∙ ap (going_on name) (letter b after other (ap (λ (bs : Bytes). pointwise nat_eq (take 2 bs) (92 ∷ 32 ∷ [])) (sym e) ∙ f)) ∙ going_on-letter name b (all_names 0 after))

  -- no further byte
  pub no-more : length rest ≡ 0 → all ≡ names ++ name ∷ []
  no-more e = go (name ∷ []) (ap (λ (bs : Bytes). going_on name (all_names 0 bs)) (none rest e) ∙ going_on-end name [])
