-- Laws of the pieces of a path, of its last piece and of the last that counts. 47 is a slash.
use Rattle.std.proofs.Common.{◌≡◌, ◌≢◌, ℕ, ◌+◌, ◌-◌, ◌<◌, ◌≤◌, ◌==◌, ◌⊎◌, inl, inr, not, cond, Bool, true, false, List, [], ◌∷◌, ◌++◌, length, take, drop, map, filter, get_or, Option, None, Some, refl, sym, ap, subst, ◌∙◌, append_assoc, arith, length-append, All, option_and_then, unwrap_or, nat_eq}
use Rattle.std.proofs.lemmas.List.{reverse-append, take_at, drop_at, take_all, append-nil, get_or-append_right, get_or_at, length_push, take-append-le, take-take, drop-take, take-append-drop, take_min, length-take}
use Rattle.std.proofs.lemmas.List.Elements.{filter-append, All-nil, All-cons}
use Rattle.std.proofs.lemmas.Slice.Eq.{ends_is}
use Rattle.std.proofs.lemmas.Bool.Decides.{Decides-eqb}
use Rattle.std.proofs.lemmas.List.Splits.{join_with_byte-slice_split}
use Rattle.std.proofs.lemmas.List.Sums.{suffix_len_is}
use Rattle.std.specs.List.{onto_first, suffix_len, before_first, before_last, join_with_byte, last_or, ends_with}
use Rattle.std.specs.Option.{option_map, MatchOption}
use Rattle.std.specs.Str.{bytes_eq}
use denote.Ref.{Bor}
use Rattle.base_files.specs.Bytes.{Bytes}
use Rattle.base_files.specs.Path.{pieces, is_slash, counts, start_of, file_name, name_in, part_in, root, current, renamed, with_slash, is_absolute, stem, has_extension, is_dot, with_extension, join}

-- there is a first piece
pub pieces_some : (path : Bytes) → (first : Bytes) × (others : List Bytes) × (pieces path ≡ first ∷ others)
pieces_some [] = ([], [], refl)
pieces_some (b ∷ path) = by (is_slash b) (pieces path)
  where
    by : (t : Bool) (ps : List Bytes) → (first : Bytes) × (others : List Bytes) × (cond t ([] ∷ ps) (onto_first b ps) ≡ first ∷ others)
    by true ps = ([], ps, refl)
    by false [] = (b ∷ [], [], refl)
    by false (p ∷ ps) = (b ∷ p, ps, refl)

-- a slash separates the pieces before it from those after it
pub pieces-append : (front rest : Bytes) → pieces (front ++ 47 ∷ rest) ≡ pieces front ++ pieces rest
pieces-append [] rest = refl
pieces-append (b ∷ front) rest =
    let some = pieces_some front in
    let P : List Bytes → Type 0 = λ ps. cond (is_slash b) ([] ∷ (ps ++ pieces rest)) (onto_first b (ps ++ pieces rest)) ≡ cond (is_slash b) ([] ∷ ps) (onto_first b ps) ++ pieces rest in
    ap (λ (ps : List Bytes). cond (is_slash b) ([] ∷ ps) (onto_first b ps)) (pieces-append front rest) ∙ subst P (sym some.2) (step (is_slash b) some.0 some.1)
  where
    step : (t : Bool) (p : Bytes) (ps : List Bytes) → cond t ([] ∷ ((p ∷ ps) ++ pieces rest)) (onto_first b ((p ∷ ps) ++ pieces rest)) ≡ cond t ([] ∷ p ∷ ps) (onto_first b (p ∷ ps)) ++ pieces rest
    step true p ps = refl
    step false p ps = refl

-- one more piece is joined by a slash
join_push : (first : Bytes) (ps : List Bytes) (last : Bytes) → join_with_byte 47 ((first ∷ ps) ++ last ∷ []) ≡ join_with_byte 47 (first ∷ ps) ++ 47 ∷ last
join_push first [] last = refl
join_push first (p ∷ ps) last = ap (λ (bs : Bytes). first ++ 47 ∷ bs) (join_push p ps last) ∙ sym (append_assoc first (47 ∷ join_with_byte 47 (p ∷ ps)) (47 ∷ last))

pub join-pieces_push : (front last : Bytes) → join_with_byte 47 (pieces front ++ last ∷ []) ≡ front ++ 47 ∷ last
join-pieces_push front last =
    let some = pieces_some front in
    let P : List Bytes → Type 0 = λ ps. join_with_byte 47 (ps ++ last ∷ []) ≡ join_with_byte 47 ps ++ 47 ∷ last in
    subst P (sym some.2) (join_push some.0 some.1 last) ∙ ap (λ (bs : Bytes). bs ++ 47 ∷ last) (join_with_byte-slice_split 47 front)

-- no byte of a name is a slash, so that it is one piece
pub record HasNoSlash (name : Bytes) : Type 0 where
  pub one : pieces name ≡ name ∷ []
  pub all : All (λ b. not (is_slash b) ≡ true) name

-- a path has no slash, or it is cut at the last one
pub last_slash : (path : Bytes) → HasNoSlash path ⊎ ((front name : Bytes) × (path ≡ front ++ 47 ∷ name) × HasNoSlash name)
last_slash [] = inl (record { one = refl; all = All-nil (λ b. not (is_slash b) ≡ true) })
last_slash (b ∷ path) = by (last_slash path) (is_slash b) refl
  where
    by : HasNoSlash path ⊎ ((front name : Bytes) × (path ≡ front ++ 47 ∷ name) × HasNoSlash name) → (t : Bool) → is_slash b ≡ t → HasNoSlash (b ∷ path) ⊎ ((front name : Bytes) × (b ∷ path ≡ front ++ 47 ∷ name) × HasNoSlash name)
    by (inr (front, name, e, h)) t q = inr (b ∷ front, name, ap (λ (bs : Bytes). b ∷ bs) e, h)
    by (inl h) true q = inr ([], path, grind arith, h)
    by (inl h) false q = inl (record { one = rw (q, h.one) refl; all = All-cons (λ c. not (is_slash c) ≡ true) b path (grind arith) h.all })

suffix_len-slash : (front name : Bytes) → All (λ b. not (is_slash b) ≡ true) name → suffix_len (λ b. not (is_slash b)) (front ++ 47 ∷ name) ≡ length name
suffix_len-slash front name all =
    let other : ℕ → Bool = λ b. not (is_slash b) in
    let same : front ++ 47 ∷ name ≡ (front ++ 47 ∷ []) ++ name = sym (append_assoc front (47 ∷ []) name) in
    let long : length (front ++ 47 ∷ name) ≡ length front + 1 + length name = omega (arith, length-append front (47 ∷ name)) in
    let last : suffix_len other (front ++ 47 ∷ name) ≡ length (front ++ 47 ∷ name) - (length front + 1) =
    suffix_len_is other (front ++ 47 ∷ name) (length front + 1) 0 (omega arith)
    (λ k low high. ap (λ (bs : Bytes). other (get_or bs k 0)) same ∙ ap other (get_or-append_right (front ++ 47 ∷ []) name (length front + 1) k 0 (length_push front 47) low) ∙ all (k - (length front + 1)) 0 (omega arith))
    (λ _. ap other (get_or_at front 47 name 0 (length front + 1 - 1) (omega arith))) in
    omega arith

suffix_len-all : (name : Bytes) → All (λ b. not (is_slash b) ≡ true) name → suffix_len (λ b. not (is_slash b)) name ≡ length name
suffix_len-all name all =
    let last : suffix_len (λ b. not (is_slash b)) name ≡ length name - 0 =
    suffix_len_is (λ b. not (is_slash b)) name 0 0 (omega arith) (λ k low high. all k 0 high) (λ (none : 0 < 0). absurd (omega arith)) in
    omega arith

-- the last piece of a path begins here, and these are the others
pub record LastPiece (path : Bytes) (start : ℕ) : Type 0 where
  pub others : List Bytes
  pub within : start ≤ length path
  pub apart : pieces path ≡ others ++ drop start path ∷ []
  pub put : (name : Bytes) → join_with_byte 47 (others ++ name ∷ []) ≡ take start path ++ name
  pub first : start ≡ 0 → others ≡ []
  pub later : 0 < start → pieces (take (start - 1) path) ≡ others

LastPiece-whole : (path : Bytes) → HasNoSlash path → LastPiece path 0
LastPiece-whole path h = record {
  others = [];
  within = omega arith;
  apart = h.one;
  put = λ name. refl;
  first = λ none. refl;
  later = λ (some : 0 < 0). absurd (omega arith);
}

LastPiece-slash : (front name : Bytes) → HasNoSlash name → LastPiece (front ++ 47 ∷ name) (length front + 1)
LastPiece-slash front name h =
    let same : front ++ 47 ∷ name ≡ (front ++ 47 ∷ []) ++ name = sym (append_assoc front (47 ∷ []) name) in
    let after : drop (length front + 1) (front ++ 47 ∷ name) ≡ name = ap (λ (bs : Bytes). drop (length front + 1) bs) same ∙ drop_at (front ++ 47 ∷ []) name (length front + 1) (length_push front 47) in
    let before : take (length front + 1) (front ++ 47 ∷ name) ≡ front ++ 47 ∷ [] = ap (λ (bs : Bytes). take (length front + 1) bs) same ∙ take_at (front ++ 47 ∷ []) name (length front + 1) (length_push front 47) in
    let apart : take (length front + 1 - 1) (front ++ 47 ∷ name) ≡ front = take_at front (47 ∷ name) (length front + 1 - 1) (omega arith) in
    record {
      others = pieces front;
      within = omega (arith, length-append front (47 ∷ name));
      apart = pieces-append front name ∙ ap (λ (ps : List Bytes). pieces front ++ ps) h.one ∙ ap (λ (n : Bytes). pieces front ++ n ∷ []) (sym after);
      put = λ other. join-pieces_push front other ∙ sym (append_assoc front (47 ∷ []) other) ∙ ap (λ (bs : Bytes). bs ++ other) (sym before);
      first = λ none. absurd (omega arith);
      later = λ some. ap pieces apart;
    }

pub last_piece : (path : Bytes) → LastPiece path (length path - suffix_len (λ b. not (is_slash b)) path)
last_piece path = by (last_slash path)
  where
    by : HasNoSlash path ⊎ ((front name : Bytes) × (path ≡ front ++ 47 ∷ name) × HasNoSlash name) → LastPiece path (length path - suffix_len (λ b. not (is_slash b)) path)
    by (inl h) =
        let start : 0 ≡ length path - suffix_len (λ b. not (is_slash b)) path = omega (arith, suffix_len-all path h.all) in
        subst (LastPiece path) start (LastPiece-whole path h)
    by (inr (front, name, e, h)) =
        let cut = front ++ 47 ∷ name in
        let start : length front + 1 ≡ length cut - suffix_len (λ b. not (is_slash b)) cut = omega (arith, suffix_len-slash front name h.all, length-append front (47 ∷ name)) in
        let P : Bytes → Type 0 = λ p. LastPiece p (length p - suffix_len (λ b. not (is_slash b)) p) in
        subst P (sym e) (subst (LastPiece cut) start (LastPiece-slash front name h))

pub last_piece_at : (path : Bytes) (start : ℕ) → start ≡ length path - suffix_len (λ b. not (is_slash b)) path → LastPiece path start
last_piece_at path start e = subst (LastPiece path) (sym e) (last_piece path)

-- a last piece that does not count changes nothing
filter-uncounted : (others : List Bytes) (last : Bytes) → counts last ≡ false → filter counts (others ++ last ∷ []) ≡ filter counts others
filter-uncounted others last h = filter-append counts others (last ∷ []) ∙ rw h (append-nil (filter counts others))

before_last-uncounted : (others : List Bytes) (last : Bytes) → counts last ≡ false → before_last counts (others ++ last ∷ []) ≡ before_last counts others
before_last-uncounted others last h =
    let skipped : Bytes → Bool = λ piece. not (counts piece) in
    let more : suffix_len skipped (others ++ last ∷ []) ≡ 1 + suffix_len skipped others = rw (reverse-append, h) refl in
    let many : length (others ++ last ∷ []) - suffix_len skipped (others ++ last ∷ []) - 1 ≡ length others - suffix_len skipped others - 1 = omega (arith, more, length_push others last) in
    ap (λ n. take n (others ++ last ∷ [])) many ∙ take-append-le _ others (last ∷ []) (omega arith)

-- one that counts is the last that does
filter-counted : (others : List Bytes) (last : Bytes) → counts last ≡ true → filter counts (others ++ last ∷ []) ≡ filter counts others ++ last ∷ []
filter-counted others last h = filter-append counts others (last ∷ []) ∙ rw h refl

before_last-counted : (others : List Bytes) (last : Bytes) → counts last ≡ true → before_last counts (others ++ last ∷ []) ≡ others
before_last-counted others last h =
    let skipped : Bytes → Bool = λ piece. not (counts piece) in
    let none : suffix_len skipped (others ++ last ∷ []) ≡ 0 = rw (reverse-append, h) refl in
    take_at others (last ∷ []) _ (omega (arith, none, length_push others last))

-- the counted pieces, and those before the last of them, are the same
pub record SameLast (path rest : Bytes) : Type 0 where
  pub counted : filter counts (pieces rest) ≡ filter counts (pieces path)
  pub before : before_last counts (pieces rest) ≡ before_last counts (pieces path)

last_or_push : {X : Type 0} (o : Option X) (xs : List X) (x : X) → last_or o (xs ++ x ∷ []) ≡ Some x
last_or_push o [] x = refl
last_or_push o (y ∷ ys) x = last_or_push (Some y) ys x

-- the last piece that counts is found
pub last_counted : (path rest : Bytes) (start : ℕ) → LastPiece rest start → SameLast path rest → counts (drop start rest) ≡ true → Some (drop start rest) ≡ last_or None (filter counts (pieces path))
last_counted path rest start piece same h =
    sym (last_or_push None (filter counts piece.others) (drop start rest))
    ∙ ap (last_or None) (sym (filter-counted piece.others (drop start rest) h) ∙ ap (filter counts) (sym piece.apart) ∙ same.counted)

pub renamed_counted : (path rest : Bytes) (start : ℕ) → LastPiece rest start → SameLast path rest → counts (drop start rest) ≡ true → (name : Bytes) → take start rest ++ name ≡ renamed path name
renamed_counted path rest start piece same h name =
    let before : piece.others ≡ before_last counts (pieces path) = sym (before_last-counted piece.others (drop start rest) h) ∙ ap (before_last counts) (sym piece.apart) ∙ same.before in
    sym (piece.put name) ∙ ap (λ (ps : List Bytes). join_with_byte 47 (ps ++ name ∷ [])) before

-- the last piece does not count, and is taken off
pub SameLast-before : (path rest : Bytes) (start : ℕ) → LastPiece rest start → SameLast path rest → counts (drop start rest) ≡ false → 0 < start → SameLast path (take (start - 1) rest)
SameLast-before path rest start piece same h some = record {
  counted = ap (filter counts) (piece.later some) ∙ sym (filter-uncounted piece.others (drop start rest) h) ∙ ap (filter counts) (sym piece.apart) ∙ same.counted;
  before = ap (before_last counts) (piece.later some) ∙ sym (before_last-uncounted piece.others (drop start rest) h) ∙ ap (before_last counts) (sym piece.apart) ∙ same.before;
}

last_or-append : {X : Type 0} (o : Option X) (xs : List X) (y : X) (ys : List X) → last_or o (xs ++ y ∷ ys) ≡ last_or (Some y) ys
last_or-append o [] y ys = refl
last_or-append o (x ∷ xs) y ys = last_or-append (Some x) xs y ys

last_or-map : {X Y : Type 0} (f : X → Y) (x : X) (xs : List X) → last_or (Some (f x)) (map f xs) ≡ option_map f (last_or (Some x) xs)
last_or-map f x [] = refl
last_or-map f x (y ∷ ys) = last_or-map f y ys

-- the start of a path is no name
start_no_name : (path : Bytes) → option_and_then name_in (last_or None (start_of path ++ [])) ≡ None
start_no_name path = by (is_absolute path) (bytes_eq (before_first is_slash path) (46 ∷ []))
  where
    by : (s t : Bool) → option_and_then name_in (last_or None (cond s (root ∷ []) (cond t (current ∷ []) []) ++ [])) ≡ None
    by true t = refl
    by false true = refl
    by false false = refl

-- the file name by the last piece that counts
pub file_name-last : (path : Bytes) → file_name path ≡ option_and_then (λ name. name_in (part_in name)) (last_or None (filter counts (pieces path)))
file_name-last path = by (filter counts (pieces path))
  where
    named : (o : Option Bytes) → option_and_then name_in (option_map part_in o) ≡ option_and_then (λ name. name_in (part_in name)) o
    named None = refl
    named (Some name) = refl

    by : (ps : List Bytes) → option_and_then name_in (last_or None (start_of path ++ map part_in ps)) ≡ option_and_then (λ name. name_in (part_in name)) (last_or None ps)
    by [] = start_no_name path
    by (p ∷ ps) = ap (option_and_then name_in) (last_or-append None (start_of path) (part_in p) (map part_in ps) ∙ last_or-map part_in p ps) ∙ named (last_or (Some p) ps)

pub file_name-none : (path : Bytes) → None ≡ last_or None (filter counts (pieces path)) → file_name path ≡ None
file_name-none path h = file_name-last path ∙ rw (← h) refl

pub file_name-parent : (path last : Bytes) → Some last ≡ last_or None (filter counts (pieces path)) → bytes_eq last (46 ∷ 46 ∷ []) ≡ true → file_name path ≡ None
file_name-parent path last h parent = file_name-last path ∙ rw (← h, parent) refl

pub file_name-named : (path last : Bytes) → Some last ≡ last_or None (filter counts (pieces path)) → bytes_eq last (46 ∷ 46 ∷ []) ≡ false → file_name path ≡ Some last
file_name-named path last h named = file_name-last path ∙ rw (← h, named) refl

-- a stem begins its name
stem_begins : (name : Bytes) → take (length (stem name)) name ≡ stem name
stem_begins name = by (has_extension name)
  where
    by : (t : Bool) → take (length (cond t (before_last is_dot name) name)) name ≡ cond t (before_last is_dot name) name
    by true = ap (λ n. take n name) (length-take _ name) ∙ take_min _ name
    by false = take_all (length name) name (omega arith)

take-add : (n m : ℕ) (xs : Bytes) → take n xs ++ take m (drop n xs) ≡ take (n + m) xs
take-add n m xs =
    ap (λ (bs : Bytes). bs ++ take m (drop n xs)) (sym (take-take n (n + m) xs (omega arith)))
    ∙ ap (λ (bs : Bytes). take n (take (n + m) xs) ++ bs) (sym (drop-take n m xs))
    ∙ take-append-drop n (take (n + m) xs)

-- The path up to the end of the stem of its file name, then a dot and the new extension.
pub with_extension_is : (path whole stem_now : Bytes) (start : ℕ) → Some (drop start whole) ≡ file_name path → ((name : Bytes) → take start whole ++ name ≡ renamed path name) → stem_now ≡ stem (drop start whole) → (ending : Bytes) → take (start + length stem_now) whole ++ 46 ∷ ending ≡ with_extension path ending
with_extension_is path whole stem_now start h before e ending =
    let name = drop start whole in
    let kept : take (start + length (stem name)) whole ≡ take start whole ++ stem name = sym (take-add start (length (stem name)) whole) ∙ ap (λ (bs : Bytes). take start whole ++ bs) (stem_begins name) in
    let changed : renamed path (stem name ++ 46 ∷ ending) ≡ with_extension path ending = rw (← h) refl in
    ap (λ (bs : Bytes). take (start + length bs) whole ++ 46 ∷ ending) e
    ∙ ap (λ (bs : Bytes). bs ++ 46 ∷ ending) kept
    ∙ append_assoc (take start whole) (stem name) (46 ∷ ending)
    ∙ before (stem name ++ 46 ∷ ending)
    ∙ changed

pub join_is : (base path : Bytes) → false ≡ is_absolute path → false ≡ (length base == 0) → with_slash base ++ path ≡ join base path
join_is base path relative some = rw (← relative, ← some) refl

-- a base without the slash at its end, and a slash
pub with_slash_is : (base : Bor (List ℕ)) (r : Option (Bor (List ℕ))) → MatchOption r ((front : List ℕ) → base.now ≢ front ++ 47 ∷ []) (λ x. base.now ≡ x.now ++ 47 ∷ []) → (path : Bytes) → (unwrap_or r base).now ++ 47 ∷ path ≡ with_slash base.now ++ path
with_slash_is base r h path = by (ends_with nat_eq base.now (47 ∷ [])) refl r h
  where
    by : (t : Bool) → ends_with nat_eq base.now (47 ∷ []) ≡ t → (r : Option (Bor (List ℕ))) → MatchOption r ((front : List ℕ) → base.now ≢ front ++ 47 ∷ []) (λ x. base.now ≡ x.now ++ 47 ∷ []) → (unwrap_or r base).now ++ 47 ∷ path ≡ cond t base.now (base.now ++ 47 ∷ []) ++ path
    by true q None h = absurd (h (take (length base.now - 1) base.now) ((ends_is Decides-eqb base.now (47 ∷ []) true (sym q)).0 refl))
    by false q None h = sym (append_assoc base.now (47 ∷ []) path)
    by true q (Some x) h = sym (append_assoc x.now (47 ∷ []) path) ∙ ap (λ (bs : Bytes). bs ++ path) (sym h)
    by false q (Some x) h = let e = (ends_is Decides-eqb base.now (47 ∷ []) false (sym q)).1 x.now h in cc
