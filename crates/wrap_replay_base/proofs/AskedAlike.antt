-- Two tools are asked the same exactly where it's one question.
use Rattle.std.proofs.Common.{◌≡◌, ℕ, Bool, true, false, ◌&&◌, List, [], ◌∷◌, Option, None, Some, refl, ap}
use Rattle.std.specs.Cmp.Lexicographic.{pointwise}
use Rattle.std.specs.Prelude.{nat_eq}
use Rattle.std.specs.Str.{bytes_eq}
use Rattle.std.proofs.lemmas.Bool.{and_parts, and_from, eqb-true, eq-eqb}
use Rattle.std.proofs.lemmas.Slice.Eq.{bytes_eq-Decides}
use Rattle.base_files.specs.Bytes.{Bytes}
use Rattle.cmdlines_base.specs.Reading.{Item, raw, unknown, flag, valued, after_dashes}
use Rattle.cmdlines_base.specs.declared.argument.ArgDisposition.{ArgDisposition}
use Rattle.cmdlines_base.specs.declared.argument.ArgDisposition.TheVariants.{Separated, CanBeConcatenated, CanBeSeparated, Concatenated}
use Rattle.cmdlines_tables.specs.contracts.kind.ArgKind.{the_type}
use Rattle.cmdlines_tables.specs.declared.kind.ArgKind.{ArgKind}
use Rattle.ckeys_records.specs.Meaning.{Asked, options, words, archive}
use Rattle.ckeys_records.specs.declared.output_name.OutputName.{OutputName}
use Rattle.wrap_replay_base.specs.SameAsked.{same_kind, same_delimiter, same_way, same_item, same_list, same_flag, same_asked, same_name}
use denote.Enum.Bare.{same_true, true_same}

pub bytes_is : (v w : Bytes) → bytes_eq v w ≡ true → v ≡ w
bytes_is v w h = (bytes_eq-Decides v w).0 h

pub bytes_own : (v : Bytes) → bytes_eq v v ≡ true
bytes_own v = (bytes_eq-Decides v v).1 refl

pub bytes_alike : (v w : Bytes) → v ≡ w → bytes_eq v w ≡ true
bytes_alike v w e = (bytes_eq-Decides v w).1 e

kind_is : (k l : ArgKind) → same_kind k l ≡ true → k ≡ l
kind_is k l h = same_true the_type tt k l h

kind_own : (k : ArgKind) → same_kind k k ≡ true
kind_own k = true_same the_type k k refl

delimiter_is : (d e : Option ℕ) → same_delimiter d e ≡ true → d ≡ e
delimiter_is None None h = refl
delimiter_is None (Some e) h = cc
delimiter_is (Some d) None h = cc
delimiter_is (Some d) (Some e) h = ap Some (eqb-true d e h)

delimiter_own : (d : Option ℕ) → same_delimiter d d ≡ true
delimiter_own None = refl
delimiter_own (Some d) = eq-eqb d d refl

way_is : (d e : ArgDisposition) → same_way d e ≡ true → d ≡ e
way_is Separated Separated h = refl
way_is Separated (CanBeConcatenated e) h = cc
way_is Separated (CanBeSeparated e) h = cc
way_is Separated (Concatenated e) h = cc
way_is (CanBeConcatenated d) Separated h = cc
way_is (CanBeConcatenated d) (CanBeConcatenated e) h = ap CanBeConcatenated (delimiter_is d e h)
way_is (CanBeConcatenated d) (CanBeSeparated e) h = cc
way_is (CanBeConcatenated d) (Concatenated e) h = cc
way_is (CanBeSeparated d) Separated h = cc
way_is (CanBeSeparated d) (CanBeConcatenated e) h = cc
way_is (CanBeSeparated d) (CanBeSeparated e) h = ap CanBeSeparated (delimiter_is d e h)
way_is (CanBeSeparated d) (Concatenated e) h = cc
way_is (Concatenated d) Separated h = cc
way_is (Concatenated d) (CanBeConcatenated e) h = cc
way_is (Concatenated d) (CanBeSeparated e) h = cc
way_is (Concatenated d) (Concatenated e) h = ap Concatenated (delimiter_is d e h)

way_own : (d : ArgDisposition) → same_way d d ≡ true
way_own Separated = refl
way_own (CanBeConcatenated d) = delimiter_own d
way_own (CanBeSeparated d) = delimiter_own d
way_own (Concatenated d) = delimiter_own d

item_is : (a b : Item ArgKind) → same_item a b ≡ true → a ≡ b
item_is (raw v) (raw w) h = ap raw (bytes_is v w h)
item_is (raw v) (unknown w) h = cc
item_is (raw v) (flag g l) h = cc
item_is (raw v) (valued g l w e) h = cc
item_is (raw v) (after_dashes w) h = cc
item_is (unknown v) (raw w) h = cc
item_is (unknown v) (unknown w) h = ap unknown (bytes_is v w h)
item_is (unknown v) (flag g l) h = cc
item_is (unknown v) (valued g l w e) h = cc
item_is (unknown v) (after_dashes w) h = cc
item_is (flag f k) (raw w) h = cc
item_is (flag f k) (unknown w) h = cc
item_is (flag f k) (flag g l) h =
    let p = and_parts (bytes_eq f g) (same_kind k l) h in
    let same_flag_is = bytes_is f g p.0 in
    let same_kind_is = kind_is k l p.1 in
    λ i. flag (same_flag_is i) (same_kind_is i)
item_is (flag f k) (valued g l w e) h = cc
item_is (flag f k) (after_dashes w) h = cc
item_is (valued f k v d) (raw w) h = cc
item_is (valued f k v d) (unknown w) h = cc
item_is (valued f k v d) (flag g l) h = cc
item_is (valued f k v d) (valued g l w e) h =
    let p = and_parts (bytes_eq f g) (same_kind k l && (bytes_eq v w && same_way d e)) h in
    let q = and_parts (same_kind k l) (bytes_eq v w && same_way d e) p.1 in
    let r = and_parts (bytes_eq v w) (same_way d e) q.1 in
    let flags = bytes_is f g p.0 in
    let kinds = kind_is k l q.0 in
    let values = bytes_is v w r.0 in
    let ways = way_is d e r.1 in
    λ i. valued (flags i) (kinds i) (values i) (ways i)
item_is (valued f k v d) (after_dashes w) h = cc
item_is (after_dashes v) (raw w) h = cc
item_is (after_dashes v) (unknown w) h = cc
item_is (after_dashes v) (flag g l) h = cc
item_is (after_dashes v) (valued g l w e) h = cc
item_is (after_dashes v) (after_dashes w) h = ap after_dashes (bytes_is v w h)

item_own : (a : Item ArgKind) → same_item a a ≡ true
item_own (raw v) = bytes_own v
item_own (unknown v) = bytes_own v
item_own (flag f k) = and_from (bytes_eq f f) (same_kind k k) (bytes_own f) (kind_own k)
item_own (valued f k v d) = and_from (bytes_eq f f) (same_kind k k && (bytes_eq v v && same_way d d)) (bytes_own f) (and_from (same_kind k k) (bytes_eq v v && same_way d d) (kind_own k) (and_from (bytes_eq v v) (same_way d d) (bytes_own v) (way_own d)))
item_own (after_dashes v) = bytes_own v

list_is : {A : Type 0} (same : A → A → Bool) → ((x y : A) → same x y ≡ true → x ≡ y) → (xs ys : List A) → same_list same xs ys ≡ true → xs ≡ ys
list_is same is [] [] h = refl
list_is same is [] (y ∷ ys) h = cc
list_is same is (x ∷ xs) [] h = cc
list_is same is (x ∷ xs) (y ∷ ys) h =
    let p = and_parts (same x y) (same_list same xs ys) h in
    let head = is x y p.0 in
    let tail = list_is same is xs ys p.1 in
    λ i. head i ∷ tail i

list_own : {A : Type 0} (same : A → A → Bool) → ((x : A) → same x x ≡ true) → (xs : List A) → same_list same xs xs ≡ true
list_own same own [] = refl
list_own same own (x ∷ xs) = and_from (same x x) (same_list same xs xs) (own x) (list_own same own xs)

flag_is : (a b : Bool) → same_flag a b ≡ true → a ≡ b
flag_is true true h = refl
flag_is true false h = cc
flag_is false true h = cc
flag_is false false h = refl

flag_own : (a : Bool) → same_flag a a ≡ true
flag_own true = refl
flag_own false = refl

pub asked_is : (a b : Asked) → same_asked a b ≡ true → a ≡ b
asked_is (options r) (options s) h =
    let p = and_parts (same_list same_item r.items s.items) (same_flag r.cut_short s.cut_short) h in
    let items = list_is same_item item_is r.items s.items p.0 in
    let ends = flag_is r.cut_short s.cut_short p.1 in
    λ i. options (record { items = items i; cut_short = ends i })
asked_is (options r) (words s) h = cc
asked_is (options r) (archive s) h = cc
asked_is (words r) (options s) h = cc
asked_is (words r) (words s) h = ap words (list_is bytes_eq bytes_is r s h)
asked_is (words r) (archive s) h = cc
asked_is (archive r) (options s) h = cc
asked_is (archive r) (words s) h = cc
asked_is (archive r) (archive s) h = ap archive (bytes_is r s h)

-- a compiler is asked what it is asked
pub asked_own : (a : Asked) → same_asked a a ≡ true
asked_own (words r) = list_own bytes_eq bytes_own r
asked_own (archive path) = bytes_own path
asked_own (options r) = and_from (same_list same_item r.items r.items) (same_flag r.cut_short r.cut_short) (list_own same_item item_own r.items) (flag_own r.cut_short)

name_is : (a b : OutputName) → same_name a b ≡ true → a ≡ b
name_is a b h =
    let p = and_parts (bytes_eq a.name b.name) (same_flag a.optional b.optional) h in
    let names = bytes_is a.name b.name p.0 in
    let marks = flag_is a.optional b.optional p.1 in
    λ i. record { name = names i; optional = marks i }

pub names_are : (xs ys : List OutputName) → same_list same_name xs ys ≡ true → xs ≡ ys
names_are xs ys h = list_is same_name name_is xs ys h

pointwise_is : {A : Type 0} (same : A → A → Bool) → ((x y : A) → same x y ≡ true → x ≡ y) → (xs ys : List A) → pointwise same xs ys ≡ true → xs ≡ ys
pointwise_is same is [] [] h = refl
pointwise_is same is [] (y ∷ ys) h = cc
pointwise_is same is (x ∷ xs) [] h = cc
pointwise_is same is (x ∷ xs) (y ∷ ys) h =
    let p = and_parts (same x y) (pointwise same xs ys) h in
    let head = is x y p.0 in
    let tail = pointwise_is same is xs ys p.1 in
    λ i. head i ∷ tail i

-- words are equal where their bytes are
pub words_are : (xs ys : List Bytes) → pointwise (pointwise nat_eq) xs ys ≡ true → xs ≡ ys
words_are xs ys h = pointwise_is (pointwise nat_eq) (λ v w e. pointwise_is nat_eq (λ m n d. eqb-true m n d) v w e) xs ys h

pointwise_own : {A : Type 0} (same : A → A → Bool) → ((x : A) → same x x ≡ true) → (xs : List A) → pointwise same xs xs ≡ true
pointwise_own same own [] = refl
pointwise_own same own (x ∷ xs) = and_from (same x x) (pointwise same xs xs) (own x) (pointwise_own same own xs)

-- and the other way round
pub words_alike : (xs ys : List Bytes) → xs ≡ ys → pointwise (pointwise nat_eq) xs ys ≡ true
words_alike xs ys e = rw e (pointwise_own (pointwise nat_eq) (λ v. pointwise_own nat_eq (λ m. eq-eqb m m refl) v) ys)
