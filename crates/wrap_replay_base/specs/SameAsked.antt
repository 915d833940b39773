-- When two tools are asked the same.
use Rattle.std.specs.Prelude.{ℕ, Bool, true, false, ◌&&◌, ◌==◌, List, [], ◌∷◌, Option, None, Some}
use Rattle.std.specs.Str.{bytes_eq}
use Rattle.cmdlines_base.specs.Reading.{Item, raw, unknown, flag, valued, after_dashes, Reading}
use Rattle.cmdlines_base.specs.declared.argument.ArgDisposition.{ArgDisposition}
use Rattle.cmdlines_base.specs.declared.argument.ArgDisposition.TheVariants.{Separated, CanBeConcatenated, CanBeSeparated, Concatenated}
use Rattle.cmdlines_tables.specs.contracts.kind.ArgKind.{the_type}
use Rattle.cmdlines_tables.specs.declared.kind.ArgKind.{ArgKind}
use Rattle.ckeys_records.specs.Meaning.{Asked, options, words, archive}
use Rattle.ckeys_records.specs.declared.output_name.OutputName.{OutputName}
use denote.Enum.Bare.{sameb}

abbrev pub same_kind : ArgKind → ArgKind → Bool
same_kind k l = sameb the_type k l

abbrev pub same_delimiter : Option ℕ → Option ℕ → Bool
same_delimiter None None = true
same_delimiter None (Some e) = false
same_delimiter (Some d) None = false
same_delimiter (Some d) (Some e) = d == e

-- values that are written alike
abbrev pub same_way : ArgDisposition → ArgDisposition → Bool
same_way Separated Separated = true
same_way (CanBeConcatenated d) (CanBeConcatenated e) = same_delimiter d e
same_way (CanBeSeparated d) (CanBeSeparated e) = same_delimiter d e
same_way (Concatenated d) (Concatenated e) = same_delimiter d e
same_way d e = false

abbrev pub same_item : Item ArgKind → Item ArgKind → Bool
same_item (raw v) (raw w) = bytes_eq v w
same_item (unknown v) (unknown w) = bytes_eq v w
same_item (flag f k) (flag g l) = bytes_eq f g && same_kind k l
same_item (valued f k v d) (valued g l w e) = bytes_eq f g && (same_kind k l && (bytes_eq v w && same_way d e))
same_item (after_dashes v) (after_dashes w) = bytes_eq v w
same_item a b = false

abbrev pub same_list : {A : Type 0} → (A → A → Bool) → List A → List A → Bool
same_list same [] [] = true
same_list same [] (y ∷ ys) = false
same_list same (x ∷ xs) [] = false
same_list same (x ∷ xs) (y ∷ ys) = same x y && same_list same xs ys

abbrev pub same_flag : Bool → Bool → Bool
same_flag true b = b
same_flag false true = false
same_flag false false = true

abbrev pub same_reading : Reading ArgKind → Reading ArgKind → Bool
same_reading r s = same_list same_item r.items s.items && same_flag r.cut_short s.cut_short

-- two tools are asked the same: C compilers where their words read alike, rustc where they are the same words, and for a digest where it's of one path
abbrev pub same_asked : Asked → Asked → Bool
same_asked (options r) (options s) = same_reading r s
same_asked (words r) (words s) = same_list bytes_eq r s
same_asked (archive p) (archive q) = bytes_eq p q
same_asked a b = false

abbrev pub same_name : OutputName → OutputName → Bool
same_name a b = bytes_eq a.name b.name && same_flag a.optional b.optional
