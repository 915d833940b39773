-- What a scanner of lines computes, byte by byte; laws tie it to the grammar.
use Rattle.std.specs.Prelude.{ℕ, Bool, true, false, ◌==◌, List, [], ◌∷◌, drop, codes, nat_eq, Option, None, Some, if◌then◌else◌}
use Rattle.std.specs.List.{filter_map, starts_with}
use Rattle.base_files.specs.Bytes.{Bytes}
use Rattle.ckeys_marker_walk.specs.declared.line.Mark.{Mark}
use Rattle.ckeys_marker_walk.specs.declared.line.Mark.TheVariants.{Named, Refused}
use Rattle.ckeys_marker_walk.specs.Lines.{lines}
use Rattle.ckeys_marker_walk.specs.Markers.{is_space, is_digit, Start, bare, worded}
use Rattle.ckeys_marker_walk.specs.Spelling.{is_special}

-- what comes after the bytes that pass
abbrev pub after_run : (ℕ → Bool) → Bytes → Bytes
after_run test [] = []
after_run test (b ∷ rest) = if test b then after_run test rest else b ∷ rest

-- the same, where one passes
abbrev pub past : (ℕ → Bool) → Bytes → Option Bytes
past test [] = None
past test (b ∷ rest) = if test b then Some (after_run test rest) else None

-- what comes after an opening quote: a name and the quote that closes it, or no such quote, or a backslash before another byte
pub data Name : Type 0 where
  closed : Bytes → Name
  unclosed : Name
  misspelled : Name

abbrev pub led_by : ℕ → Name → Name
led_by b (closed raw) = closed (b ∷ raw)
led_by b unclosed = unclosed
led_by b misspelled = misspelled

-- the same, after a backslash or not
abbrev pub name_from : Bool → Bytes → Name
name_from true [] = misspelled
name_from false [] = unclosed
name_from true (b ∷ rest) =
    if is_special b then led_by b (name_from false rest) else misspelled
name_from false (b ∷ rest) =
    if b == 34 then closed [] else led_by b (name_from (b == 92) rest)

-- what comes after the spaces that follow the digits
abbrev pub quoted_at : Option Bytes → Name
quoted_at None = unclosed
quoted_at (Some []) = unclosed
quoted_at (Some (b ∷ rest)) = if b == 34 then name_from false rest else unclosed

-- what a line says that isn't plain: the name of a marker, as written between the quotes, or that it refuses the text
pub data Sight : Type 0 where
  named : Bytes → Sight
  refused : Sight

abbrev pub sight_by : Start → Name → Option Sight
sight_by start (closed raw) = Some (named raw)
sight_by start misspelled = Some refused
sight_by bare unclosed = Some refused
sight_by worded unclosed = None

abbrev pub after_digits : Start → Option Bytes → Option Sight
after_digits start None = None
after_digits start (Some rest) = sight_by start (quoted_at (past is_space rest))

abbrev pub after_spaces : Start → Option Bytes → Option Sight
after_spaces start None = None
after_spaces start (Some rest) = after_digits start (past is_digit rest)

-- what a line says that continues like this after its start
abbrev pub sight_with : Start → Bytes → Option Sight
sight_with start rest = after_spaces start (past is_space rest)

abbrev pub after_hash : Bytes → Option Sight
after_hash rest =
    if starts_with nat_eq rest (codes "line") then sight_with worded (drop 4 rest)
    else sight_with bare rest

-- 35 is '#'
abbrev pub begins_with_hash : Bytes → Bool
begins_with_hash [] = false
begins_with_hash (b ∷ rest) = b == 35

-- what a line says, if it isn't plain
abbrev pub sight_in : Bytes → Option Sight
sight_in [] = None
sight_in (b ∷ rest) = if b == 35 then after_hash rest else None

-- what the lines of a text say
abbrev pub sights : Bytes → List Sight
sights text = filter_map sight_in (lines text)

abbrev pub sight_of_mark : Mark → Sight
sight_of_mark (Named raw) = named raw.now
sight_of_mark Refused = refused
