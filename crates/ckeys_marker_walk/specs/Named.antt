-- The named files of a text on a call's files.
use Rattle.std.specs.Prelude.{Bool, true, false, not, ◌==◌, ◌&&◌, ◌||◌, List, [], ◌∷◌, filter, codes, Option, None, Some, option_and_then, unwrap_or, if◌then◌else◌}
use Rattle.std.specs.List.{list_any, filter_map}
use Rattle.std.specs.Option.{option_map}
use Rattle.std.specs.Str.{bytes_eq}
use Rattle.base_files.specs.Bytes.{Bytes}
use Rattle.base_files.specs.Path.{join}
use Rattle.base_files.specs.Tree.{Tree, contents_at, is_file_at}
use Rattle.ckeys_time_macros.specs.Macros.{holds, holds_time}
use Rattle.ckeys_marker_walk.specs.Scanning.{Sight, named, refused, sights}
use Rattle.ckeys_marker_walk.specs.Spelling.{meant}
use Rattle.ckeys_marker_walk.specs.declared.answer.Walk.{Walk}
use Rattle.ckeys_marker_walk.specs.declared.answer.Walk.TheVariants.{Refused, Names}

-- a text that asks for a file that no marker names
abbrev pub asks_for_more : Bytes → Bool
asks_for_more text = holds text (codes ".incbin") || holds text (codes "#pragma GCC pch_preprocess")

abbrev pub refuses : Sight → Bool
refuses (named raw) = false
refuses refused = true

abbrev pub name_of : Sight → Option Bytes
name_of (named raw) = Some (meant raw)
name_of refused = None

-- the names of these markers, in order, where no line refuses
abbrev pub names_told : List Sight → Option (List Bytes)
names_told told = if list_any refuses told then None else Some (filter_map name_of told)

-- each once, where it appears first
abbrev pub once : List Bytes → List Bytes
once [] = []
once (name ∷ names) = name ∷ filter (λ other. not (bytes_eq name other)) (once names)

-- the names of the markers of a text, each once, in order of first appearance; none where something in the text refuses it
abbrev pub marker_names : Bytes → Option (List Bytes)
marker_names text = if asks_for_more text then None else option_map once (names_told (sights text))

-- 60 is '<'
abbrev pub begins_with_less : Bytes → Bool
begins_with_less [] = false
begins_with_less (b ∷ name) = b == 60

module _ (dir : Bytes) (files : Tree) where
  -- the file of that name holds `__TIME__`
  abbrev pub tells_time : Bytes → Bool
  tells_time name = holds_time (unwrap_or (contents_at files (join dir name)) [])

  -- these names, unless the file of one of them holds `__TIME__`
  abbrev pub accepted : List Bytes → Option (List Bytes)
  accepted names = if list_any tells_time names then None else Some names

  module _ (input : Bytes) where
    -- a name that counts: it doesn't begin with `<`, is of a regular file, and isn't the input, which is a joined path
    abbrev pub is_named : Bytes → Bool
    is_named name = not (begins_with_less name)
        && (is_file_at files (join dir name) && not (bytes_eq (join dir name) input))

    -- the named files of a text, each once, in order of first appearance, where nothing in it or in them refuses it
    abbrev pub named_files_of : Bytes → Option (List Bytes)
    named_files_of text = option_and_then (λ names. accepted (filter is_named names)) (marker_names text)

-- what a walk answers
abbrev pub walk_names : Walk → Option (List Bytes)
walk_names Refused = None
walk_names (Names names) = Some names
