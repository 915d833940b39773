-- What is recorded of the files that a text names, and when a call finds them again.
use Rattle.std.specs.Prelude.{ℤ, pos, ◌==◌, Bool, true, false, ◌&&◌, if◌then◌else◌, List, [], ◌∷◌, length, Option, None, Some, is_none, unwrap_or}
use Rattle.std.specs.List.{list_all}
use Rattle.std.specs.Option.{option_map}
use Rattle.std.specs.Ordering.{int_eq}
use Rattle.std.specs.Str.{bytes_eq}
use Rattle.base_files.specs.Bytes.{Bytes}
use Rattle.base_files.specs.Path.{join}
use Rattle.base_files.specs.Tree.{Tree, contents_at, metadata_at}
use Rattle.ckeys_base.specs.Hex.{hex_of}
use Rattle.ckeys_time_macros.specs.Macros.{holds_date, holds_timestamp}
use Rattle.ckeys_include_records.specs.declared.entry.IncludeEntry.{IncludeEntry}

-- where names are looked up: a directory, the files, and the day
pub record Place : Type 0 where
  pub dir : Bytes
  pub files : Tree
  pub day : Option ℤ

abbrev pub place_with : Bytes → Tree → Option ℤ → Place
place_with dir files day = record { dir = dir; files = files; day = day }

-- the contents of the regular file of that name; none where there is no such file
abbrev pub contents_in : Tree → Bytes → Bytes
contents_in files path = unwrap_or (contents_at files path) []

-- the second in which what has that name was last changed
abbrev pub second_at : Tree → Bytes → ℤ
second_at files path = unwrap_or (option_map (λ m. m.mtime.seconds) (metadata_at files path)) (pos 0)

-- the day, where the contents ask for one, and the second, where they ask for that
abbrev pub dated : Bytes → Option ℤ → Option ℤ
dated contents day = if holds_date contents then day else None

abbrev pub stamped : Bytes → ℤ → Option ℤ
stamped contents second = if holds_timestamp contents then Some second else None

-- a day is asked for, and the calendar has none
abbrev pub lacks_day : Bytes → Option ℤ → Bool
lacks_day contents day = holds_date contents && is_none day

-- a day or second that was recorded is the call's
abbrev pub is_the : Option ℤ → Option ℤ → Bool
is_the None now = true
is_the (Some was) None = false
is_the (Some was) (Some is) = int_eq was is

module _ (place : Place) where
  abbrev pub path_at : Bytes → Bytes
  path_at name = join place.dir name

  module _ (digest_of : Bytes → Bytes) where
    -- what is recorded of a file that has these contents
    abbrev pub include_with : Bytes → Bytes → IncludeEntry
    include_with name contents = record {
      path = name;
      size = length contents;
      digest = hex_of (digest_of contents);
      day = dated contents place.day;
      second = stamped contents (second_at place.files (path_at name));
    }

    -- what is recorded of a name: nothing where there is no such file, or where it needs a day that doesn't exist
    abbrev pub included : Bytes → Option Bytes → Option IncludeEntry
    included name None = None
    included name (Some contents) = if lacks_day contents place.day then None else Some (include_with name contents)

    abbrev pub in_front : Option IncludeEntry → Option (List IncludeEntry) → Option (List IncludeEntry)
    in_front None rest = None
    in_front (Some include) rest = option_map (λ includes. include ∷ includes) rest

    -- the include list of named files: there is none unless something is recorded of each
    abbrev pub includes_of : List Bytes → Option (List IncludeEntry)
    includes_of [] = Some []
    includes_of (name ∷ names) = in_front (included name (contents_at place.files (path_at name))) (includes_of names)

    -- a regular file of that size and digest, and its day and second, where they were recorded
    abbrev pub fits_contents : IncludeEntry → Option Bytes → Bool
    fits_contents i None = false
    fits_contents i (Some contents) = (length contents == i.size) && (bytes_eq (hex_of (digest_of contents)) i.digest && (is_the i.day place.day && is_the i.second (Some (second_at place.files (path_at i.path)))))

    abbrev pub is_there : IncludeEntry → Bool
    is_there i = fits_contents i (contents_at place.files (path_at i.path))

    abbrev pub are_there : List IncludeEntry → Bool
    are_there includes = list_all is_there includes
