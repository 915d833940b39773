-- What is recorded of named files, said of all names at once.
use Rattle.std.specs.Prelude.{Bool, ◌||◌, if◌then◌else◌, List, map, Option, None, Some, is_none}
use Rattle.std.specs.List.{list_any}
use Rattle.base_files.specs.Bytes.{Bytes}
use Rattle.base_files.specs.Tree.{contents_at}
use Rattle.ckeys_include_records.specs.Surroundings.{Place, contents_in, include_with, lacks_day, path_at}
use Rattle.ckeys_include_records.specs.declared.entry.IncludeEntry.{IncludeEntry}

module _ (place : Place) where
  -- there is no such file, or it needs a day that doesn't exist
  abbrev pub lacks : Bytes → Bool
  lacks name =
      is_none (contents_at place.files (path_at place name))
      || lacks_day (contents_in place.files (path_at place name)) place.day

  module _ (digest_of : Bytes → Bytes) where
    -- what is recorded of a name whose file is there
    abbrev pub include_at : Bytes → IncludeEntry
    include_at name = include_with place digest_of name (contents_in place.files (path_at place name))

    -- what is recorded of each name, in their order; no list at all where one lacks its file or its day
    abbrev pub list_of : List Bytes → Option (List IncludeEntry)
    list_of names = if list_any lacks names then None else Some (map include_at names)
