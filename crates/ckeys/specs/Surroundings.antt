-- The files that the text of a call names, what is recorded of them, and when another call finds them as they were.
use Rattle.std.specs.Prelude.{◌≡◌, true, List, map, Option, Some, option_and_then}
use Rattle.std.specs.List.{Contains}
use Rattle.base_files.specs.Bytes.{Bytes}
use Rattle.base_files.specs.Path.{join}
use Rattle.base_files.specs.Tree.{contents_at}
use Rattle.ckeys_time_macros.specs.Days.{local_day}
use Rattle.ckeys_time_macros.specs.Macros.{holds_date, holds_timestamp}
use Rattle.ckeys_marker_walk.specs.Named.{named_files_of}
use Rattle.ckeys_include_records.specs.Surroundings.{Place, place_with, contents_in, includes_of, second_at}
use Rattle.ckeys_include_records.specs.declared.entry.IncludeEntry.{IncludeEntry}
use Rattle.ckeys.specs.Calls.{KeyCall, extra_paths, input_path}

-- where a call looks names up
abbrev pub place_of : KeyCall → Place
place_of c = place_with c.scene.dir c.scene.files (local_day c.settings.zone c.scene.moment)

-- the named files of a text, where the walk accepts it
abbrev pub named_at : Place → Bytes → Bytes → Option (List Bytes)
named_at place input text = named_files_of place.dir place.files input text

-- what is recorded of a text
abbrev pub recorded_of : Place → (Bytes → Bytes) → Bytes → Bytes → Option (List IncludeEntry)
recorded_of place digest_of input text = option_and_then (includes_of place digest_of) (named_at place input text)

-- A file that was there then is there now with equal contents; and the day is the same, where they ask for one, and so is the second in which it was changed.
pub record SameFile (then_at now_at : Place) (then_path now_path : Bytes) : Type 0 where
  pub contents : Bytes
  pub was : contents_at then_at.files then_path ≡ Some contents
  pub is : contents_at now_at.files now_path ≡ Some contents
  pub day : holds_date contents ≡ true → now_at.day ≡ then_at.day
  pub second : holds_timestamp contents ≡ true → second_at now_at.files now_path ≡ second_at then_at.files then_path

-- `now` has the surroundings of `earlier`, of whose text these are the named files
pub record SameSurroundings (earlier now : KeyCall) (names : List Bytes) : Type 0 where
  pub input : SameFile (place_of earlier) (place_of now) (input_path earlier) (input_path now)
  pub extra : map (contents_in earlier.scene.files) (extra_paths earlier) ≡ map (contents_in now.scene.files) (extra_paths now)  -- the extra files hold the same
  pub named : (name : Bytes) → Contains names name → SameFile (place_of earlier) (place_of now) (join earlier.scene.dir name) (join now.scene.dir name)
