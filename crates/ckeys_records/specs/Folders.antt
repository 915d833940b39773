-- The folders that a configuration holds.
use Rattle.std.specs.Prelude.{◌≡◌, Bool, true, not, ◌||◌, if◌then◌else◌, List, [], ◌∷◌, Option, Some}
use Rattle.std.specs.List.{list_all}
use Rattle.base_files.specs.Bytes.{Bytes}
use Rattle.base_files.specs.Path.{is_absolute, is_slash}
use Rattle.ckeys_time_macros.specs.Days.{ZoneRule}
use Rattle.ckeys_records.specs.declared.config.ConfigError.{ConfigError}
use Rattle.ckeys_records.specs.declared.config.ConfigError.TheVariants.{Memory, BadFolder}

-- a folder without the slashes at its end: nothing is left where only slashes are
abbrev pub without_slashes : Bytes → Bytes
without_slashes [] = []
without_slashes (b ∷ folder) = if list_all is_slash (b ∷ folder) then [] else b ∷ without_slashes folder

-- it isn't absolute, or is only slashes
abbrev pub is_bad : Bytes → Bool
is_bad folder = not (is_absolute folder) || list_all is_slash folder

-- what a configuration fixes: the folders that don't count, the zone in which days are given, and whether include records are kept
pub record Settings : Type 0 where
  pub basedirs : List Bytes
  pub zone : ZoneRule
  pub direct : Bool

abbrev pub settings_with : List Bytes → ZoneRule → Bool → Settings
settings_with basedirs zone direct = record { basedirs = basedirs; zone = zone; direct = direct }

-- memory, or the first bad folder
abbrev pub ConfigCause : Option Bytes → ConfigError → Type 0
ConfigCause first Memory = Unit {0}
ConfigCause first (BadFolder folder) = first ≡ Some folder

-- memory, or this one is bad
abbrev pub FolderCause : Bytes → ConfigError → Type 0
FolderCause folder Memory = Unit {0}
FolderCause folder (BadFolder other) = (other ≡ folder) × (is_bad folder ≡ true)
