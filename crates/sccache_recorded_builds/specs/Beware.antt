-- Options under which an output that is kept may be incomplete or wrong.
use Rattle.std.specs.Borrow.{Bor}
use Rattle.std.specs.Prelude.{◌≡◌, [], ◌∷◌, Bool, false, ◌||◌, ◌&&◌, List, map, find, Option, None, Some, codes, if◌then◌else◌, nat_eq}
use Rattle.std.specs.List.{list_any, starts_with}
use Rattle.std.specs.Str.{bytes_eq}
use Rattle.base_files.specs.Bytes.{Bytes}
use Rattle.sccache_recorded_builds.specs.declared.beware.TheConstants.{WHOLE, FRONTS, NAMING_FRONT}

abbrev pub begins_with : Bytes → Bytes → Bool
begins_with word front = starts_with nat_eq word front

-- the first of these that is there
abbrev pub sooner : Option Bytes → Option Bytes → Option Bytes
sooner None later = later
sooner (Some option) later = Some option

abbrev pub is_named : Bytes → Option Bytes → Bool
is_named name None = false
is_named name (Some other) = bytes_eq other name

-- an option that names a file after an equals sign
abbrev pub naming : Bytes → Option Bytes
naming word =
    if begins_with word NAMING_FRONT.now && list_any (nat_eq 61) word then Some NAMING_FRONT.now
    else None

-- the option that a word is by these tables, in whole or at its front
abbrev pub listed_option : List Bytes → List Bytes → Bytes → Option Bytes
listed_option options fronts word =
    sooner (find (bytes_eq word) options)
    (sooner (find (begins_with word) fronts) (naming word))

-- A definition or a folder is none.
abbrev pub option_of : Bytes → Option Bytes
option_of word =
    if begins_with word (codes "-D") || begins_with word (codes "-I") then None
    else listed_option (map (λ option. option.now) WHOLE) (map (λ front. front.now) FRONTS) word

abbrev pub is_option : Bytes → Bytes → Bool
is_option option word = is_named option (option_of word)

-- the option is among these
abbrev pub is_among : Bytes → List (Bor Bytes) → Bool
is_among option options = list_any (λ other. bytes_eq other.now option) options

-- each of them is there once
abbrev pub AreOnce : List (Bor Bytes) → Type 0
AreOnce [] = Unit {0}
AreOnce (option ∷ options) = (is_among option.now options ≡ false) × AreOnce options
