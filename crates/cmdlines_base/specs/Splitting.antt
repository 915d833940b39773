-- A word cut in two at a separator.
use Rattle.std.specs.Prelude.{◌≡◌, ◌≢◌, ◌≤◌, false, ◌++◌, length, Option, None, Some, string_bytes}
use Rattle.std.specs.Str.{is_utf8}
use Rattle.base_files.specs.Bytes.{Bytes}
use Rattle.cmdlines_base.specs.Texts.{Text}
use Rattle.cmdlines_base.specs.declared.argument_error.ArgParseError.{ArgParseError}
use Rattle.cmdlines_base.specs.declared.argument_error.ArgParseError.TheVariants.{UnexpectedEndOfArgs, InvalidUnicode, Other, Memory}

-- What comes before the first separator and what comes after it; where there is none, the word alone.
abbrev pub IsSplit : Bytes → Bytes → Text → Option Text → Type 0
IsSplit separator word before None = (string_bytes before ≡ word) × ((front back : Bytes) → word ≢ front ++ (separator ++ back))
IsSplit separator word before (Some after) = (word ≡ string_bytes before ++ (separator ++ string_bytes after)) × ((front back : Bytes) → word ≡ front ++ (separator ++ back) → length (string_bytes before) ≤ length front)

-- Why a word isn't split: it is no text, and comes back.
abbrev pub IsNoText : Bytes → ArgParseError → Type 0
IsNoText word (InvalidUnicode back) = (back ≡ word) × (is_utf8 word ≡ false)
IsNoText word Memory = Unit {0}
IsNoText word UnexpectedEndOfArgs = ⊥
IsNoText word (Other text) = ⊥
