-- Why a word makes no value, and which error says so.
use Rattle.std.specs.Prelude.{◌≡◌, Option, None, Some, if◌then◌else◌}
use Rattle.std.specs.Str.{is_utf8}
use Rattle.base_files.specs.Bytes.{Bytes}
use Rattle.cmdlines_base.specs.declared.argument_error.ArgParseError.{ArgParseError}
use Rattle.cmdlines_base.specs.declared.argument_error.ArgParseError.TheVariants.{UnexpectedEndOfArgs, InvalidUnicode, Other, Memory}

-- the word is no text, or its option doesn't take it, for that reason
pub data Refusal : Type 0 where
  no_text : Refusal
  because : Bytes → Refusal

-- only what is no text is refused
abbrev pub unless_text : Bytes → Option Refusal
unless_text word = if is_utf8 word then None else Some no_text

-- The error of a word that is refused so, or isn't refused: it holds the word or gives the reason. Out of memory is an error of any word.
abbrev pub IsErrorOf : Option Refusal → Bytes → ArgParseError → Type 0
IsErrorOf refusal word UnexpectedEndOfArgs = ⊥
IsErrorOf refusal word (InvalidUnicode held) = (refusal ≡ Some no_text) × (held ≡ word)
IsErrorOf refusal word (Other reason) = refusal ≡ Some (because reason.now)
IsErrorOf refusal word Memory = Unit {0}
