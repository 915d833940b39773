-- The verdict on a request's words to a C compiler: why it is passed through, or what it asks for.
use Rattle.std.specs.Prelude.{Bool, ◌||◌, List, ◌++◌, Option, if◌then◌else◌, string_bytes}
use Rattle.std.specs.Option.{option_map}
use Rattle.base_files.specs.Bytes.{Bytes}
use Rattle.cmdlines.specs.Commands.{compile_words, preprocess_words, output_path}
use Rattle.cmdlines.specs.Hazards.{opens_file}
use Rattle.cmdlines.specs.Parsing.{parse_of}
use Rattle.cmdlines.specs.Parsing as parsing
use Rattle.cmdlines_tables.specs.declared.parsed.ParsedArguments.{ParsedArguments}
use Rattle.cmdlines_tables.specs.declared.compiler.CCompilerKind.{CCompilerKind}
use Rattle.ckeys_records.specs.Records.{hold_end}
use Rattle.wrap_base.specs.declared.reason.Reason.{Reason}
use Rattle.wrap_base.specs.declared.reason.Reason.TheVariants.{NotCompilation, CannotCache, EmptyValue, OpensFile, Byte255, NotUtf8}

-- why a request is passed through
pub data Why : Type 0 where
  not_compilation : Why
  cannot_cache : Bytes → Option Bytes → Why
  empty_value : Why
  opens_a_file : Why
  byte_255 : Why
  not_utf8 : Why

-- a reason without where its text lies in memory
abbrev pub why_of : Reason → Why
why_of NotCompilation = not_compilation
why_of (CannotCache reason more) = cannot_cache reason.now (option_map string_bytes more)
why_of EmptyValue = empty_value
why_of OpensFile = opens_a_file
why_of Byte255 = byte_255
why_of NotUtf8 = not_utf8

-- a request is passed through, or it asks for this
pub data Judgement : Type 0 where
  passes : Why → Judgement
  asks : ParsedArguments → Judgement

-- a word of one of its commands would make the compiler open a response file
abbrev pub commands_open_file : CCompilerKind → ParsedArguments → Bool
commands_open_file kind p = opens_file kind (compile_words kind p (output_path p)) || opens_file kind (preprocess_words kind p)

-- the hashed words, the architectures last
abbrev pub hashed_words : ParsedArguments → List Bytes
hashed_words p = p.common_args ++ p.arch_args

-- The hazards: an option whose value may be joined or separate has an empty one, a word of a command would open a file, or a hashed word holds the byte ending one.
abbrev pub with_hazards : CCompilerKind → parsing.Decision → Judgement
with_hazards kind parsing.not_compilation = passes not_compilation
with_hazards kind (parsing.cannot_cache reason more) = passes (cannot_cache reason more)
with_hazards kind (parsing.asks p) = if p.empty_value then passes empty_value else (if commands_open_file kind p then passes opens_a_file else (if hold_end (hashed_words p) then passes byte_255 else asks p))

-- the verdict on words of that compiler, whose files are opened
abbrev pub verdict_of : CCompilerKind → List Bytes → Judgement
verdict_of kind words = with_hazards kind (parse_of kind words)
