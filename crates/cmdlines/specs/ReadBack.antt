-- A command is read again as what was wanted.
use Rattle.std.specs.Prelude.{◌≡◌, false, List}
use Rattle.base_files.specs.Bytes.{Bytes}
use Rattle.cmdlines_base.specs.Reading.{Item}
use Rattle.cmdlines_tables.specs.Tables.{reading_of}
use Rattle.cmdlines_tables.specs.declared.compiler.CCompilerKind.{CCompilerKind}
use Rattle.cmdlines_tables.specs.declared.kind.ArgKind.{ArgKind}
use Rattle.cmdlines.specs.Commands.{ReadsAs, output_path, compile_items, preprocess_items}
use Rattle.cmdlines.specs.Parsing.{parse_of, asks, HasSafeInput}
use Rattle.cmdlines_tables.specs.declared.parsed.ParsedArguments.{ParsedArguments}

-- For whatever words asked for this: where no option had an empty value and the input can be where it's written, the command is read as these items, with the wanted options of those words.
abbrev pub ReadsAsWanted : CCompilerKind → ParsedArguments → List Bytes → (List (Item ArgKind) → List (Item ArgKind)) → Type 0
ReadsAsWanted kind p command expected = (words : List Bytes) → parse_of kind words ≡ asks p → p.empty_value ≡ false → HasSafeInput kind p → ReadsAs kind command (expected (reading_of kind words).items)

abbrev pub ReadsAsCompile : CCompilerKind → ParsedArguments → List Bytes → Type 0
ReadsAsCompile kind p command = ReadsAsWanted kind p command (compile_items kind p (output_path p))

abbrev pub ReadsAsPreprocess : CCompilerKind → ParsedArguments → List Bytes → Type 0
ReadsAsPreprocess kind p command = ReadsAsWanted kind p command (preprocess_items kind p)
