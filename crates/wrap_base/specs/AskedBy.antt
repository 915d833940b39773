-- What is asked of a compiler of either family.
use Rattle.std.specs.Prelude.{List, Option, None, Some}
use Rattle.base_files.specs.Bytes.{Bytes}
use Rattle.cmdlines_tables.specs.declared.compiler.CCompilerKind.{CCompilerKind}
use Rattle.ckeys_records.specs.Meaning.{Asked, asked_of, words}

-- what the words of a command ask of the C compiler of that kind, or of rustc where there is none
abbrev pub asked_by : Option CCompilerKind → List Bytes → Asked
asked_by None command = words command
asked_by (Some kind) command = asked_of kind command
