-- The options of each C compiler, and how its tables cut words.
use Rattle.std.specs.Prelude.{Bool, List, [], ◌∷◌, Option, None, Some}
use Rattle.base_files.specs.Bytes.{Bytes}
use Rattle.cmdlines_base.specs.Reading.{Reading, reading}
use Rattle.cmdlines_base.specs.Table.{Entry, all_entries}
use Rattle.cmdlines_tables.specs.CompilerFacts.{facts_about}
use Rattle.cmdlines_tables.specs.declared.compiler.CCompilerKind.{CCompilerKind}
use Rattle.cmdlines_tables.specs.declared.kind.ArgKind.{ArgKind}

-- the tables of a compiler, in order
abbrev pub tables_of : CCompilerKind → List (List (Entry ArgKind))
tables_of kind = (facts_about kind).tables

-- one table, and the second where there is one
abbrev pub in_order : {A : Type 0} → A → Option A → List A
in_order first None = first ∷ []
in_order first (Some second) = first ∷ second ∷ []

abbrev pub entries_of : CCompilerKind → List (Entry ArgKind)
entries_of kind = all_entries (tables_of kind)

-- whether double dashes end the options
abbrev pub ends_options : CCompilerKind → Bool
ends_options kind = (facts_about kind).ends_options

-- how the compiler's tables cut words
abbrev pub reading_of : CCompilerKind → List Bytes → Reading ArgKind
reading_of kind words = reading (ends_options kind) (entries_of kind) words
