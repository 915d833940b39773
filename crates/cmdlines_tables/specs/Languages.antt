-- The languages of inputs.
use Rattle.std.specs.Prelude.{Bool, true, false, List, [], ◌∷◌, Option, None, Some, codes, find}
use Rattle.std.specs.Option.{option_map}
use Rattle.std.specs.Str.{bytes_eq}
use Rattle.base_files.specs.Bytes.{Bytes}
use Rattle.cmdlines_tables.specs.CompilerFacts.{spelling_of}
use Rattle.cmdlines_tables.specs.declared.compiler.CCompilerKind.{CCompilerKind}
use Rattle.cmdlines_tables.specs.declared.compiler.Spelling.{Spelling}
use Rattle.cmdlines_tables.specs.declared.compiler.Spelling.TheVariants.{Gnu}
use Rattle.cmdlines_tables.specs.declared.language.Language.{Language}
use Rattle.cmdlines_tables.specs.declared.language.Language.TheVariants.{C, Cxx, CPreprocessed, CxxPreprocessed, Assembler, AssemblerToPreprocess, Rust}

-- a text that means a language
abbrev pub Meant : Type 0
Meant = Bytes × Language

-- the language that a text means by this list
abbrev pub meant_by : List Meant → Bytes → Option Language
meant_by list text = option_map (λ entry. entry.1) (find (λ entry. bytes_eq text entry.0) list)

-- the extensions that the C compilers know
abbrev pub extensions : List Meant
extensions =
    (codes "c", C)
    ∷ (codes "cc", Cxx) ∷ (codes "cp", Cxx) ∷ (codes "cpp", Cxx) ∷ (codes "CPP", Cxx) ∷ (codes "cxx", Cxx) ∷ (codes "c++", Cxx) ∷ (codes "C", Cxx)
    ∷ (codes "i", CPreprocessed)
    ∷ (codes "ii", CxxPreprocessed)
    ∷ (codes "s", Assembler)
    ∷ (codes "S", AssemblerToPreprocess) ∷ (codes "sx", AssemblerToPreprocess)
    ∷ []

abbrev pub language_of_extension : Bytes → Option Language
language_of_extension extension = meant_by extensions extension

-- the name of a language, as it is in keys
abbrev pub name_of : Language → Bytes
name_of C = codes "c"
name_of Cxx = codes "c++"
name_of CPreprocessed = codes "cpp-output"
name_of CxxPreprocessed = codes "c++-cpp-output"
name_of Assembler = codes "assembler"
name_of AssemblerToPreprocess = codes "assembler-with-cpp"
name_of Rust = codes "rust"

-- the languages that an option can name, by their names
abbrev pub named : Language → Meant
named language = (name_of language, language)

abbrev pub language_named : Bytes → Option Language
language_named name = meant_by (named C ∷ named Cxx ∷ named CPreprocessed ∷ named CxxPreprocessed ∷ named Assembler ∷ named AssemblerToPreprocess ∷ []) name

-- what an option names a language by: Rust is no language of a C compiler
abbrev pub language_option : Language → Option Bytes
language_option Rust = None
language_option language = Some (name_of language)

-- Gcc and those like it know all languages, the others C and C++ alone.
abbrev pub knows_by : Spelling → Language → Bool
knows_by Gnu language = true
knows_by spelling C = true
knows_by spelling Cxx = true
knows_by spelling language = false

abbrev pub knows : CCompilerKind → Language → Bool
knows kind language = knows_by (spelling_of kind) language
