-- What differs between the C compilers: a block for each. All else that is said of one is said by these facts.
use Rattle.std.specs.Prelude.{Bool, true, false, List, [], ◌∷◌, Option, None, Some, codes, find}
use Rattle.std.specs.List.{list_any}
use Rattle.std.specs.Str.{bytes_eq}
use Rattle.base_files.specs.Bytes.{Bytes}
use Rattle.cmdlines_response_files.specs.declared.style.Style.{Style}
use Rattle.cmdlines_response_files.specs.declared.style.Style.TheVariants as styles
use Rattle.cmdlines_base.specs.Table.{Entry}
use Rattle.cmdlines_tables.specs.EmbeddedTables.{diab_entries, tasking_vx_entries}
use Rattle.cmdlines_tables.specs.GnuTable.{gnu_entries, clang_entries}
use Rattle.cmdlines_tables.specs.MsvcTable.{msvc_dash_entries, msvc_slash_entries}
use Rattle.cmdlines_tables.specs.declared.compiler.CCompilerKind.{CCompilerKind}
use Rattle.cmdlines_tables.specs.declared.compiler.CCompilerKind.TheVariants.{Gcc, Clang, Diab, Msvc, TaskingVX}
use Rattle.cmdlines_tables.specs.declared.compiler.Spelling.{Spelling}
use Rattle.cmdlines_tables.specs.declared.compiler.Spelling.TheVariants as spellings
use Rattle.cmdlines_tables.specs.declared.kind.ArgKind.{ArgKind}

-- the word that makes messages coloured: a flag, or one that takes a value after a '=' (61)
pub data ColorWord : Type 0 where
  by_flag : Bytes → ColorWord
  by_value : Bytes → Bytes → ColorWord

pub record CompilerFacts : Type 0 where
  -- as keys, scenarios and reports have it
  pub name : Bytes
  -- the file names of its executables
  pub executables : List Bytes
  -- how it writes the language, the output and dependency files
  pub spelling : Spelling
  -- how it opens words that name response files; None where it opens none
  pub style : Option Style
  -- whether double dashes end the options, so that all words after them are inputs
  pub ends_options : Bool
  -- the word that makes messages coloured, where there is one
  pub color : Option ColorWord
  -- its tables, in order
  pub tables : List (List (Entry ArgKind))

abbrev pub facts_about : CCompilerKind → CompilerFacts
facts_about Gcc = record {
  name = codes "gcc";
  executables = codes "cc" ∷ codes "gcc" ∷ codes "c++" ∷ codes "g++" ∷ [];
  spelling = spellings.Gnu;
  style = Some styles.Gnu;
  ends_options = false;
  color = Some (by_value (codes "-fdiagnostics-color") (codes "always"));
  tables = gnu_entries ∷ [];
}
facts_about Clang = record {
  name = codes "clang";
  executables = codes "clang" ∷ codes "clang++" ∷ [];
  spelling = spellings.Gnu;
  style = Some styles.Gnu;
  ends_options = true;
  color = Some (by_flag (codes "-fcolor-diagnostics"));
  tables = gnu_entries ∷ clang_entries ∷ [];
}
facts_about Diab = record {
  name = codes "diab";
  executables = codes "dcc" ∷ [];
  spelling = spellings.Plain;
  style = Some styles.Diab;
  ends_options = false;
  color = None;
  tables = diab_entries ∷ [];
}
facts_about Msvc = record {
  name = codes "msvc";
  executables = codes "cl" ∷ [];
  spelling = spellings.Msvc;
  style = Some styles.Msvc;
  ends_options = false;
  color = None;
  tables = msvc_dash_entries ∷ msvc_slash_entries ∷ [];
}
facts_about TaskingVX = record {
  name = codes "taskingvx";
  executables = codes "cctc" ∷ [];
  spelling = spellings.Plain;
  style = None;
  ends_options = false;
  color = None;
  tables = tasking_vx_entries ∷ [];
}

-- all of them
abbrev pub kinds : List CCompilerKind
kinds = Gcc ∷ Clang ∷ Diab ∷ Msvc ∷ TaskingVX ∷ []

abbrev pub kind_name : CCompilerKind → Bytes
kind_name kind = (facts_about kind).name

-- the compiler of that name
abbrev pub kind_named : Bytes → Option CCompilerKind
kind_named name = find (λ kind. bytes_eq (kind_name kind) name) kinds

-- whether an executable of it has that file name
abbrev pub has_executable : CCompilerKind → Bytes → Bool
has_executable kind name = list_any (bytes_eq name) (facts_about kind).executables

abbrev pub spelling_of : CCompilerKind → Spelling
spelling_of kind = (facts_about kind).spelling

abbrev pub style_of : CCompilerKind → Option Style
style_of kind = (facts_about kind).style
