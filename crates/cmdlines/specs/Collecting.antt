-- What was collected of the items so far, and then of more.
use Rattle.std.specs.Prelude.{false, ◌||◌, List, [], ◌++◌, None, find}
use Rattle.std.specs.List.{flat_map, list_any}
use Rattle.cmdlines_base.specs.Printing.{is_empty_j}
use Rattle.cmdlines_base.specs.Reading.{Item, Reading}
use Rattle.cmdlines_base.specs.Table.{Entry}
use Rattle.cmdlines_tables.specs.Kinds.{is_compile, is_output, is_arch, is_diagnostics, is_extra_file, asks_dependencies, is_dependency_path, is_dependency_target}
use Rattle.cmdlines_tables.specs.declared.compiler.CCompilerKind.{CCompilerKind}
use Rattle.cmdlines_tables.specs.declared.kind.ArgKind.{ArgKind}
use Rattle.cmdlines_tables.specs.declared.kind.OptionList.TheVariants as lists
use Rattle.cmdlines.specs.Wanted.{has_kind, word_in, words_in, color_in, language_in, blocker_in, input_in, last_of, first_of, wanted_words, is_hard}
use Rattle.cmdlines_base.specs.Choices.{later, sooner}
use Rattle.cmdlines.specs.Parsing.{Decision, decided}
use Rattle.cmdlines.specs.declared.facts.Facts.{Facts}
use Rattle.cmdlines.specs.declared.lists.Lists.{Lists}

abbrev pub no_facts : Facts
no_facts = record { compiles = false; output = None; language = None; diagnostics = None; color = None; blocker = None; dependencies = record { asked = false; path = false; target = false }; empty_value = false }

abbrev pub no_lists : Lists
no_lists = record { inputs = []; preprocessor = []; dependency = []; unhashed = []; common = []; arch = []; architectures = []; extra_files = [] }

-- what was known, and then all that these items say
abbrev pub facts_with : List (Entry ArgKind) → Facts → List (Item ArgKind) → Facts
facts_with table f items = record {
  compiles = f.compiles || list_any (has_kind is_compile) items;
  output = later f.output (last_of (word_in is_output) items);
  language = later f.language (last_of language_in items);
  diagnostics = later f.diagnostics (last_of (word_in is_diagnostics) items);
  color = later f.color (last_of color_in items);
  blocker = sooner f.blocker (first_of blocker_in items);
  dependencies = record {
    asked = f.dependencies.asked || list_any (has_kind asks_dependencies) items;
    path = f.dependencies.path || list_any (has_kind is_dependency_path) items;
    target = f.dependencies.target || list_any (has_kind is_dependency_target) items;
  };
  empty_value = f.empty_value || list_any (is_empty_j table) items;
}

abbrev pub lists_with : Lists → List (Item ArgKind) → Lists
lists_with l items = record {
  inputs = l.inputs ++ flat_map input_in items;
  preprocessor = l.preprocessor ++ wanted_words lists.Preprocessor items;
  dependency = l.dependency ++ wanted_words lists.Dependency items;
  unhashed = l.unhashed ++ wanted_words lists.Unhashed items;
  common = l.common ++ wanted_words lists.Common items;
  arch = l.arch ++ wanted_words lists.Arch items;
  architectures = l.architectures ++ words_in is_arch items;
  extra_files = l.extra_files ++ words_in is_extra_file items;
}

-- the decision over what was collected and the words that are left
abbrev pub decide : CCompilerKind → List (Entry ArgKind) → Facts → Lists → Reading ArgKind → Decision
decide kind table f l r = decided kind (find (is_hard kind) r.items) r.cut_short (facts_with table f r.items) (lists_with l r.items)
