-- What one option adds to the facts: a flag, what it is for, and its word.
use Rattle.std.specs.Prelude.{◌||◌}
use Rattle.base_files.specs.Bytes.{Bytes}
use Rattle.cmdlines_tables.specs.Kinds.{is_compile, is_output, is_diagnostics, blocks_preprocessor_cache, asks_dependencies, is_dependency_path, is_dependency_target}
use Rattle.cmdlines_tables.specs.declared.kind.ArgKind.{ArgKind}
use Rattle.cmdlines.specs.Wanted.{color_by, language_by}
use Rattle.cmdlines_base.specs.Choices.{when, later, sooner}
use Rattle.cmdlines.specs.declared.facts.Facts.{Facts}
use Rattle.cmdlines_tables.specs.declared.parsed.DependencyOptions.{DependencyOptions}

abbrev pub dependencies_with : DependencyOptions → ArgKind → DependencyOptions
dependencies_with d kind = record {
  asked = d.asked || asks_dependencies kind;
  path = d.path || is_dependency_path kind;
  target = d.target || is_dependency_target kind;
}

-- what its word says
abbrev pub noted_word : Facts → ArgKind → Bytes → Facts
noted_word f kind word = record f {
  compiles = f.compiles || is_compile kind;
  output = later f.output (when (is_output kind) word);
  language = later f.language (language_by kind word);
  diagnostics = later f.diagnostics (when (is_diagnostics kind) word);
  color = later f.color (color_by kind word);
  dependencies = dependencies_with f.dependencies kind;
}

-- and its flag, where it is the first under which the preprocessor cache can't be asked
abbrev pub noted : Facts → Bytes → ArgKind → Bytes → Facts
noted f flag kind word = noted_word (record f { blocker = sooner f.blocker (when (blocks_preprocessor_cache kind) flag) }) kind word
