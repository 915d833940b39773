-- The variables that a source names, as the text on its dependencies lists them.
use Rattle.std.specs.Prelude.{nat_eq, List, Option, None, Some, length, drop, codes, filter_map, if◌then◌else◌}
use Rattle.std.specs.List.{starts_with}
use Rattle.std.specs.Option.{option_map}
use Rattle.std.specs.Str.Lines.{lines}
use Rattle.base_files.specs.Bytes.{Bytes}
use Rattle.rustc_options.specs.Splitting.{before_equals, after_equals}
use Rattle.rustc_parts.specs.declared.parts.EnvDep.{EnvDep}

-- how a line begins that lists a variable
abbrev pub mark : Bytes
mark = codes "# env-dep:"

-- what it says of the variable, where it begins so
abbrev pub told_in : Bytes → Option Bytes
told_in line = if starts_with nat_eq line mark then Some (drop (length mark) line) else None

-- a name, and a value after the first `=`; without a `=` it isn't set
abbrev pub env_dep_of : Bytes → EnvDep
env_dep_of told = record { name = before_equals told; value = after_equals told }

abbrev pub env_dep_in : Bytes → Option EnvDep
env_dep_in line = option_map env_dep_of (told_in line)

-- those of all lines, the first among them, in order. A line ends at 10, and a 13 right before that is no part of it; what comes after the last 10 is a line where it isn't empty.
abbrev pub env_deps_of : Bytes → List EnvDep
env_deps_of text = filter_map env_dep_in (lines text)
