-- What a request's options are asked for beside a compile: its object, the name that a person reads, and its architectures; and a command.
use Rattle.std.specs.Prelude.{Bool, not, List, [], ◌∷◌, Option, codes, filter, find}
use Rattle.std.specs.Option.{option_map, option_map_or, option_and_then}
use Rattle.std.specs.Str.{bytes_eq}
use Rattle.std.specs.Str.Lossy.{utf8_lossy}
use Rattle.base_files.specs.Bytes.{Bytes}
use Rattle.base_files.specs.Path.{file_name}
use Rattle.cmdlines_base.specs.declared.command.ArtifactDescriptor.{ArtifactDescriptor}
use Rattle.cmdlines_base.specs.declared.command.SingleCompileCommand.{SingleCompileCommand}
use Rattle.cmdlines_base.specs.Artifacts.{Artifacts}

-- the name of the object
abbrev pub object_name : Bytes
object_name = codes "obj"

-- the first output of that name
abbrev pub output_named : Bytes → Artifacts → Option ArtifactDescriptor
output_named name outputs = option_map (λ o. o.1) (find (λ o. bytes_eq o.0 name) outputs)

-- the file name of the object, if there is one
abbrev pub object_file_name : Artifacts → Option Bytes
object_file_name outputs = option_and_then (λ o. file_name o.path) (output_named object_name outputs)

-- that name as text, where U+FFFD replaces what isn't UTF-8
abbrev pub pretty_name : Artifacts → Bytes
pretty_name outputs = option_map_or utf8_lossy (object_file_name outputs) (codes "Unknown filename")

-- another word than that one
abbrev pub differs_from : Bytes → Bytes → Bool
differs_from word other = not (bytes_eq other word)

-- all words but that one
abbrev pub without : Bytes → List Bytes → List Bytes
without word words = filter (differs_from word) words

-- each word once, where it appears first
abbrev pub first_appearances : List Bytes → List Bytes
first_appearances [] = []
first_appearances (word ∷ words) = word ∷ without word (first_appearances words)

-- the flag that comes before each architecture
abbrev pub arch_flag : Bytes
arch_flag = codes "-arch"

-- the architectures that words name
abbrev pub archs_of : List Bytes → List Bytes
archs_of words = first_appearances (without arch_flag words)

-- these words, run by this executable, in this directory, under these variables
abbrev pub command_at : Bytes → List Bytes → List (Bytes × Bytes) → Bytes → SingleCompileCommand
command_at executable words env dir = record { executable = executable; arguments = words; env_vars = env; cwd = dir }
