use Rattle.std.proofs.Common.{◌≡◌, ◌++◌, map, take}
use Rattle.std.specs.Option.{option_to_list}
use Rattle.base_files.specs.Path.{join}
use Rattle.rustc_texts.proofs.outputs.targets.Given as goal

-- the text's own path, and those of the names so far
abbrev pub invariant-loop-name : goal.invariant-loop-name
invariant-loop-name l =
    l.paths.items ≡ map (join l.parsed.output_dir) (option_to_list l.parsed.dep_info) ++ map (join l.parsed.output_dir) (take l.name-index l.names)
