-- The words that an `ExpandResponseFile` still gives.
use Rattle.std.specs.Prelude.{◌++◌, map, Ok, Err}
use Rattle.std.specs.Option.{option_map, option_to_list}
use Rattle.std.specs.Vec.Iter.{into_iter_items}
use Rattle.cmdlines_response_files.specs.Words.{Items}
use Rattle.rustkeys_base.specs.declared.expansion.ExpandResponseFile.{ExpandResponseFile}

abbrev pub items_left : ExpandResponseFile → Items
items_left s = map Ok (into_iter_items s.words) ++ option_to_list (option_map Err s.fault)
