use Rattle.std.proofs.Common.{◌≡◌, take}
use Rattle.base_formats.specs.Spelling.{framed_all}
use Rattle.ckeys_include_records.specs.Framing.{FitFrames, pair_parts, paths_of}
use Rattle.ckeys_include_records.proofs.framing.framed_outputs.Given as goal

abbrev pub invariant-loop-name : goal.invariant-loop-name
invariant-loop-name l = record {
  bytes : l.out.items ≡ framed_all (pair_parts (paths_of (take l.name-index l.outputs)));
  fits : FitFrames (pair_parts (paths_of (take l.name-index l.outputs)));
}
