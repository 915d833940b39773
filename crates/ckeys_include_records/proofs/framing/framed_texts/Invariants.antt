use Rattle.std.proofs.Common.{◌≡◌, map, take}
use Rattle.std.specs.Prelude.{string_bytes}
use Rattle.base_formats.specs.Spelling.{framed_all}
use Rattle.ckeys_include_records.specs.Framing.{FitFrames}
use Rattle.ckeys_include_records.proofs.framing.framed_texts.Given as goal

abbrev pub invariant-loop-text : goal.invariant-loop-text
invariant-loop-text l = record {
  bytes : l.out.items ≡ framed_all (map string_bytes (take l.text-index l.texts));
  fits : FitFrames (map string_bytes (take l.text-index l.texts));
}
