use Rattle.std.proofs.Common.{◌≡◌, ◌++◌, take}
use Rattle.base_formats.specs.Spelling.{framed_all}
use Rattle.ckeys_include_records.specs.Framing.{FitFrames}
use Rattle.ckeys_include_records.proofs.framing.put_words.Given as goal

abbrev pub invariant-loop-word : goal.invariant-loop-word
invariant-loop-word l = record {
  added : l.out.items ≡ l.fn.out.items ++ framed_all (take l.word-index l.words);
  fits : FitFrames (take l.word-index l.words);
}
