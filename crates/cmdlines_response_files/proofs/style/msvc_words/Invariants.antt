use Rattle.std.proofs.Common.{◌≡◌, ◌++◌}
use Rattle.cmdlines_response_files.specs.Decoding.{decoded}
use Rattle.cmdlines_response_files.specs.Left.{text_left}
use Rattle.cmdlines_response_files.specs.Scanning.{msvc_arguments}
use Rattle.cmdlines_response_files.proofs.style.msvc_words.Given as goal

-- the arguments so far, and those of the text that is left
abbrev pub invariant-loop-word : goal.invariant-loop-word
invariant-loop-word l = l.words.items ++ msvc_arguments (text_left l.word-iterator) ≡ msvc_arguments (decoded l.fn.text)
