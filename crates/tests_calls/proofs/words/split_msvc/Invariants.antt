use Rattle.std.proofs.Common.{◌≡◌, ◌++◌}
use Rattle.cmdlines_response_files.specs.Decoding.{decoded}
use Rattle.cmdlines_response_files.specs.Left.{text_left}
use Rattle.cmdlines_response_files.specs.Scanning.{msvc_arguments}
use Rattle.tests_calls.proofs.words.split_msvc.Given as goal

-- the arguments so far, and those of the text that is left
abbrev pub invariant-loop-argument : goal.invariant-loop-argument
invariant-loop-argument l = l.arguments.items ++ msvc_arguments (text_left l.argument-iterator) ≡ msvc_arguments (decoded l.fn.text)
