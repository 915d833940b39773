use Rattle.std.proofs.Common.{◌≡◌, ◌++◌}
use Rattle.cmdlines_response_files.specs.Msvc.{backslashes}
use Rattle.cmdlines_response_files.proofs.msvc_texts.push_backslashes.Given as goal

abbrev pub invariant-loop : goal.invariant-loop
invariant-loop l = l.bytes.items ≡ l.fn.bytes.items ++ backslashes l.counter
