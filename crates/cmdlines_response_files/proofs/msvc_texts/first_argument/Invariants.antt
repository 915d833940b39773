use Rattle.std.proofs.Common.{◌≡◌, ◌+◌, ◌≤◌, length, false, []}
use Rattle.cmdlines_response_files.specs.Gathering.{gathered}
use Rattle.cmdlines_response_files.specs.Scanning.{begun_with, msvc_arguments, msvc_marks}
use Rattle.cmdlines_response_files.proofs.msvc_texts.first_argument.Given as goal

-- the argument begun, the backslashes before the rest and the rest give the arguments of the text
abbrev pub invariant-loop-byte : goal.invariant-loop-byte
invariant-loop-byte l = record {
  same : gathered (begun_with l.begun l.argument.items) (msvc_marks l.quoted l.slashes l.rest) ≡ msvc_arguments l.fn.text;
  shorter : l.slashes + length l.rest ≤ length l.fn.text;
  plain : l.begun ≡ false → l.argument.items ≡ [];
}

abbrev pub decreases-loop-byte : goal.decreases-loop-byte
decreases-loop-byte l = length l.rest
