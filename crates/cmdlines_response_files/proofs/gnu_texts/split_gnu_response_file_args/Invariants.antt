use Rattle.std.proofs.Common.{◌≡◌, drop}
use Rattle.cmdlines_response_files.specs.Scanning.{arguments_with, gnu_arguments, gnu_marks}
use Rattle.cmdlines_response_files.proofs.gnu_texts.split_gnu_response_file_args.Given as goal

-- the arguments so far and those of the bytes that are left are those of the text
abbrev pub invariant-loop-byte : goal.invariant-loop-byte
invariant-loop-byte l =
    arguments_with l.scanner.arguments.items l.scanner.current.items (gnu_marks l.scanner.escaped l.scanner.quote (drop l.byte-index l.text)) ≡ gnu_arguments l.fn.text
