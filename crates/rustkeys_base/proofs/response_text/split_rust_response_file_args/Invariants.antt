use Rattle.std.proofs.Common.{◌≡◌, map}
use Rattle.rustkeys_base.proofs.response_text.split_rust_response_file_args.Given as goal

-- a word for each line so far
abbrev pub invariant-loop-line : goal.invariant-loop-line
invariant-loop-line l = l.words.items ≡ map (λ line. line.now) l.yielded
