use Rattle.std.proofs.Common.{◌≡◌, take}
use Rattle.cmdlines_tables.proofs.command.copied_env.Given as goal

abbrev pub invariant-loop-name : goal.invariant-loop-name
invariant-loop-name l = l.copy ≡ take l.name-index l.env
