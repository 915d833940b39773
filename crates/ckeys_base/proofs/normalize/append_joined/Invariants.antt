use Rattle.std.proofs.Common.{◌≡◌, ◌++◌, map, drop}
use Rattle.std.specs.List.{join_with_byte}
use Rattle.ckeys_base.proofs.NormalNames.{after_slashes}
use Rattle.ckeys_base.proofs.normalize.append_joined.Given as goal

-- what is written so far, and the names that are still to come, each after a slash
abbrev pub invariant-loop-name : goal.invariant-loop-name
invariant-loop-name l =
    l.bytes.items ++ after_slashes (map (λ name. name.now) (drop l.name-index l.later))
    ≡ l.fn.bytes.items ++ join_with_byte 47 (map (λ name. name.now) l.names)
