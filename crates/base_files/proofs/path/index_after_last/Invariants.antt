use Rattle.std.proofs.Common.{◌≡◌, ◌==◌, ◌+◌, ◌≤◌, not, length, take}
use Rattle.std.specs.List.{suffix_len}
use Rattle.base_files.proofs.path.index_after_last.Given as goal

-- the bytes from the end on are other bytes
abbrev pub invariant-loop-end : goal.invariant-loop-end
invariant-loop-end l =
    (l.end ≤ length l.bytes)
    × (l.end + suffix_len (λ other. not (other == l.byte)) l.bytes ≡ length l.bytes + suffix_len (λ other. not (other == l.byte)) (take l.end l.bytes))

abbrev pub decreases-loop-end : goal.decreases-loop-end
decreases-loop-end l = l.end
