use Rattle.std.proofs.Common.{◌≡◌, ◌++◌, map}
use Rattle.base_files.specs.Path.{start_of, part_in, part_of}
use Rattle.base_files.proofs.path.components.Given as goal

-- the start, and a component for each piece so far
abbrev pub invariant-loop-piece : goal.invariant-loop-piece
invariant-loop-piece l = map part_of l.list.items ≡ start_of l.path ++ map part_in (map (λ piece. piece.now) l.yielded)
