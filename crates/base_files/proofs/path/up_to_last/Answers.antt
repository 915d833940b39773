use Rattle.std.proofs.Common.{◌≡◌, sym, arith, drop, true, false}
use Rattle.std.proofs.lemmas.List.{take_rest}
use Rattle.base_files.specs.Path.{counts}
use Rattle.base_files.proofs.PieceLaws.{last_piece_at, last_counted, renamed_counted, SameLast-before}
use Rattle.base_files.proofs.path.up_to_last.Goals as goal

pub returns-then-counts-clause-last : goal.returns-then-counts-clause-last
returns-then-counts-clause-last c =
    let rest = c.loop-rest.rest.now in
    let counted : counts (drop c.index_after_last-start.result rest) ≡ true = rw take_rest at (sym c.if-counts.ensures) in
    last_counted c.args.path.now rest _ (last_piece_at rest _ c.index_after_last-start.ensures) c.loop-rest.invariant counted

pub returns-then-counts-clause-before : goal.returns-then-counts-clause-before
returns-then-counts-clause-before c =
    let rest = c.loop-rest.rest.now in
    let counted : counts (drop c.index_after_last-start.result rest) ≡ true = rw take_rest at (sym c.if-counts.ensures) in
    renamed_counted c.args.path.now rest _ (last_piece_at rest _ c.index_after_last-start.ensures) c.loop-rest.invariant counted

pub loop-rest-preserved : goal.loop-rest-preserved
loop-rest-preserved c =
    let rest = c.loop-rest.rest.now in
    let uncounted : counts (drop c.index_after_last-start.result rest) ≡ false = rw take_rest at (sym c.if-counts.ensures) in
    SameLast-before c.args.path.now rest _ (last_piece_at rest _ c.index_after_last-start.ensures) c.loop-rest.invariant uncounted (omega arith)
