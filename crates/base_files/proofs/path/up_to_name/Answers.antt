use Rattle.std.proofs.Common.{◌≡◌, sym, drop, true, false, [], ◌∷◌}
use Rattle.std.proofs.lemmas.List.{take_rest}
use Rattle.std.specs.Str.{bytes_eq}
use Rattle.base_files.proofs.PieceLaws.{file_name-none, file_name-parent, file_name-named}
use Rattle.base_files.proofs.path.up_to_name.Goals as goal

pub returns-in_err-whole-clause-name : goal.returns-in_err-whole-clause-name
returns-in_err-whole-clause-name c = rw c.from_residual.ensures (sym (file_name-none c.args.path.now c.in_err-whole.ensures.last))

pub returns-then-eq-clause-name : goal.returns-then-eq-clause-name
returns-then-eq-clause-name c =
    let parent : bytes_eq (drop c.in_ok-whole.start c.in_ok-whole.whole.now) (46 ∷ 46 ∷ []) ≡ true = rw (take_rest, c.as_slice.ensures) at (sym c.if-eq.ensures) in
    sym (file_name-parent c.args.path.now _ c.in_ok-whole.ensures.last parent)

pub returns-else-eq-clause-name : goal.returns-else-eq-clause-name
returns-else-eq-clause-name c =
    let named : bytes_eq (drop c.in_ok-whole.start c.in_ok-whole.whole.now) (46 ∷ 46 ∷ []) ≡ false = rw (take_rest, c.as_slice.ensures) at (sym c.if-eq.ensures) in
    sym (file_name-named c.args.path.now _ c.in_ok-whole.ensures.last named)
