use Rattle.std.proofs.Common.{List, ℕ, ◌++◌, arith, ap, sym, length-append, ◌∙◌}
use Rattle.std.proofs.lemmas.List.{append_assoc}
use Rattle.base_blake2.proofs.Absorbing.{held}
use Rattle.base_blake2.proofs.Blake2b256.update.Goals as goal

pub returns-then-bytes-room : goal.returns-then-bytes-room
returns-then-bytes-room c = λ m a. held _ _ _ (c.keep.ensures.held m _ a) (omega (arith, a.bytes, length-append m c.args.bytes.now))

pub returns-then-self-eq0 : goal.returns-then-self-eq0
returns-then-self-eq0 c = λ m a. c.absorb.ensures m _ a

pub returns : goal.returns
returns c = λ m a.
    let whole = append_assoc m c.split_at.result.0.now c.split_at.result.1.now ∙ ap (λ (x : List ℕ). m ++ x) (sym c.split_at.ensures.by_index.0) in
    rw whole at (c.absorb-2.ensures _ _ (c.take_in.ensures.held _ _ (c.keep-2.ensures.held m _ a)))
