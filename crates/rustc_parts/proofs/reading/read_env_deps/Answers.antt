use Rattle.std.proofs.Common.{false}
use Rattle.std.proofs.lemmas.Result.{err_from_is_err_and}
use Rattle.rustc_parts.specs.Reading.{each_at, env_dep_at}
use Rattle.rustc_parts.proofs.RowReads.{each-goes_on, each-ends, each-done}
use Rattle.rustc_parts.proofs.reading.read_env_deps.Goals as goal

pub returns-in_err-dep : goal.returns-in_err-dep
returns-in_err-dep c =
    let p = err_from_is_err_and c.from_residual.result c.from_residual.ensures.1 in
    rw (p.1, p.2) (each-ends env_dep_at c.deps.all.items c.args.are_set.now c.deps.is_set-index c.deps.rest.now _ false c.in_err-dep.field-0.0 c.deps-test.true c.in_err-dep.ensures c.deps.invariant)

pub deps-preserved : goal.deps-preserved
deps-preserved c =
    let n = c.in_ok-dep.dep in
    rw c.in_ok-push.ensures.items (each-goes_on env_dep_at c.deps.all.items c.args.are_set.now c.deps.is_set-index c.deps.rest.now (each_at env_dep_at c.args.are_set.now c.args.bytes.now) false n c.in_ok-dep.after.now c.deps-test.true c.in_ok-dep.ensures c.deps.invariant)

pub returns : goal.returns
returns c = rw c.from_vec.ensures (each-done env_dep_at c.deps.all.items c.args.are_set.now c.deps.is_set-index c.deps.rest.now _ c.deps-test.false c.deps.invariant)
