use Rattle.std.proofs.Common.{refl, ap, sym, ◌∙◌}
use Rattle.base_files.specs.Path.{join}
use Rattle.ckeys_marker_walk.proofs.Since.{handed_on}
use Rattle.ckeys_marker_walk.proofs.Walking.{before_all}
use Rattle.ckeys_marker_walk.specs.Left.{sights_left}
use Rattle.ckeys_marker_walk.specs.Steps.{names_with}
use Rattle.ckeys_marker_walk.proofs.walk.walk.Goals as goal

pub loop-mark-init : goal.loop-mark-init
loop-mark-init g c =
    let dir = c.args.dir.now in
    let tree = g.F.Files.tree c.args.files.now in
    let input = join dir c.args.input.now in
    record {
      told = ap (names_with dir tree input c.new-names.result.items c.new-seen.result) (ap sights_left c.into_iter-mark-iterator.ensures.into_iter_gives ∙ c.new-mark-items.ensures.sights)
          ∙ before_all dir tree input c.args.text.now c.new-names.result.items c.new-seen.result c.new-names.ensures.items c.new-seen.ensures (sym c.asks_for_more.ensures ∙ c.if-asks_for_more.false);
      same = refl;
      steady = refl;
    }

pub returns-in_err-take_name-in-Named-clause-cause : goal.returns-in_err-take_name-in-Named-clause-cause
returns-in_err-take_name-in-Named-clause-cause g c =
    handed_on g.F.Files.tree g.F.Files.failed g.F.Files.fails_on c.args.files.now c.loop-mark.files c.take_name.new.files c.loop-mark.invariant.same c.loop-mark.invariant.steady
    c.from_residual-in_err-take_name-in-Named.result c.in_err-take_name-in-Named.field-0.0 c.from_residual-in_err-take_name-in-Named.ensures.1 c.in_err-take_name-in-Named.ensures.cause
