use Rattle.std.proofs.Common.{rules, ◌≡◌, ◌++◌, ◌∷◌, [], ◌∙◌}
use Rattle.std.specs.Vec.Iter.{into_iter_items}
use Rattle.wrap.proofs.GatherLemmas.{gather_made, gather_none}
use Rattle.wrap.proofs.outputs.collected.Goals as goal
use Rattle.wrap.proofs.outputs.collected.Goals.{in-Some+in_ok-clone-in-Some+in_ok-push-in-Some, in-None+else-not-artifact}

pub loop-name-preserved : goal.loop-name-preserved
loop-name-preserved c =
    let map = c.loop-name.pairs.items in
    let i = c.loop-name.name-index in
    let o = c.loop-name-item.result in
    let files = into_iter_items c.loop-name.rest in
    rw c.next_file.ensures.after (elim c.match-next_file.branch [
      | in-Some+in_ok-clone-in-Some+in_ok-push-in-Some w ↦
          let items : c.match-next_file.pairs.items ≡ map ++ (o.0, w.in-Some.contents) ∷ [] = search rules in
          rw items (gather_made map c.args.outputs.now i o files c.loop-name-test.true c.loop-name-item.is w.in-Some.contents (search rules) ∙ c.loop-name.invariant)
      | in-None+else-not-artifact w ↦
          let items : c.match-next_file.pairs.items ≡ map = search rules in
          rw items (gather_none map c.args.outputs.now i o files c.loop-name-test.true c.loop-name-item.is (search rules) (search rules) ∙ c.loop-name.invariant)
    ])
