use Rattle.std.proofs.Common.{ap, ◌∙◌, max, arith, ℕ}
use Rattle.ckeys_base.specs.FolderPlaces.{counted_len}
use Rattle.ckeys_base.specs.FromTheLeft.{places_of}
use Rattle.ckeys_base.proofs.Longest.{longest-step, longest-done}
use Rattle.ckeys_base.proofs.strip.places.longest_at.Goals as goal

pub loop-folder-preserved : goal.loop-folder-preserved
loop-folder-preserved c =
    let made = c.larger-best.ensures ∙ ap (λ (n : ℕ). max c.loop-folder.best n) (c.counted_len.ensures.value ∙ ap (counted_len (places_of c.args.kind) c.args.text.now c.args.at) c.as_bytes.ensures) in
    (longest-step (places_of c.args.kind) c.args.folders.now c.loop-folder.folder-index c.folder-item.result c.args.text.now c.args.at c.loop-folder.best c.larger-best.result _ c.loop-folder-test.true c.folder-item.is c.loop-folder.invariant.0 made, omega (arith, c.larger-best.ensures, c.counted_len.ensures.within))

pub returns-clause-value : goal.returns-clause-value
returns-clause-value c = longest-done (places_of c.args.kind) c.args.folders.now c.loop-folder.folder-index c.args.text.now c.args.at _ _ c.loop-folder-test.false c.loop-folder.invariant.0
