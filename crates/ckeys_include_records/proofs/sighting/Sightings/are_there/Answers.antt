use Rattle.std.proofs.Common.{◌≡◌, sym, ap, subst, ◌∙◌, arith, true}
use Rattle.base_files.specs.Tree.{Tree}
use Rattle.ckeys_include_records.specs.Sightings.{AreTrue}
use Rattle.ckeys_include_records.specs.Surroundings.{is_there, place_with}
use Rattle.ckeys_include_records.proofs.Looking.{are_there-rest}
use Rattle.ckeys_include_records.proofs.sighting.Sightings.are_there.Goals as goal

pub loop-include-preserved : goal.loop-include-preserved
loop-include-preserved g c =
    let digest_of = g.H.HashState.digest_of in
    let inv = c.loop-include.invariant in
    let place = place_with c.args.dir.now (g.F.Files.tree c.args.files.now) c.args.day in
    let there : is_there place digest_of c.include-item.result ≡ true =
    ap (λ (tree : Tree). is_there (place_with c.args.dir.now tree c.args.day) digest_of c.include-item.result) (sym inv.tree) ∙ sym c.in_ok-is_there.ensures.there ∙ c.if-not-branch.false in
    record {
      seen = subst (λ (tree : Tree). AreTrue digest_of (place_with c.args.dir.now tree c.args.day) c.is_there.new.self) inv.tree c.is_there.ensures.seen;
      so_far = are_there-rest digest_of place c.args.includes.now c.loop-include.include-index c.include-item.result (omega arith) c.include-item.is there ∙ inv.so_far;
      tree = c.is_there.ensures.tree ∙ inv.tree;
      steady = c.in_ok-is_there.ensures.steady ∙ inv.steady;
    }
