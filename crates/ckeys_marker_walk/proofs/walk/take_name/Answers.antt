use Rattle.std.proofs.Common.{◌≡◌, false, [], ◌∷◌, ◌++◌, ap, sym, ◌∙◌}
use Rattle.base_files.specs.Bytes.{Bytes}
use Rattle.ckeys_marker_walk.proofs.Walking.{comes_first_counts, comes_first_skipped, unfalse}
use Rattle.ckeys_marker_walk.specs.Steps.{standing_on}
use Rattle.ckeys_marker_walk.specs.Seen.{has_come, slice_of}
use Rattle.ckeys_marker_walk.proofs.walk.take_name.Goals as goal

pub returns-in_ok-push-in-Counts-clause-names : goal.returns-in_ok-push-in-Counts-clause-names
returns-in_ok-push-in-Counts-clause-names g c =
    let dir = c.args.dir.now in
    let tree = g.F.Files.tree c.args.files.now in
    let input = c.args.input.now in
    let names = c.args.names.now.items in
    let first : has_come c.args.seen.now (slice_of c.args.raw.now) ≡ false = unfalse _ (sym c.in_ok-comes_first.ensures.first ∙ c.if-not-branch.false) in
    let counts = ap (standing_on dir tree input) (sym (c.as_bytes.ensures ∙ c.in_ok-name.ensures)) ∙ sym c.in_ok-standing_on.ensures.verdict ∙ c.in-Counts.is in
    let pushed = c.in_ok-push-in-Counts.ensures.items ∙ ap (λ (name : Bytes). names ++ name ∷ []) c.in_ok-name.ensures in
    λ told. comes_first_counts dir tree input names c.args.seen.now c.args.raw.now told c.comes_first.new.self c.push.new.self.items first c.in_ok-comes_first.ensures.come counts pushed

pub returns-in-Skipped-clause-names : goal.returns-in-Skipped-clause-names
returns-in-Skipped-clause-names g c =
    let dir = c.args.dir.now in
    let tree = g.F.Files.tree c.args.files.now in
    let input = c.args.input.now in
    let first : has_come c.args.seen.now (slice_of c.args.raw.now) ≡ false = unfalse _ (sym c.in_ok-comes_first.ensures.first ∙ c.if-not-branch.false) in
    let skipped = ap (standing_on dir tree input) (sym (c.as_bytes.ensures ∙ c.in_ok-name.ensures)) ∙ sym c.in_ok-standing_on.ensures.verdict ∙ c.in-Skipped.is in
    λ told. comes_first_skipped dir tree input c.args.names.now.items c.args.seen.now c.args.raw.now told c.comes_first.new.self first c.in_ok-comes_first.ensures.come skipped
