use Rattle.std.proofs.Common.{◌≡◌, ◌∙◌, Some, ◌++◌}
use Rattle.std.specs.Option.{option_map}
use Rattle.sccache_script_tool.specs.Scripted.{replaced}
use Rattle.sccache_script_tool.proofs.TextLaws.{lines-step}
use Rattle.sccache_script_tool.proofs.scripting.push_lines.Goals as goal

pub loop-line-preserved : goal.loop-line-preserved
loop-line-preserved g c =
    let tree = c.loop-line.invariant.tree in
    let line_by = replaced (g.F.Files.tree c.args.files.now) c.args.dir.now c.args.path.now in
    let added : Some c.push_line.new.text.items ≡ option_map (λ part. c.loop-line.text.items ++ part) (line_by c.in-Some.line.now) = rw (c.if-not-branch.false, tree) at c.in_ok-push_line.ensures.text in
    record {
      told = lines-step line_by c.loop-line.text.items c.push_line.new.text.items c.in-Some.line.now c.loop-line.rest.now c.in-Some.others.now c.in-Some.ensures.0 added ∙ c.loop-line.invariant.told;
      tree = c.push_line.ensures.tree ∙ tree;
      steady = c.in_ok-push_line.ensures.steady (λ h. cc) ∙ c.loop-line.invariant.steady;
    }
