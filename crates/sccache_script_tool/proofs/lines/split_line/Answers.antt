use Rattle.std.proofs.Common.{◌≡◌, ◌<◌, length, arith, ap, sym, ◌∙◌}
use Rattle.std.proofs.lemmas.Grind.{common_steps}
use Rattle.sccache_script_tool.proofs.LineLaws.{first_line, line_len}
use Rattle.sccache_script_tool.proofs.lines.split_line.Goals as goal
use Rattle.sccache_script_tool.proofs.lines.split_line.Goals.{in-Some, in-None}

pub returns : goal.returns
returns c =
    let text = c.args.text.now in
    let some : 0 < length text = grind (arith, common_steps, c.if-is_empty.ensures) in
    let at : c.match-memchr.end ≡ line_len text c.memchr.result = elim c.match-memchr.branch [
      | in-Some w ↦ w.end-is ∙ sym (ap (line_len text) w.in-Some.is)
      | in-None w ↦ w.end-is ∙ sym (ap (line_len text) w.in-None.is)
    ] in
    first_line text c.memchr.result c.memchr.ensures some c.match-memchr.end at _ _ c.split_at.ensures.front c.split_at.ensures.back
