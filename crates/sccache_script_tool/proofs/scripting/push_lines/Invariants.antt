use Rattle.std.proofs.Common.{◌≡◌, ◌++◌, map, length}
use Rattle.std.specs.Option.{option_map}
use Rattle.sccache_script_tool.specs.Lines.{lines}
use Rattle.sccache_script_tool.specs.Scripted.{replaced}
use Rattle.sccache_script_tool.specs.Texts.{whole}
use Rattle.sccache_script_tool.proofs.scripting.push_lines.Given as goal

-- the text so far, and what replaces the lines that are left
abbrev pub invariant-loop-line : goal.invariant-loop-line
invariant-loop-line g l =
    let line_by = replaced (g.F.Files.tree l.fn.files) l.fn.dir l.fn.path in
    record {
      told : option_map (λ part. l.text.items ++ part) (whole (map line_by (lines l.rest))) ≡ option_map (λ part. l.fn.text.items ++ part) (whole (map line_by (lines l.fn.contents)));
      tree : g.F.Files.tree l.files ≡ g.F.Files.tree l.fn.files;
      steady : g.F.Files.failed l.files ≡ g.F.Files.failed l.fn.files;
    }

abbrev pub decreases-loop-line : goal.decreases-loop-line
decreases-loop-line g l = length l.rest
