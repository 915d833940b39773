use Rattle.std.proofs.Common.{◌≡◌, ◌++◌, map, length}
use Rattle.std.specs.Option.{option_map}
use Rattle.base_files.specs.Tree.{contents_at}
use Rattle.sccache_script_tool.specs.Texts.{whole}
use Rattle.sccache_script_tool.proofs.crates.joined_contents.Given as goal

-- the text so far, and the contents of the files that are left
abbrev pub invariant-loop-path : goal.invariant-loop-path
invariant-loop-path g l =
    let contents = contents_at (g.F.Files.tree l.fn.files) in
    record {
      told : option_map (λ part. l.text.items ++ part) (whole (map contents l.rest)) ≡ whole (map contents l.fn.paths);
      tree : g.F.Files.tree l.files ≡ g.F.Files.tree l.fn.files;
      steady : g.F.Files.failed l.files ≡ g.F.Files.failed l.fn.files;
    }

abbrev pub decreases-loop-path : goal.decreases-loop-path
decreases-loop-path g l = length l.rest
