use Rattle.std.proofs.Common.{◌≡◌}
use Rattle.base_files.specs.Path.{join}
use Rattle.ckeys_marker_walk.specs.Left.{sights_left}
use Rattle.ckeys_marker_walk.specs.Named.{named_files_of}
use Rattle.ckeys_marker_walk.specs.Steps.{names_with}
use Rattle.ckeys_marker_walk.proofs.walk.walk.Given as goal

-- the names so far, and those of the markers that are left, are the named files of the text
abbrev pub invariant-loop-mark : goal.invariant-loop-mark
invariant-loop-mark g l =
    let tree = g.F.Files.tree l.fn.files in
    record {
      told : names_with l.fn.dir tree (join l.fn.dir l.fn.input) l.names.items l.seen (sights_left l.mark-iterator) ≡ named_files_of l.fn.dir tree (join l.fn.dir l.fn.input) l.fn.text;
      same : g.F.Files.tree l.files ≡ tree;
      steady : g.F.Files.failed l.files ≡ g.F.Files.failed l.fn.files;
    }
