use Rattle.std.proofs.Common.{◌≡◌, drop}
use Rattle.std.specs.List.{find}
use Rattle.ckeys_base.specs.Wrapper.{is_compiler, first_compiler}
use Rattle.ckeys_base.proofs.SearchPath.{offered}
use Rattle.ckeys_base.proofs.wrapper.first_compiler.Given as goal

-- no folder so far has a compiler, and no call changed or failed
abbrev pub invariant-loop-folder : goal.invariant-loop-folder
invariant-loop-folder g l = record {
  same : g.F.Files.tree l.files ≡ g.F.Files.tree l.fn.files;
  steady : g.F.Files.failed l.files ≡ g.F.Files.failed l.fn.files;
  left : find (is_compiler (g.F.Files.tree l.fn.files)) (offered (drop l.folder-index l.folder-items) l.name) ≡ first_compiler (g.F.Files.tree l.fn.files) l.fn.executable l.fn.env;
}
