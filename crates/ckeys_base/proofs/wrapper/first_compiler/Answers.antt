use Rattle.std.proofs.Common.{ap, ◌∙◌, refl, List, map}
use Rattle.std.specs.Borrow.{Bor}
use Rattle.base_files.specs.Bytes.{Bytes}
use Rattle.ckeys_base.specs.Wrapper.{is_compiler}
use Rattle.ckeys_base.proofs.SearchPath.{offered-first}
use Rattle.ckeys_base.proofs.wrapper.first_compiler.Goals as goal

pub loop-folder-init : goal.loop-folder-init
loop-folder-init g c = record {
  same = refl;
  steady = refl;
  left = offered-first (is_compiler (g.F.Files.tree c.args.files.now)) c.args.env.now c.args.executable.now c.in-Some.name.now c.in-Some-value_of.path.now c.deref-folder-items.result.now
      c.in-Some.ensures c.in-Some-value_of.ensures (ap (λ (x : List (Bor Bytes)). map (λ folder. folder.now) x) c.deref-folder-items.ensures.value ∙ c.in_ok-folders.ensures);
}
