-- Why files gave no answer.
use Rattle.std.specs.Prelude.{◌≡◌, ℕ}
use Rattle.base_files.specs.Bytes.{Bytes, ticked}
use Rattle.base_files.specs.Tree.{Tree}

-- Why a name may be said to have failed: a call on it, from a state of the same files with no failure yet, left the files as they are now, and moved their failure tick.
pub record FailsOn {F : Type 0} (tree : F → Tree) (failed : F → ℕ) (fails_on : F → Bytes → F → Type 0) (old : F) (new : F) (name : Bytes) : Type 0 where
  pub from : F
  pub same : tree from ≡ tree old
  pub steady : failed from ≡ failed old
  pub ticks : failed new ≡ ticked (failed from)
  pub leads : fails_on from name new
