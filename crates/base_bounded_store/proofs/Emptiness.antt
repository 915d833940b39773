-- A test for no pairs.
use Rattle.std.proofs.Common.{◌≡◌, ◌↔◌, ◌==◌, ℕ, Bool, true, sym, ◌∙◌}
use Rattle.std.specs.Cmp.{unsigned_Decides}

-- what its answer says
pub tells_none : (n : ℕ) (b : Bool) → b ≡ (n == 0) → (b ≡ true) ↔ (n ≡ 0)
tells_none n b is = let d = unsigned_Decides n 0 in (λ h. d.0 (sym is ∙ h), λ e. is ∙ d.1 e)
