-- Requests to rustc that aren't UTF-8.
use Rattle.std.proofs.Common.{◌≡◌, Bool, true, false, refl, if◌then◌else◌, ap, ◌∙◌}
use Rattle.std.specs.Prelude.{not}
use Rattle.base_files.specs.Tree.{Tree}
use Rattle.rustc_options.specs.Asks.{RustAsks}
use Rattle.wrap_keys.specs.RustVerdicts.{asks, decided_on, is_text, not_text, rust_verdict_of}
use Rattle.wrap_base.specs.declared.request.Request.{Request}

-- what isn't text
pub no_text : (b : Bool) → not b ≡ true → b ≡ false
no_text true h = cc
no_text false h = refl

-- what asks for something is text
pub asks_text : (request : Request) (tree : Tree) (asked : RustAsks) → is_text request ≡ false → asks asked ≡ rust_verdict_of request tree → ⊥
asks_text request tree asked no_text decided = let passed = decided ∙ ap (λ b. if b then decided_on request tree else not_text) no_text in cc
