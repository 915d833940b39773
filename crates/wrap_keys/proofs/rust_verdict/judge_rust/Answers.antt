use Rattle.std.proofs.Common.{◌≡◌, List, inl, true, subst, rules}
use Rattle.base_files.specs.Bytes.{Bytes}
use Rattle.cmdlines_response_files.specs.Causes.{CauseOf}
use Rattle.rustkeys_base.specs.Asking.{IsAskedByRustc}
use Rattle.wrap_keys.specs.RustVerdicts.{is_text}
use Rattle.wrap_keys.proofs.JudgeLemmas.{judged}
use Rattle.wrap_keys.proofs.rust_verdict.judge_rust.Goals as goal

pub returns-in_ok-after_hazards-in-Ok-Ok-clause-verdict : goal.returns-in_ok-after_hazards-in-Ok-Ok-clause-verdict
returns-in_ok-after_hazards-in-Ok-Ok-clause-verdict g c =
    let request = c.args.request.now in
    let text : is_text request ≡ true = search rules in
    judged request (g.F.Files.tree c.args.files.now) c.as_slice-words.result.now _ c.in-Ok-Ok.field-0 c.in-Ok-Ok.parsed c.in-Ok-Ok.field-0-is c.as_slice-words.ensures text c.in-Ok-Ok.ensures.decision c.in-Ok-Ok.ensures.asks c.in_ok-after_hazards-in-Ok-Ok.ensures.verdict

pub returns-in-Err-Read-clause-asked : goal.returns-in-Err-Read-clause-asked
returns-in-Err-Read-clause-asked g c =
    let dir = c.args.request.now.dir in
    let tree = g.F.Files.tree c.args.files.now in
    let path = c.in-Err-Read.path in
    let named : IsAskedByRustc dir tree c.as_slice-words.result.now path = subst (CauseOf (IsAskedByRustc dir tree c.as_slice-words.result.now)) c.in-Err-Read.field-0-is c.in-Err-Read.ensures.names in
    let asked : IsAskedByRustc dir tree c.args.request.now.words path = subst (λ (words : List Bytes). IsAskedByRustc dir tree words path) c.as_slice-words.ensures named in
    inl (rw c.in-Err-Read.field-0-is asked)
