use Rattle.std.proofs.Common.{◌≡◌, Ok, false, subst}
use Rattle.base_files.specs.Bytes.{Bytes}
use Rattle.base_files.specs.Fails.{FailsOn}
use Rattle.base_files.specs.Tree.{Tree}
use Rattle.ckeys_records.specs.Faults.{KeyCause}
use Rattle.ckeys_records.specs.Meaning.{FailsIn}
use Rattle.rustc_options.specs.Asks.{asks_in}
use Rattle.wrap_keys.specs.Account.{Account, Work, rust_account_by, rust_call_at, rust_work_at}
use Rattle.wrap_keys.specs.Asking.{RunsOf, StopsEarly}
use Rattle.wrap_keys.specs.RustVerdicts.{RustJudgement, asks, rust_verdict_of}
use Rattle.wrap_keys.proofs.KeyLemmas.{fails_on_later}
use Rattle.wrap_keys.proofs.RunLemmas.{asked_until, early_ran}
use Rattle.wrap_keys.proofs.RustTexts.{asks_text}
use Rattle.wrap_fingerprints.specs.Telling.{Tells, Told}
use Rattle.wrap_fingerprints.proofs.TellLemmas.{early_tells, fault_tells, key_later}
use Rattle.wrap_fingerprints.proofs.fingerprint.of_rustc.Goals as goal

pub returns-in_err-reason-clause-tells : goal.returns-in_err-reason-clause-tells
returns-in_err-reason-clause-tells g c = early_tells g.H.HashState.digest_of _ _ _ c.in_err-reason.field-0.0 c.in_err-reason.ensures.cause _ c.from_residual.ensures.1

pub returns-in_err-made-in-Asks-clause-tells : goal.returns-in_err-made-in-Asks-clause-tells
returns-in_err-made-in-Asks-clause-tells g c =
    let digest_of = g.H.HashState.digest_of in
    let tree = g.F.Files.tree in
    let meaning = g.T.Preprocessor.meaning in
    let request = c.args.request.now in
    let asked = asks_in c.in-Asks.parsed in
    let on_old = FailsOn tree g.F.Files.failed g.F.Files.fails_on c.args.files.now c.rust_fingerprint-made.new.files in
    let on_mid = FailsOn tree g.F.Files.failed g.F.Files.fails_on c.judge_rust.new.files c.rust_fingerprint-made.new.files in
    let device = FailsIn meaning g.T.Preprocessor.failed g.T.Preprocessor.fails_in c.args.tool.now c.rust_fingerprint-made.new.tool in
    let work_on : Tree → Work = λ files. rust_work_at (meaning c.args.tool.now) (rust_call_at c.args.rust.now request files asked) in
    let before : (name : Bytes) → on_mid name → on_old name = fails_on_later tree g.F.Files.failed g.F.Files.fails_on c.args.files.now c.judge_rust.new.files c.rust_fingerprint-made.new.files c.in_ok-reason.ensures.untouched.tree c.in_ok-reason.ensures.untouched.steady in
    let decided : asks asked ≡ rust_verdict_of request (tree c.args.files.now) = rw c.in-Asks.is at c.in_ok-reason.ensures.verdict in
    let account : RustJudgement → Account = rust_account_by (meaning c.args.tool.now) (tree c.args.files.now) c.args.rust.now request in
    let fault = c.in_err-made-in-Asks.field-0.0 in
    let early : KeyCause (work_on (tree c.judge_rust.new.files)).fault on_old device fault = key_later (work_on (tree c.judge_rust.new.files)) on_mid on_old device before fault c.in_err-made-in-Asks.ensures.cause in
    let moved : KeyCause (work_on (tree c.args.files.now)).fault on_old device fault = subst (λ (t : Tree). KeyCause (work_on t).fault on_old device fault) c.in_ok-reason.ensures.untouched.tree early in
    let told = c.from_residual-in_err-made-in-Asks.result in
    subst (λ (d : RustJudgement). Tells digest_of (account d) on_old device told) decided (fault_tells digest_of (work_on (tree c.args.files.now)) on_old device fault moved told c.from_residual-in_err-made-in-Asks.ensures.1)

pub returns-in_err-reason-clause-runs : goal.returns-in_err-reason-clause-runs
returns-in_err-reason-clause-runs g c =
    let a = rust_account_by (g.T.Preprocessor.meaning c.args.tool.now) (g.F.Files.tree c.args.files.now) c.args.rust.now c.args.request.now (rust_verdict_of c.args.request.now (g.F.Files.tree c.args.files.now)) in
    early_ran a _ _ c.in_err-reason.field-0.0 c.in_err-reason.ensures.cause _ c.from_residual.ensures.1

pub returns-in_err-made-in-Asks-clause-runs : goal.returns-in_err-made-in-Asks-clause-runs
returns-in_err-made-in-Asks-clause-runs g c =
    let tree = g.F.Files.tree in
    let request = c.args.request.now in
    let decided : asks (asks_in c.in-Asks.parsed) ≡ rust_verdict_of request (tree c.args.files.now) = rw c.in-Asks.is at c.in_ok-reason.ensures.verdict in
    let account : RustJudgement → Account = rust_account_by (g.T.Preprocessor.meaning c.args.tool.now) (tree c.args.files.now) c.args.rust.now request in
    let before = g.T.Preprocessor.preprocessed c.args.tool.now in
    let after = g.T.Preprocessor.preprocessed c.rust_fingerprint-made.new.tool in
    let told = c.from_residual-in_err-made-in-Asks.result in
    let work_on : Tree → Work = λ files. rust_work_at (g.T.Preprocessor.meaning c.args.tool.now) (rust_call_at c.args.rust.now request files (asks_in c.in-Asks.parsed)) in
    let early = subst (λ (t : Tree). StopsEarly (work_on t) before after) c.in_ok-reason.ensures.untouched.tree c.rust_fingerprint-made.ensures.early in
    subst (λ (d : RustJudgement). RunsOf (account d) false told before after) decided (asked_until told c.in_err-made-in-Asks.field-0.0 before after c.from_residual-in_err-made-in-Asks.ensures.1 c.rust_fingerprint-made.ensures.twice, early)

pub returns-in_ok-made-in-Asks-clause-runs : goal.returns-in_ok-made-in-Asks-clause-runs
returns-in_ok-made-in-Asks-clause-runs g c =
    let tree = g.F.Files.tree in
    let request = c.args.request.now in
    let decided : asks (asks_in c.in-Asks.parsed) ≡ rust_verdict_of request (tree c.args.files.now) = rw c.in-Asks.is at c.in_ok-reason.ensures.verdict in
    let account : RustJudgement → Account = rust_account_by (g.T.Preprocessor.meaning c.args.tool.now) (tree c.args.files.now) c.args.rust.now request in
    let before = g.T.Preprocessor.preprocessed c.args.tool.now in
    let after = g.T.Preprocessor.preprocessed c.rust_fingerprint-made.new.tool in
    let told : Told = Ok (Ok c.in_ok-made-in-Asks.field-0) in
    let work_on : Tree → Work = λ files. rust_work_at (g.T.Preprocessor.meaning c.args.tool.now) (rust_call_at c.args.rust.now request files (asks_in c.in-Asks.parsed)) in
    let early = subst (λ (t : Tree). StopsEarly (work_on t) before after) c.in_ok-reason.ensures.untouched.tree c.rust_fingerprint-made.ensures.early in
    subst (λ (d : RustJudgement). RunsOf (account d) false told before after) decided (c.in_ok-made-in-Asks.ensures.runs, early)

pub returns-in_err-made-in-Asks-clause-no_text : goal.returns-in_err-made-in-Asks-clause-no_text
returns-in_err-made-in-Asks-clause-no_text g c no_text =
    let request = c.args.request.now in
    let tree = g.F.Files.tree c.args.files.now in
    let decided : asks (asks_in c.in-Asks.parsed) ≡ rust_verdict_of request tree = rw c.in-Asks.is at c.in_ok-reason.ensures.verdict in
    absurd (asks_text request tree (asks_in c.in-Asks.parsed) no_text decided)

pub returns-in_ok-made-in-Asks-clause-no_text : goal.returns-in_ok-made-in-Asks-clause-no_text
returns-in_ok-made-in-Asks-clause-no_text g c no_text =
    let request = c.args.request.now in
    let tree = g.F.Files.tree c.args.files.now in
    let decided : asks (asks_in c.in-Asks.parsed) ≡ rust_verdict_of request tree = rw c.in-Asks.is at c.in_ok-reason.ensures.verdict in
    absurd (asks_text request tree (asks_in c.in-Asks.parsed) no_text decided)
