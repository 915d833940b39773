use Rattle.std.proofs.Common.{◌≡◌, IfErr, None, false, subst}
use Rattle.base_files.specs.Bytes.{Bytes}
use Rattle.base_files.specs.Fails.{FailsOn}
use Rattle.base_files.specs.Tree.{Tree}
use Rattle.ckeys_records.specs.Meaning.{FailsIn}
use Rattle.rustc_options.specs.Asks.{asks_in}
use Rattle.wrap_base.specs.Commands.{by_rustc}
use Rattle.wrap_keys.specs.Account.{Account, Work, rust_account_by, rust_call_at, rust_work_at, worked}
use Rattle.wrap_keys.specs.Answers.{EarlyCause, Says, SaysWorked}
use Rattle.wrap_keys.specs.Early.{IsAskedEarly, OfPassed}
use Rattle.wrap_keys.specs.Asking.{RunsOf, StopsEarly}
use Rattle.wrap_keys.specs.RustVerdicts.{RustJudgement, asks, rust_verdict_of}
use Rattle.wrap_keys.specs.Turn.{StoreTurn, own_text_key}
use Rattle.wrap_keys.proofs.KeyLemmas.{fails_on_later}
use Rattle.wrap_keys.proofs.RunLemmas.{early_ran}
use Rattle.wrap_keys.proofs.RustTexts.{asks_text}
use Rattle.wrap.proofs.TurnLemmas.{early_says, early_turn, how_of_fault, says_later, unpassed}
use Rattle.wrap.proofs.PassedLemmas.{early_passed, not_passed}
use Rattle.wrap.proofs.rust_calls.rust_turn.Goals as goal

pub returns-in_err-reason-clause-says : goal.returns-in_err-reason-clause-says
returns-in_err-reason-clause-says g c = early_says (λ w. w.fault ≡ None) _ _ _ c.in_err-reason.field-0.0 c.in_err-reason.ensures.cause _ c.from_residual.ensures.1

pub returns-in_err-reason-clause-store : goal.returns-in_err-reason-clause-store
returns-in_err-reason-clause-store g c =
    let digest_of = g.H.HashState.digest_of in
    let a = rust_account_by (g.T.Preprocessor.meaning c.args.tool.now) (g.F.Files.tree c.args.files.now) c.args.rust.now c.args.request.now (rust_verdict_of c.args.request.now (g.F.Files.tree c.args.files.now)) in
    early_turn digest_of c.args.max_kept (own_text_key digest_of a) a _ _ _ c.in_err-reason.field-0.0 c.in_err-reason.ensures.cause _ c.from_residual.ensures.1

pub returns-in_err-reason-clause-how : goal.returns-in_err-reason-clause-how
returns-in_err-reason-clause-how g c = how_of_fault false c.in_err-reason.field-0.0 _ c.from_residual.ensures.1

pub returns-in_err-reason-clause-runs : goal.returns-in_err-reason-clause-runs
returns-in_err-reason-clause-runs g c = early_ran _ _ _ c.in_err-reason.field-0.0 c.in_err-reason.ensures.cause _ c.from_residual.ensures.1

pub returns-in-Asks-clause-says : goal.returns-in-Asks-clause-says
returns-in-Asks-clause-says g c =
    let tree = g.F.Files.tree in
    let meaning = g.T.Preprocessor.meaning in
    let request = c.args.request.now in
    let result = c.rust_answer-answer.result in
    let on_old = FailsOn tree g.F.Files.failed g.F.Files.fails_on c.args.files.now c.rust_answer-answer.new.files in
    let on_mid = FailsOn tree g.F.Files.failed g.F.Files.fails_on c.judge_rust.new.files c.rust_answer-answer.new.files in
    let device = FailsIn meaning g.T.Preprocessor.failed g.T.Preprocessor.fails_in c.args.tool.now c.rust_answer-answer.new.tool in
    let work_on : Tree → Work = λ files. rust_work_at (meaning c.args.tool.now) (rust_call_at c.args.rust.now request files (asks_in c.in-Asks.parsed)) in
    let before : (name : Bytes) → on_mid name → on_old name = fails_on_later tree g.F.Files.failed g.F.Files.fails_on c.args.files.now c.judge_rust.new.files c.rust_answer-answer.new.files c.in_ok-reason.ensures.untouched.tree c.in_ok-reason.ensures.untouched.steady in
    let decided : asks (asks_in c.in-Asks.parsed) ≡ rust_verdict_of request (tree c.args.files.now) = rw c.in-Asks.is at c.in_ok-reason.ensures.verdict in
    let account : RustJudgement → Account = rust_account_by (meaning c.args.tool.now) (tree c.args.files.now) c.args.rust.now request in
    let early = work_on (tree c.judge_rust.new.files) in
    let later : SaysWorked early on_old device result = says_later (early.fault ≡ None) early on_mid on_old device before result c.rust_answer-answer.ensures.says in
    let moved : Says (account (asks (asks_in c.in-Asks.parsed))) on_old device result = subst (λ (t : Tree). SaysWorked (work_on t) on_old device result) c.in_ok-reason.ensures.untouched.tree later in
    subst (λ (d : RustJudgement). Says (account d) on_old device result) decided moved

pub returns-in-Asks-clause-store : goal.returns-in-Asks-clause-store
returns-in-Asks-clause-store g c =
    let digest_of = g.H.HashState.digest_of in
    let tree = g.F.Files.tree in
    let meaning = g.T.Preprocessor.meaning in
    let request = c.args.request.now in
    let work_on : Tree → Work = λ files. rust_work_at (meaning c.args.tool.now) (rust_call_at c.args.rust.now request files (asks_in c.in-Asks.parsed)) in
    let decided : asks (asks_in c.in-Asks.parsed) ≡ rust_verdict_of request (tree c.args.files.now) = rw c.in-Asks.is at c.in_ok-reason.ensures.verdict in
    let account : RustJudgement → Account = rust_account_by (meaning c.args.tool.now) (tree c.args.files.now) c.args.rust.now request in
    let turned : Account → Type 0 = λ a. StoreTurn digest_of c.args.max_kept a (g.O.Store.shelf c.args.objects.now) (g.O.Store.shelf c.rust_answer-answer.new.objects) (g.T.Preprocessor.compiled c.args.tool.now) (g.T.Preprocessor.compiled c.rust_answer-answer.new.tool) c.rust_answer-answer.result in
    let moved : turned (account (asks (asks_in c.in-Asks.parsed))) = subst (λ (t : Tree). turned (worked (work_on t))) c.in_ok-reason.ensures.untouched.tree c.rust_answer-answer.ensures.store in
    subst (λ (d : RustJudgement). turned (account d)) decided moved

pub returns-in-Asks-clause-runs : goal.returns-in-Asks-clause-runs
returns-in-Asks-clause-runs g c =
    let tree = g.F.Files.tree in
    let meaning = g.T.Preprocessor.meaning in
    let request = c.args.request.now in
    let decided : asks (asks_in c.in-Asks.parsed) ≡ rust_verdict_of request (tree c.args.files.now) = rw c.in-Asks.is at c.in_ok-reason.ensures.verdict in
    let account : RustJudgement → Account = rust_account_by (meaning c.args.tool.now) (tree c.args.files.now) c.args.rust.now request in
    let work_on : Tree → Work = λ files. rust_work_at (meaning c.args.tool.now) (rust_call_at c.args.rust.now request files (asks_in c.in-Asks.parsed)) in
    let early = subst (λ (t : Tree). StopsEarly (work_on t) (g.T.Preprocessor.preprocessed c.args.tool.now) (g.T.Preprocessor.preprocessed c.rust_answer-answer.new.tool)) c.in_ok-reason.ensures.untouched.tree c.rust_answer-answer.ensures.early in
    subst (λ (d : RustJudgement). RunsOf (account d) false c.rust_answer-answer.result (g.T.Preprocessor.preprocessed c.args.tool.now) (g.T.Preprocessor.preprocessed c.rust_answer-answer.new.tool)) decided (c.rust_answer-answer.ensures.runs, early)

pub returns-in-Asks-clause-quiet : goal.returns-in-Asks-clause-quiet
returns-in-Asks-clause-quiet g c = unpassed _ c.rust_answer-answer.result c.rust_answer-answer.ensures.unpassed

pub returns-in-Asks-clause-no_text : goal.returns-in-Asks-clause-no_text
returns-in-Asks-clause-no_text g c no_text =
    let request = c.args.request.now in
    let tree = g.F.Files.tree c.args.files.now in
    let decided : asks (asks_in c.in-Asks.parsed) ≡ rust_verdict_of request tree = rw c.in-Asks.is at c.in_ok-reason.ensures.verdict in
    absurd (asks_text request tree (asks_in c.in-Asks.parsed) no_text decided)

pub returns-in_err-reason-clause-passed : goal.returns-in_err-reason-clause-passed
returns-in_err-reason-clause-passed g c =
    let asked : Bytes → Type 0 = IsAskedEarly (by_rustc c.args.rust.now) c.args.request.now (g.F.Files.tree c.args.files.now) in
    early_passed _ asked c.in_err-reason.field-0.0 c.in_err-reason.ensures.asked _ c.from_residual.ensures.1

pub returns-in-Asks-clause-passed : goal.returns-in-Asks-clause-passed
returns-in-Asks-clause-passed g c =
    let tree = g.F.Files.tree in
    let request = c.args.request.now in
    let decided : asks (asks_in c.in-Asks.parsed) ≡ rust_verdict_of request (tree c.args.files.now) = rw c.in-Asks.is at c.in_ok-reason.ensures.verdict in
    let account : RustJudgement → Account = rust_account_by (g.T.Preprocessor.meaning c.args.tool.now) (tree c.args.files.now) c.args.rust.now request in
    let asked : Bytes → Type 0 = IsAskedEarly (by_rustc c.args.rust.now) request (tree c.args.files.now) in
    let result = c.rust_answer-answer.result in
    subst (λ (d : RustJudgement). IfErr result (λ f. OfPassed (account d) (EarlyCause asked f))) decided (not_passed result)
