use Rattle.std.proofs.Common.{◌≡◌, Ok, false, subst}
use Rattle.base_files.specs.Bytes.{Bytes}
use Rattle.base_files.specs.Fails.{FailsOn}
use Rattle.base_files.specs.Tree.{Tree}
use Rattle.ckeys_records.specs.Faults.{KeyCause}
use Rattle.ckeys_records.specs.Meaning.{FailsIn}
use Rattle.wrap_base.specs.Commands.{by_c, found_of, words_at}
use Rattle.wrap_keys.specs.Account.{Account, Work, account_by, account_named, call_at, work_at}
use Rattle.wrap_keys.specs.Asking.{RunsOf, StopsEarly}
use Rattle.wrap_keys.specs.Verdicts.{Judgement, asks, verdict_of}
use Rattle.wrap_keys.proofs.KeyLemmas.{fails_on_later}
use Rattle.wrap_keys.proofs.RunLemmas.{early_ran}
use Rattle.wrap_fingerprints.specs.Telling.{Tells, Told}
use Rattle.wrap_fingerprints.proofs.TellLemmas.{early_tells, fault_tells, key_later, until_told}
use Rattle.wrap_fingerprints.proofs.fingerprint.of_c.Goals as goal

pub returns-in_err-reason-clause-tells : goal.returns-in_err-reason-clause-tells
returns-in_err-reason-clause-tells g c = early_tells g.H.HashState.digest_of _ _ _ c.in_err-reason.field-0.0 c.in_err-reason.ensures.cause _ c.from_residual.ensures.1

pub returns-in_err-made-in-Asks-clause-tells : goal.returns-in_err-made-in-Asks-clause-tells
returns-in_err-made-in-Asks-clause-tells g c =
    let digest_of = g.H.HashState.digest_of in
    let tree = g.F.Files.tree in
    let meaning = g.T.Preprocessor.meaning in
    let found = found_of c.args.compiler in
    let request = c.args.request.now in
    let settings = c.args.config.now in
    let parsed = c.in-Asks.plan.parsed in
    let on_old = FailsOn tree g.F.Files.failed g.F.Files.fails_on c.args.files.now c.c_fingerprint-made.new.files in
    let on_mid = FailsOn tree g.F.Files.failed g.F.Files.fails_on c.judge.new.files c.c_fingerprint-made.new.files in
    let device = FailsIn meaning g.T.Preprocessor.failed g.T.Preprocessor.fails_in c.args.tool.now c.c_fingerprint-made.new.tool in
    let work_on : Tree → Work = λ files. work_at (meaning c.args.tool.now) (call_at found request files settings parsed) in
    let before : (name : Bytes) → on_mid name → on_old name = fails_on_later tree g.F.Files.failed g.F.Files.fails_on c.args.files.now c.judge.new.files c.c_fingerprint-made.new.files c.in_ok-reason.ensures.untouched.tree c.in_ok-reason.ensures.untouched.steady in
    let decided : asks parsed ≡ verdict_of found.kind (words_at found request (tree c.args.files.now)) = rw c.in-Asks.is at c.in_ok-reason.ensures.verdict in
    let account : Judgement → Account = account_by (meaning c.args.tool.now) (tree c.args.files.now) settings found request in
    let fault = c.in_err-made-in-Asks.field-0.0 in
    let early : KeyCause (work_on (tree c.judge.new.files)).fault on_old device fault = key_later (work_on (tree c.judge.new.files)) on_mid on_old device before fault c.in_err-made-in-Asks.ensures.cause in
    let moved : KeyCause (work_on (tree c.args.files.now)).fault on_old device fault = subst (λ (t : Tree). KeyCause (work_on t).fault on_old device fault) c.in_ok-reason.ensures.untouched.tree early in
    let told = c.from_residual-in_err-made-in-Asks.result in
    subst (λ (d : Judgement). Tells digest_of (account d) on_old device told) decided (fault_tells digest_of (work_on (tree c.args.files.now)) on_old device fault moved told c.from_residual-in_err-made-in-Asks.ensures.1)

pub returns-in_err-reason-clause-runs : goal.returns-in_err-reason-clause-runs
returns-in_err-reason-clause-runs g c =
    let a = account_named (g.T.Preprocessor.meaning c.args.tool.now) (g.F.Files.tree c.args.files.now) c.args.config.now c.args.request.now (by_c (found_of c.args.compiler)) in
    early_ran a _ _ c.in_err-reason.field-0.0 c.in_err-reason.ensures.cause _ c.from_residual.ensures.1

pub returns-in_err-made-in-Asks-clause-runs : goal.returns-in_err-made-in-Asks-clause-runs
returns-in_err-made-in-Asks-clause-runs g c =
    let tree = g.F.Files.tree in
    let found = found_of c.args.compiler in
    let request = c.args.request.now in
    let parsed = c.in-Asks.plan.parsed in
    let decided : asks parsed ≡ verdict_of found.kind (words_at found request (tree c.args.files.now)) = rw c.in-Asks.is at c.in_ok-reason.ensures.verdict in
    let account : Judgement → Account = account_by (g.T.Preprocessor.meaning c.args.tool.now) (tree c.args.files.now) c.args.config.now found request in
    let before = g.T.Preprocessor.preprocessed c.args.tool.now in
    let after = g.T.Preprocessor.preprocessed c.c_fingerprint-made.new.tool in
    let told = c.from_residual-in_err-made-in-Asks.result in
    let work_on : Tree → Work = λ files. work_at (g.T.Preprocessor.meaning c.args.tool.now) (call_at found request files c.args.config.now parsed) in
    let early = subst (λ (t : Tree). StopsEarly (work_on t) before after) c.in_ok-reason.ensures.untouched.tree c.c_fingerprint-made.ensures.early in
    subst (λ (d : Judgement). RunsOf (account d) false told before after) decided (until_told parsed.language before after c.in_err-made-in-Asks.field-0.0 c.c_fingerprint-made.ensures.idle c.in_err-made-in-Asks.ensures.until told c.from_residual-in_err-made-in-Asks.ensures.1, early)

pub returns-in_ok-made-in-Asks-clause-runs : goal.returns-in_ok-made-in-Asks-clause-runs
returns-in_ok-made-in-Asks-clause-runs g c =
    let tree = g.F.Files.tree in
    let found = found_of c.args.compiler in
    let request = c.args.request.now in
    let decided : asks c.in-Asks.plan.parsed ≡ verdict_of found.kind (words_at found request (tree c.args.files.now)) = rw c.in-Asks.is at c.in_ok-reason.ensures.verdict in
    let account : Judgement → Account = account_by (g.T.Preprocessor.meaning c.args.tool.now) (tree c.args.files.now) c.args.config.now found request in
    let told : Told = Ok (Ok c.in_ok-made-in-Asks.field-0) in
    let work_on : Tree → Work = λ files. work_at (g.T.Preprocessor.meaning c.args.tool.now) (call_at found request files c.args.config.now c.in-Asks.plan.parsed) in
    let early = subst (λ (t : Tree). StopsEarly (work_on t) (g.T.Preprocessor.preprocessed c.args.tool.now) (g.T.Preprocessor.preprocessed c.c_fingerprint-made.new.tool)) c.in_ok-reason.ensures.untouched.tree c.c_fingerprint-made.ensures.early in
    subst (λ (d : Judgement). RunsOf (account d) false told (g.T.Preprocessor.preprocessed c.args.tool.now) (g.T.Preprocessor.preprocessed c.c_fingerprint-made.new.tool)) decided ((c.c_fingerprint-made.ensures.idle, c.in_ok-made-in-Asks.ensures.runs), early)
