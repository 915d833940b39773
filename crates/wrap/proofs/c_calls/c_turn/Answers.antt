use Rattle.std.proofs.Common.{◌≡◌, ℕ, Err, IfErr, None, Result, false, refl, subst, sym, ◌∙◌}
use Rattle.base_files.specs.Bytes.{Bytes}
use Rattle.base_files.specs.Fails.{FailsOn}
use Rattle.ckeys.specs.Calls.{KeyCall, PrintedCall, printed_call}
use Rattle.ckeys_records.specs.Meaning.{FailsIn}
use Rattle.ckeys_records.specs.declared.fault.Fault.{Fault}
use Rattle.ckeys_records.specs.declared.step.Step.{Step}
use Rattle.wrap_keys.specs.Account.{account_named, call_at, work_at, worked}
use Rattle.wrap_keys.specs.Answers.{EarlyCause, GoesOn, Says, SaysBy}
use Rattle.wrap_keys.specs.Asking.{AskedTurn, RanForKey, RecordsAreTrue, StopsEarly, shelves_of}
use Rattle.wrap_keys.specs.CallRecords.{key_of}
use Rattle.wrap_base.specs.Commands.{by_c, found_of, words_at}
use Rattle.wrap_keys.specs.Turn.{KeyedTurn, own_text_key}
use Rattle.wrap_keys.specs.Verdicts.{asks, verdict_of}
use Rattle.wrap_keys.proofs.KeyLemmas.{fails_on_later}
use Rattle.wrap_base.specs.declared.answer.Answer.{Answer}
use Rattle.wrap_keys.proofs.RunLemmas.{early_runs, key_until}
use Rattle.wrap_keys.specs.Early.{IsAskedEarly, OfPassed}
use Rattle.wrap.specs.declared.prepared.Prepared.{Prepared}
use Rattle.wrap.proofs.PassedLemmas.{early_passed, not_passed}
use Rattle.wrap.proofs.TurnLemmas.{asked_fault, asked_finished, early_says, early_stage, early_turn, early_unput, fails_in_later, finished_says, finished_unpassed, goes_on, key_says, key_turn, of_asked, own_asked, own_fault, own_goes_on, quiet_entries, says_later, text_fine, untouched_later}
use Rattle.wrap.proofs.c_calls.c_turn.Goals as goal

pub returns-in_err-reason-clause-says : goal.returns-in_err-reason-clause-says
returns-in_err-reason-clause-says g c = early_says GoesOn _ _ _ c.in_err-reason.field-0.0 c.in_err-reason.ensures.cause _ c.from_residual.ensures.1

pub returns-in_err-reason-clause-goes_on : goal.returns-in_err-reason-clause-goes_on
returns-in_err-reason-clause-goes_on g c are_true = early_says (λ w. w.fault ≡ None) _ _ _ c.in_err-reason.field-0.0 c.in_err-reason.ensures.cause _ c.from_residual.ensures.1

pub returns-in_err-reason-clause-asked : goal.returns-in_err-reason-clause-asked
returns-in_err-reason-clause-asked g c =
    let digest_of = g.H.HashState.digest_of in
    let a = account_named (g.T.Preprocessor.meaning c.args.tool.now) (g.F.Files.tree c.args.files.now) c.args.config.now.keys c.args.request.now (by_c (found_of c.args.compiler)) in
    asked_fault digest_of c.args.config.now.max_kept a _ _ _ _ _ _ _ c.in_err-reason.field-0.0 c.from_residual.ensures.1 _ (early_stage _ c.in_err-reason.field-0.0 c.in_err-reason.ensures.cause) (early_unput _ c.in_err-reason.field-0.0 _ c.in_err-reason.ensures.cause) false (own_text_key digest_of a) (own_asked digest_of a _)
    (early_runs Answer a _ _ c.in_err-reason.field-0.0 c.in_err-reason.ensures.cause)
    (early_turn digest_of c.args.config.now.max_kept (own_text_key digest_of a) a _ _ _ c.in_err-reason.field-0.0 c.in_err-reason.ensures.cause _ c.from_residual.ensures.1)

pub returns-in_err-reason-clause-entries : goal.returns-in_err-reason-clause-entries
returns-in_err-reason-clause-entries g c =
    let a = account_named (g.T.Preprocessor.meaning c.args.tool.now) (g.F.Files.tree c.args.files.now) c.args.config.now.keys c.args.request.now (by_c (found_of c.args.compiler)) in
    quiet_entries g.H.HashState.digest_of a _ _

pub returns-in-Err-clause-says : goal.returns-in-Err-clause-says
returns-in-Err-clause-says g c =
    let tree = g.F.Files.tree in
    let meaning = g.T.Preprocessor.meaning in
    let request = c.args.request.now in
    let found = found_of c.args.compiler in
    let parsed = c.in-Asks.plan.parsed in
    let decided : asks parsed ≡ verdict_of found.kind (words_at found request (tree c.args.files.now)) = rw c.in-Asks.is at c.in_ok-reason.ensures.verdict in
    let own : KeyCall = call_at found request (tree c.judge.new.files) c.args.config.now.keys parsed in
    let w = work_at (meaning c.args.tool.now) own in
    let on_mid = FailsOn tree g.F.Files.failed g.F.Files.fails_on c.judge.new.files c.prepare.new.files in
    let on_old = FailsOn tree g.F.Files.failed g.F.Files.fails_on c.args.files.now c.prepare.new.files in
    let device = FailsIn meaning g.T.Preprocessor.failed g.T.Preprocessor.fails_in c.args.tool.now c.prepare.new.tool in
    let before : (name : Bytes) → on_mid name → on_old name = fails_on_later tree g.F.Files.failed g.F.Files.fails_on c.args.files.now c.judge.new.files c.prepare.new.files c.in_ok-reason.ensures.untouched.tree c.in_ok-reason.ensures.untouched.steady in
    let result : Result Answer Fault = Err c.in-Err.fault in
    of_asked (λ a. SaysBy GoesOn a on_old device result) (meaning c.args.tool.now) _ _ c.args.config.now.keys found request parsed _ c.in_ok-reason.ensures.untouched.tree decided
    (says_later (GoesOn w) w on_mid on_old device before result (key_says (GoesOn w) w on_mid device c.in-Err.fault c.in-Err.ensures.cause result refl))

pub returns-in-Err-clause-goes_on : goal.returns-in-Err-clause-goes_on
returns-in-Err-clause-goes_on g c =
    let digest_of = g.H.HashState.digest_of in
    let tree = g.F.Files.tree in
    let meaning = g.T.Preprocessor.meaning in
    let request = c.args.request.now in
    let found = found_of c.args.compiler in
    let parsed = c.in-Asks.plan.parsed in
    let decided : asks parsed ≡ verdict_of found.kind (words_at found request (tree c.args.files.now)) = rw c.in-Asks.is at c.in_ok-reason.ensures.verdict in
    let own : KeyCall = call_at found request (tree c.judge.new.files) c.args.config.now.keys parsed in
    let w = work_at (meaning c.args.tool.now) own in
    let on_mid = FailsOn tree g.F.Files.failed g.F.Files.fails_on c.judge.new.files c.prepare.new.files in
    let on_old = FailsOn tree g.F.Files.failed g.F.Files.fails_on c.args.files.now c.prepare.new.files in
    let device = FailsIn meaning g.T.Preprocessor.failed g.T.Preprocessor.fails_in c.args.tool.now c.prepare.new.tool in
    let before : (name : Bytes) → on_mid name → on_old name = fails_on_later tree g.F.Files.failed g.F.Files.fails_on c.args.files.now c.judge.new.files c.prepare.new.files c.in_ok-reason.ensures.untouched.tree c.in_ok-reason.ensures.untouched.steady in
    let result : Result Answer Fault = Err c.in-Err.fault in
    let held = (g.E.Store.shelf c.args.entries.now).held in
    of_asked (λ a. RecordsAreTrue digest_of a held → Says a on_old device result) (meaning c.args.tool.now) _ _ c.args.config.now.keys found request parsed _ c.in_ok-reason.ensures.untouched.tree decided
    (λ are_true. says_later (w.fault ≡ None) w on_mid on_old device before result (key_says (w.fault ≡ None) w on_mid device c.in-Err.fault c.in-Err.ensures.cause result refl))

pub returns-in-Err-clause-asked : goal.returns-in-Err-clause-asked
returns-in-Err-clause-asked g c =
    let digest_of = g.H.HashState.digest_of in
    let tree = g.F.Files.tree in
    let meaning = g.T.Preprocessor.meaning in
    let request = c.args.request.now in
    let found = found_of c.args.compiler in
    let parsed = c.in-Asks.plan.parsed in
    let decided : asks parsed ≡ verdict_of found.kind (words_at found request (tree c.args.files.now)) = rw c.in-Asks.is at c.in_ok-reason.ensures.verdict in
    let own : KeyCall = call_at found request (tree c.judge.new.files) c.args.config.now.keys parsed in
    let w = work_at (meaning c.args.tool.now) own in
    let fault = c.in-Err.fault in
    let e = c.in-Err.ensures in
    let old = shelves_of (g.E.Store.shelf c.args.entries.now) (g.O.Store.shelf c.args.objects.now) in
    let new = shelves_of (g.E.Store.shelf c.prepare.new.entries) (g.O.Store.shelf c.args.objects.now) in
    of_asked (λ a. AskedTurn digest_of c.args.config.now.max_kept a old new (g.T.Preprocessor.preprocessed c.args.tool.now) (g.T.Preprocessor.preprocessed c.prepare.new.tool) (g.T.Preprocessor.compiled c.args.tool.now) (g.T.Preprocessor.compiled c.prepare.new.tool) (Err c.in-Err.fault)) (meaning c.args.tool.now) _ _ c.args.config.now.keys found request parsed _ c.in_ok-reason.ensures.untouched.tree decided
    (asked_fault digest_of c.args.config.now.max_kept (worked w) old new _ _ _ _ _ fault refl _ e.cause e.unput false (key_of digest_of w.rec) refl
    ((c.prepare.ensures.idle, λ h. key_until false _ _ fault (e.until h)), c.prepare.ensures.early)
    (key_turn digest_of c.args.config.now.max_kept (key_of digest_of w.rec) w w.fault _ _ _ c.prepare.ensures.compiles _ _ fault e.cause _ refl))

pub returns-in-Err-clause-untouched : goal.returns-in-Err-clause-untouched
returns-in-Err-clause-untouched g c =
    let prepared = c.in-Err.ensures.untouched in
    let judged = c.in_ok-reason.ensures.untouched in
    record {
      tree = prepared.tree ∙ judged.tree;
      meaning = prepared.meaning;
      steady = tt;
      still = λ own. let kept = prepared.still (own_fault {A = Answer} Prepared (Err c.in-Err.fault) c.in-Err.fault refl own) in (kept.0, kept.1 ∙ judged.steady);
    }

pub returns-in-Ok-clause-says : goal.returns-in-Ok-clause-says
returns-in-Ok-clause-says g c =
    let digest_of = g.H.HashState.digest_of in
    let tree = g.F.Files.tree in
    let meaning = g.T.Preprocessor.meaning in
    let request = c.args.request.now in
    let found = found_of c.args.compiler in
    let parsed = c.in-Asks.plan.parsed in
    let decided : asks parsed ≡ verdict_of found.kind (words_at found request (tree c.args.files.now)) = rw c.in-Asks.is at c.in_ok-reason.ensures.verdict in
    let own : KeyCall = call_at found request (tree c.judge.new.files) c.args.config.now.keys parsed in
    let w = work_at (meaning c.args.tool.now) own in
    let p : PrintedCall = printed_call (meaning c.args.tool.now) own in
    let k = c.in-Ok.ensures in
    let on_old = FailsOn tree g.F.Files.failed g.F.Files.fails_on c.args.files.now c.answer_prepared-answer.new.files in
    let device = FailsIn meaning g.T.Preprocessor.failed g.T.Preprocessor.fails_in c.args.tool.now c.answer_prepared-answer.new.tool in
    let later_in = FailsIn meaning g.T.Preprocessor.failed g.T.Preprocessor.fails_in c.prepare.new.tool c.answer_prepared-answer.new.tool in
    let later : (step : Step) → later_in step → device step = fails_in_later meaning g.T.Preprocessor.failed g.T.Preprocessor.fails_in c.args.tool.now c.prepare.new.tool c.answer_prepared-answer.new.tool c.prepare.ensures.untouched.meaning k.untouched.steady.0 in
    let result = c.answer_prepared-answer.result in
    of_asked (λ a. SaysBy GoesOn a on_old device result) (meaning c.args.tool.now) _ _ c.args.config.now.keys found request parsed _ c.in_ok-reason.ensures.untouched.tree decided
    (finished_says (GoesOn w) w on_old device later_in later (goes_on digest_of w p refl _ _ _ k.from k.fine) result (c.answer_prepared-answer.ensures.says digest_of w k.prepared))

pub returns-in-Ok-clause-goes_on : goal.returns-in-Ok-clause-goes_on
returns-in-Ok-clause-goes_on g c =
    let digest_of = g.H.HashState.digest_of in
    let tree = g.F.Files.tree in
    let meaning = g.T.Preprocessor.meaning in
    let request = c.args.request.now in
    let found = found_of c.args.compiler in
    let parsed = c.in-Asks.plan.parsed in
    let decided : asks parsed ≡ verdict_of found.kind (words_at found request (tree c.args.files.now)) = rw c.in-Asks.is at c.in_ok-reason.ensures.verdict in
    let own : KeyCall = call_at found request (tree c.judge.new.files) c.args.config.now.keys parsed in
    let w = work_at (meaning c.args.tool.now) own in
    let p : PrintedCall = printed_call (meaning c.args.tool.now) own in
    let k = c.in-Ok.ensures in
    let on_old = FailsOn tree g.F.Files.failed g.F.Files.fails_on c.args.files.now c.answer_prepared-answer.new.files in
    let device = FailsIn meaning g.T.Preprocessor.failed g.T.Preprocessor.fails_in c.args.tool.now c.answer_prepared-answer.new.tool in
    let later_in = FailsIn meaning g.T.Preprocessor.failed g.T.Preprocessor.fails_in c.prepare.new.tool c.answer_prepared-answer.new.tool in
    let later : (step : Step) → later_in step → device step = fails_in_later meaning g.T.Preprocessor.failed g.T.Preprocessor.fails_in c.args.tool.now c.prepare.new.tool c.answer_prepared-answer.new.tool c.prepare.ensures.untouched.meaning k.untouched.steady.0 in
    let result = c.answer_prepared-answer.result in
    let held = (g.E.Store.shelf c.args.entries.now).held in
    of_asked (λ a. RecordsAreTrue digest_of a held → Says a on_old device result) (meaning c.args.tool.now) _ _ c.args.config.now.keys found request parsed _ c.in_ok-reason.ensures.untouched.tree decided
    (λ are_true. finished_says (w.fault ≡ None) w on_old device later_in later (own_goes_on digest_of w p refl held _ _ k.from k.fine are_true) result (c.answer_prepared-answer.ensures.says digest_of w k.prepared))

pub returns-in-Ok-clause-quiet : goal.returns-in-Ok-clause-quiet
returns-in-Ok-clause-quiet g c =
    let tool = g.T.Preprocessor in
    let old = c.args.tool.now in
    let new = c.answer_prepared-answer.new.tool in
    let w = work_at (tool.meaning old) (call_at (found_of c.args.compiler) c.args.request.now (g.F.Files.tree c.judge.new.files) c.args.config.now.keys c.in-Asks.plan.parsed) in
    finished_unpassed ((tool.preprocessed new ≡ tool.preprocessed old) × (tool.compiled new ≡ tool.compiled old) × (tool.failed new ≡ tool.failed old)) w _ c.answer_prepared-answer.result
    (c.answer_prepared-answer.ensures.says g.H.HashState.digest_of w c.in-Ok.ensures.prepared)

pub returns-in-Ok-clause-asked : goal.returns-in-Ok-clause-asked
returns-in-Ok-clause-asked g c =
    let digest_of = g.H.HashState.digest_of in
    let tree = g.F.Files.tree in
    let meaning = g.T.Preprocessor.meaning in
    let request = c.args.request.now in
    let found = found_of c.args.compiler in
    let parsed = c.in-Asks.plan.parsed in
    let decided : asks parsed ≡ verdict_of found.kind (words_at found request (tree c.args.files.now)) = rw c.in-Asks.is at c.in_ok-reason.ensures.verdict in
    let own : KeyCall = call_at found request (tree c.judge.new.files) c.args.config.now.keys parsed in
    let w = work_at (meaning c.args.tool.now) own in
    let p : PrintedCall = printed_call (meaning c.args.tool.now) own in
    let k = c.in-Ok.ensures in
    let from = c.in-Ok.prepared.from_record in
    let key = c.in-Ok.prepared.key.digest in
    let old = shelves_of (g.E.Store.shelf c.args.entries.now) (g.O.Store.shelf c.args.objects.now) in
    let new = shelves_of (g.E.Store.shelf c.prepare.new.entries) (g.O.Store.shelf c.answer_prepared-answer.new.objects) in
    let ran : ℕ → Type 0 = λ after. RanForKey w.rec from (g.T.Preprocessor.preprocessed c.args.tool.now) after in
    let runs : ran (g.T.Preprocessor.preprocessed c.answer_prepared-answer.new.tool) = subst ran (sym c.answer_prepared-answer.ensures.preprocesses) (c.prepare.ensures.idle, k.runs) in
    let early : StopsEarly w (g.T.Preprocessor.preprocessed c.args.tool.now) (g.T.Preprocessor.preprocessed c.answer_prepared-answer.new.tool) = subst (StopsEarly w (g.T.Preprocessor.preprocessed c.args.tool.now)) (sym c.answer_prepared-answer.ensures.preprocesses) c.prepare.ensures.early in
    let turned : ℕ → Type 0 = λ compiled. KeyedTurn digest_of c.args.config.now.max_kept key (worked w) old.objects new.objects compiled (g.T.Preprocessor.compiled c.answer_prepared-answer.new.tool) c.answer_prepared-answer.result in
    let turn : turned (g.T.Preprocessor.compiled c.args.tool.now) = subst turned c.prepare.ensures.compiles (c.answer_prepared-answer.ensures.turn digest_of w k.prepared) in
    of_asked (λ a. AskedTurn digest_of c.args.config.now.max_kept a old new (g.T.Preprocessor.preprocessed c.args.tool.now) (g.T.Preprocessor.preprocessed c.answer_prepared-answer.new.tool) (g.T.Preprocessor.compiled c.args.tool.now) (g.T.Preprocessor.compiled c.answer_prepared-answer.new.tool) c.answer_prepared-answer.result) (meaning c.args.tool.now) _ _ c.args.config.now.keys found request parsed _ c.in_ok-reason.ensures.untouched.tree decided
    (asked_finished digest_of c.args.config.now.max_kept w old new _ _ _ _ from key k.from (text_fine w p refl from k.fine) runs early k.recorded _ _ (c.answer_prepared-answer.ensures.says digest_of w k.prepared) c.answer_prepared-answer.ensures.how turn)

pub returns-in-Ok-clause-untouched : goal.returns-in-Ok-clause-untouched
returns-in-Ok-clause-untouched g c =
    let prepared = c.in-Ok.ensures.untouched in
    let judged = c.in_ok-reason.ensures.untouched in
    untouched_later g.T.Preprocessor g.F.Files c.args.tool.now c.prepare.new.tool c.answer_prepared-answer.new.tool c.args.files.now c.prepare.new.files c.answer_prepared-answer.new.files
    (prepared.tree ∙ judged.tree) prepared.meaning (prepared.steady.0, prepared.steady.1 ∙ judged.steady) c.answer_prepared-answer.result c.answer_prepared-answer.ensures.untouched

pub returns-in_err-reason-clause-passed : goal.returns-in_err-reason-clause-passed
returns-in_err-reason-clause-passed g c =
    let asked : Bytes → Type 0 = IsAskedEarly (by_c (found_of c.args.compiler)) c.args.request.now (g.F.Files.tree c.args.files.now) in
    early_passed _ asked c.in_err-reason.field-0.0 c.in_err-reason.ensures.asked _ c.from_residual.ensures.1

pub returns-in-Err-clause-passed : goal.returns-in-Err-clause-passed
returns-in-Err-clause-passed g c =
    let tree = g.F.Files.tree in
    let request = c.args.request.now in
    let found = found_of c.args.compiler in
    let parsed = c.in-Asks.plan.parsed in
    let decided : asks parsed ≡ verdict_of found.kind (words_at found request (tree c.args.files.now)) = rw c.in-Asks.is at c.in_ok-reason.ensures.verdict in
    let asked : Bytes → Type 0 = IsAskedEarly (by_c found) request (tree c.args.files.now) in
    let result : Result Answer Fault = Err c.in-Err.fault in
    of_asked (λ a. IfErr result (λ f. OfPassed a (EarlyCause asked f))) (g.T.Preprocessor.meaning c.args.tool.now) _ _ c.args.config.now.keys found request parsed _ c.in_ok-reason.ensures.untouched.tree decided (not_passed result)

pub returns-in-Ok-clause-passed : goal.returns-in-Ok-clause-passed
returns-in-Ok-clause-passed g c =
    let tree = g.F.Files.tree in
    let request = c.args.request.now in
    let found = found_of c.args.compiler in
    let parsed = c.in-Asks.plan.parsed in
    let decided : asks parsed ≡ verdict_of found.kind (words_at found request (tree c.args.files.now)) = rw c.in-Asks.is at c.in_ok-reason.ensures.verdict in
    let asked : Bytes → Type 0 = IsAskedEarly (by_c found) request (tree c.args.files.now) in
    let result = c.answer_prepared-answer.result in
    of_asked (λ a. IfErr result (λ f. OfPassed a (EarlyCause asked f))) (g.T.Preprocessor.meaning c.args.tool.now) _ _ c.args.config.now.keys found request parsed _ c.in_ok-reason.ensures.untouched.tree decided (not_passed result)
