use Rattle.std.proofs.Common.{◌≡◌, ℕ, None, false, rules, refl, subst, sym, ◌∙◌, to_z, of_z, w64}
use Rattle.base_files.specs.Bytes.{Bytes}
use Rattle.rustc_options.specs.Asks.{asks_in}
use Rattle.wrap_keys.specs.Account.{rust_call_at, rust_work_at, worked}
use Rattle.wrap_keys.specs.Asking.{StopsEarly}
use Rattle.wrap_keys.specs.CallRecords.{key_of}
use Rattle.wrap_keys.specs.Turn.{KeyedTurn}
use Rattle.wrap_keys.proofs.RunLemmas.{asked_twice, asked_until}
use Rattle.wrap.proofs.RustLemmas.{is_prepared}
use Rattle.wrap.proofs.TurnLemmas.{fails_in_later, finished_says, finished_unpassed, how_of_fault, key_says, key_turn, untouched_later}
use Rattle.wrap.proofs.rust_calls.rust_answer.Goals as goal

pub returns-in_err-made-clause-says : goal.returns-in_err-made-clause-says
returns-in_err-made-clause-says g c =
    let w = rust_work_at (g.T.Preprocessor.meaning c.args.tool.now) (rust_call_at c.args.rust.now c.args.request.now (g.F.Files.tree c.args.files.now) (asks_in c.args.parsed.now)) in
    key_says (w.fault ≡ None) w _ _ c.in_err-made.field-0.0 c.in_err-made.ensures.cause _ c.from_residual.ensures.1

pub returns-in_err-made-clause-store : goal.returns-in_err-made-clause-store
returns-in_err-made-clause-store g c =
    let digest_of = g.H.HashState.digest_of in
    let w = rust_work_at (g.T.Preprocessor.meaning c.args.tool.now) (rust_call_at c.args.rust.now c.args.request.now (g.F.Files.tree c.args.files.now) (asks_in c.args.parsed.now)) in
    key_turn digest_of c.args.max_kept (key_of digest_of w.rec) w w.fault _ _ _ c.rust_prepare.ensures.compiles _ _ c.in_err-made.field-0.0 c.in_err-made.ensures.cause _ c.from_residual.ensures.1

pub returns-in_err-made-clause-how : goal.returns-in_err-made-clause-how
returns-in_err-made-clause-how g c = how_of_fault false c.in_err-made.field-0.0 _ c.from_residual.ensures.1

pub returns-in_err-made-clause-runs : goal.returns-in_err-made-clause-runs
returns-in_err-made-clause-runs g c = asked_until _ c.in_err-made.field-0.0 _ _ c.from_residual.ensures.1 c.rust_prepare.ensures.twice

pub returns-clause-says : goal.returns-clause-says
returns-clause-says g c =
    let digest_of = g.H.HashState.digest_of in
    let meaning = g.T.Preprocessor.meaning in
    let tree = g.F.Files.tree in
    let asked = asks_in c.args.parsed.now in
    let w = rust_work_at (meaning c.args.tool.now) (rust_call_at c.args.rust.now c.args.request.now (tree c.args.files.now) asked) in
    let k = c.in_ok-made.ensures in
    let moment : to_z w64 (of_z w64 c.args.request.now.moment) ≡ c.args.request.now.moment = search rules in
    let prepared = is_prepared digest_of (meaning c.args.tool.now) (meaning c.rust_prepare.new.tool) (tree c.args.files.now) (tree c.rust_prepare.new.files) c.args.rust.now c.args.request.now asked c.in_ok-made.made _ k.prepared c.rust_prepare.ensures.untouched.meaning c.rust_prepare.ensures.untouched.tree refl refl c.outputs.ensures refl refl moment refl in
    let later = fails_in_later meaning g.T.Preprocessor.failed g.T.Preprocessor.fails_in c.args.tool.now c.rust_prepare.new.tool c.answer_prepared-answer.new.tool c.rust_prepare.ensures.untouched.meaning k.untouched.steady.0 in
    finished_says (w.fault ≡ None) w _ _ _ later k.prepared.fine _ (c.answer_prepared-answer.ensures.says digest_of w prepared)

pub returns-clause-unpassed : goal.returns-clause-unpassed
returns-clause-unpassed g c =
    let digest_of = g.H.HashState.digest_of in
    let meaning = g.T.Preprocessor.meaning in
    let tree = g.F.Files.tree in
    let asked = asks_in c.args.parsed.now in
    let w = rust_work_at (meaning c.args.tool.now) (rust_call_at c.args.rust.now c.args.request.now (tree c.args.files.now) asked) in
    let moment : to_z w64 (of_z w64 c.args.request.now.moment) ≡ c.args.request.now.moment = search rules in
    let prepared = is_prepared digest_of (meaning c.args.tool.now) (meaning c.rust_prepare.new.tool) (tree c.args.files.now) (tree c.rust_prepare.new.files) c.args.rust.now c.args.request.now asked c.in_ok-made.made _ c.in_ok-made.ensures.prepared c.rust_prepare.ensures.untouched.meaning c.rust_prepare.ensures.untouched.tree refl refl c.outputs.ensures refl refl moment refl in
    finished_unpassed ⊥ w _ _ (c.answer_prepared-answer.ensures.says digest_of w prepared)

pub returns-clause-store : goal.returns-clause-store
returns-clause-store g c =
    let digest_of = g.H.HashState.digest_of in
    let meaning = g.T.Preprocessor.meaning in
    let tree = g.F.Files.tree in
    let asked = asks_in c.args.parsed.now in
    let w = rust_work_at (meaning c.args.tool.now) (rust_call_at c.args.rust.now c.args.request.now (tree c.args.files.now) asked) in
    let k = c.in_ok-made.ensures.prepared in
    let moment : to_z w64 (of_z w64 c.args.request.now.moment) ≡ c.args.request.now.moment = search rules in
    let prepared = is_prepared digest_of (meaning c.args.tool.now) (meaning c.rust_prepare.new.tool) (tree c.args.files.now) (tree c.rust_prepare.new.files) c.args.rust.now c.args.request.now asked c.in_ok-made.made _ k c.rust_prepare.ensures.untouched.meaning c.rust_prepare.ensures.untouched.tree refl refl c.outputs.ensures refl refl moment refl in
    let turned : Bytes × ℕ → Type 0 = λ x. KeyedTurn digest_of c.args.max_kept x.0 (worked w) (g.O.Store.shelf c.args.objects.now) (g.O.Store.shelf c.answer_prepared-answer.new.objects) x.1 (g.T.Preprocessor.compiled c.answer_prepared-answer.new.tool) c.answer_prepared-answer.result in
    let own : c.in_ok-made.made.key.digest ≡ key_of digest_of w.rec = λ i. (k.is_key i).digest in
    subst turned (λ i. (own i, c.rust_prepare.ensures.compiles i)) (c.answer_prepared-answer.ensures.turn digest_of w prepared)

pub returns-clause-runs : goal.returns-clause-runs
returns-clause-runs g c =
    let before = g.T.Preprocessor.preprocessed c.args.tool.now in
    asked_twice _ before _ (c.answer_prepared-answer.ensures.preprocesses ∙ c.in_ok-made.ensures.runs)

pub returns-clause-untouched : goal.returns-clause-untouched
returns-clause-untouched g c =
    let made = c.in_ok-made.ensures.untouched in
    untouched_later g.T.Preprocessor g.F.Files c.args.tool.now c.rust_prepare.new.tool c.answer_prepared-answer.new.tool c.args.files.now c.rust_prepare.new.files c.answer_prepared-answer.new.files made.tree made.meaning made.steady c.answer_prepared-answer.result c.answer_prepared-answer.ensures.untouched

pub returns-clause-early : goal.returns-clause-early
returns-clause-early g c =
    let w = rust_work_at (g.T.Preprocessor.meaning c.args.tool.now) (rust_call_at c.args.rust.now c.args.request.now (g.F.Files.tree c.args.files.now) (asks_in c.args.parsed.now)) in
    subst (StopsEarly w (g.T.Preprocessor.preprocessed c.args.tool.now)) (sym c.answer_prepared-answer.ensures.preprocesses) c.rust_prepare.ensures.early
