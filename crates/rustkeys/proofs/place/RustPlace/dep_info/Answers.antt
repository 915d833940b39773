use Rattle.base_files.specs.Fails.{FailsOn}
use Rattle.ckeys_records.specs.Faults.{KeyCause}
use Rattle.ckeys_records.specs.Meaning.{text_in}
use Rattle.ckeys_records.specs.Causes.{no_file}
use Rattle.ckeys_records.specs.Meaning.{FailsIn}
use Rattle.ckeys_records.specs.declared.step.Step.TheVariants.{DepInfo}
use Rattle.ckeys_records.proofs.FaultLemmas.{on_exit}
use Rattle.rustkeys.specs.Calls.{answer_fault_of, dep_info_fault_of, sources_fault_of}
use Rattle.rustkeys.specs.Questions.{dep_info_of, question_of}
use Rattle.rustkeys.proofs.CauseLemmas.{first_is, key_cause_more}
use Rattle.rustkeys.proofs.place.RustPlace.dep_info.Goals as goal

pub returns-in_err-text-clause-cause : goal.returns-in_err-text-clause-cause
returns-in_err-text-clause-cause g c = λ moment.
    let tree = g.F.Files.tree c.args.files.now in
    let q = question_of c.args.self.now tree moment in
    let made = dep_info_of (g.A.Preprocessor.meaning c.args.answers.now) q in
    let on_file = FailsOn g.F.Files.tree g.F.Files.failed g.F.Files.fails_on c.args.files.now c.dep_info_text.new.files in
    let device_in = FailsIn g.A.Preprocessor.meaning g.A.Preprocessor.failed g.A.Preprocessor.fails_in c.args.answers.now c.dep_info_text.new.answers in
    let fault = c.in_err-text.field-0.0 in
    on_exit (KeyCause (dep_info_fault_of q made) on_file device_in) c.from_residual.result fault c.from_residual.ensures.1
    (key_cause_more (answer_fault_of DepInfo made) (dep_info_fault_of q made) no_file on_file device_in device_in (first_is (answer_fault_of DepInfo made) (sources_fault_of tree q.scene.dir (text_in made.contents))) (λ name n. absurd n) (λ step d. d) fault (c.in_err-text.ensures.cause moment))
