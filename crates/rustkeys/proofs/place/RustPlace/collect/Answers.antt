use Rattle.std.proofs.Common.{◌≡◌, None, subst, sym, ◌∙◌}
use Rattle.base_files.specs.Fails.{FailsOn}
use Rattle.base_files.specs.Tree.{Tree}
use Rattle.ckeys_records.specs.Faults.{KeyCause, or_else}
use Rattle.ckeys_records.specs.Causes.{no_file}
use Rattle.ckeys_records.specs.Meaning.{FailsIn, Meaning, text_in}
use Rattle.ckeys_records.specs.declared.step.Step.TheVariants.{FileNames}
use Rattle.ckeys_records.proofs.FaultLemmas.{on_exit, since, tool_since}
use Rattle.rustkeys.specs.Calls.{answer_fault_of, dep_info_fault_of, files_fault_of, key_fault_with}
use Rattle.rustkeys.specs.Collected.{AreFilesOf, file_digests}
use Rattle.rustkeys.specs.Questions.{Question, answers_of, digested, file_names_of, question_of, sources_in}
use Rattle.rustkeys.proofs.CauseLemmas.{first_is, key_cause_more, second_is}
use Rattle.rustkeys.proofs.RunLemmas.{none_for}
use Rattle.rustkeys.proofs.place.RustPlace.collect.Goals as goal

pub returns-in_err-sources-clause-cause : goal.returns-in_err-sources-clause-cause
returns-in_err-sources-clause-cause g c = λ moment.
    let q = question_of c.args.self.now (g.F.Files.tree c.args.files.now) moment in
    let told = answers_of (g.A.Preprocessor.meaning c.args.answers.now) q in
    let on_file = FailsOn g.F.Files.tree g.F.Files.failed g.F.Files.fails_on c.args.files.now c.dep_info.new.files in
    let device_in = FailsIn g.A.Preprocessor.meaning g.A.Preprocessor.failed g.A.Preprocessor.fails_in c.args.answers.now c.dep_info.new.answers in
    let fault = c.in_err-sources.field-0.0 in
    let sources = dep_info_fault_of q told.dep_info in
    let rest = or_else (answer_fault_of FileNames told.file_names) (files_fault_of q told.archives) in
    on_exit (KeyCause (key_fault_with q told) on_file device_in) c.from_residual.result fault c.from_residual.ensures.1
    (key_cause_more sources (key_fault_with q told) on_file on_file device_in device_in (first_is sources rest) (λ name h. h) (λ step d. d) fault (c.in_err-sources.ensures.cause moment))

pub returns-in_err-names-clause-cause : goal.returns-in_err-names-clause-cause
returns-in_err-names-clause-cause g c = λ moment.
    let tree = g.F.Files.tree in
    let meaning = g.A.Preprocessor.meaning in
    let failed = g.A.Preprocessor.failed in
    let fails_in = g.A.Preprocessor.fails_in in
    let q = question_of c.args.self.now (tree c.args.files.now) moment in
    let told = answers_of (meaning c.args.answers.now) q in
    let on_file = FailsOn tree g.F.Files.failed g.F.Files.fails_on c.args.files.now c.file_names_text.new.files in
    let device_in = FailsIn meaning failed fails_in c.args.answers.now c.file_names_text.new.answers in
    let later = FailsIn meaning failed fails_in c.dep_info.new.answers c.file_names_text.new.answers in
    let fault = c.in_err-names.field-0.0 in
    let sources = dep_info_fault_of q told.dep_info in
    let names = answer_fault_of FileNames told.file_names in
    let files = files_fault_of q told.archives in
    let own = answer_fault_of FileNames (file_names_of (meaning c.dep_info.new.answers) (question_of c.args.self.now (tree c.dep_info.new.files) moment)) in
    let same : own ≡ names = λ i. answer_fault_of FileNames (file_names_of (c.dep_info.ensures.untouched.meaning i) (question_of c.args.self.now (c.dep_info.ensures.untouched.tree i) moment)) in
    on_exit (KeyCause (key_fault_with q told) on_file device_in) c.from_residual-in_err-names.result fault c.from_residual-in_err-names.ensures.1
    (key_cause_more own (key_fault_with q told) no_file on_file later device_in (λ f e. second_is sources (or_else names files) (c.in_ok-sources.ensures.fine moment) f (first_is names files f (sym same ∙ e))) (λ name n. absurd n) (tool_since meaning failed fails_in c.args.answers.now c.dep_info.new.answers c.file_names_text.new.answers c.dep_info.ensures.untouched.meaning c.in_ok-sources.ensures.untouched.steady.0) fault (c.in_err-names.ensures.cause moment))

pub returns-in_err-files-clause-cause : goal.returns-in_err-files-clause-cause
returns-in_err-files-clause-cause g c = λ moment.
    let tree = g.F.Files.tree in
    let files_failed = g.F.Files.failed in
    let fails_on = g.F.Files.fails_on in
    let meaning = g.A.Preprocessor.meaning in
    let failed = g.A.Preprocessor.failed in
    let fails_in = g.A.Preprocessor.fails_in in
    let q = question_of c.args.self.now (tree c.args.files.now) moment in
    let told = answers_of (meaning c.args.answers.now) q in
    let on_file = FailsOn tree files_failed fails_on c.args.files.now c.other_files.new.files in
    let on_later = FailsOn tree files_failed fails_on c.file_names_text.new.files c.other_files.new.files in
    let device_in = FailsIn meaning failed fails_in c.args.answers.now c.other_files.new.answers in
    let later = FailsIn meaning failed fails_in c.file_names_text.new.answers c.other_files.new.answers in
    let fault = c.in_err-files.field-0.0 in
    let trees : tree c.file_names_text.new.files ≡ tree c.args.files.now = c.file_names_text.ensures.untouched.tree ∙ c.dep_info.ensures.untouched.tree in
    let meanings : meaning c.file_names_text.new.answers ≡ meaning c.args.answers.now = c.file_names_text.ensures.untouched.meaning ∙ c.dep_info.ensures.untouched.meaning in
    let steady : failed c.file_names_text.new.answers ≡ failed c.args.answers.now = c.in_ok-names.ensures.untouched.steady.0 ∙ c.in_ok-sources.ensures.untouched.steady.0 in
    let files_steady : files_failed c.file_names_text.new.files ≡ files_failed c.args.files.now = c.in_ok-names.ensures.untouched.steady.1 ∙ c.in_ok-sources.ensures.untouched.steady.1 in
    let sources = dep_info_fault_of q told.dep_info in
    let names = answer_fault_of FileNames told.file_names in
    let files = files_fault_of q told.archives in
    let asked : Question = question_of c.args.self.now (tree c.file_names_text.new.files) moment in
    let own = files_fault_of asked (digested (meaning c.file_names_text.new.answers) asked.scene asked.asks.staticlibs) in
    let same : own ≡ files = λ i. files_fault_of (question_of c.args.self.now (trees i) moment) (digested (meanings i) (question_of c.args.self.now (trees i) moment).scene (question_of c.args.self.now (trees i) moment).asks.staticlibs) in
    let none : names ≡ None = (λ i. answer_fault_of FileNames (file_names_of (sym c.dep_info.ensures.untouched.meaning i) (question_of c.args.self.now (sym c.dep_info.ensures.untouched.tree i) moment))) ∙ c.in_ok-names.ensures.fine moment in
    on_exit (KeyCause (key_fault_with q told) on_file device_in) c.from_residual-in_err-files.result fault c.from_residual-in_err-files.ensures.1
    (key_cause_more own (key_fault_with q told) on_later on_file later device_in (λ f e. second_is sources (or_else names files) (c.in_ok-sources.ensures.fine moment) f (second_is names files none f (sym same ∙ e))) (since tree files_failed fails_on c.args.files.now c.file_names_text.new.files c.other_files.new.files trees files_steady) (tool_since meaning failed fails_in c.args.answers.now c.file_names_text.new.answers c.other_files.new.answers meanings steady) fault (c.in_err-files.ensures.cause moment))

pub returns-clause-found : goal.returns-clause-found
returns-clause-found g c = λ moment.
    let tree = g.F.Files.tree in
    let meaning = g.A.Preprocessor.meaning in
    let digest_of = g.H.HashState.digest_of in
    let asked : Tree → Question = λ files. question_of c.args.self.now files moment in
    let trees : tree c.file_names_text.new.files ≡ tree c.args.files.now = c.file_names_text.ensures.untouched.tree ∙ c.dep_info.ensures.untouched.tree in
    let meanings : meaning c.file_names_text.new.answers ≡ meaning c.args.answers.now = c.file_names_text.ensures.untouched.meaning ∙ c.dep_info.ensures.untouched.meaning in
    record {
      text = c.in_ok-sources.ensures.text moment;
      names = c.in_ok-names.ensures.text moment ∙ (λ i. text_in (file_names_of (c.dep_info.ensures.untouched.meaning i) (asked (c.dep_info.ensures.untouched.tree i))).contents);
      sources = c.in_ok-sources.ensures.digests ∙ (λ i. file_digests digest_of (tree c.args.files.now) (sources_in c.args.self.now.dir.now (c.in_ok-sources.ensures.text moment i)));
      files = subst (λ (x : Tree × Meaning). AreFilesOf digest_of (asked x.0) (digested x.1 (asked x.0).scene (asked x.0).asks.staticlibs) c.in_ok-files.files) (λ i. (trees i, meanings i)) (c.in_ok-files.ensures.digests moment);
    }

pub returns-in_err-sources-clause-once_each : goal.returns-in_err-sources-clause-once_each
returns-in_err-sources-clause-once_each g c = none_for c.args.self.now.parsed.now.staticlibs _ _ c.dep_info.ensures.archives

pub returns-in_err-names-clause-once_each : goal.returns-in_err-names-clause-once_each
returns-in_err-names-clause-once_each g c = none_for c.args.self.now.parsed.now.staticlibs _ _ (c.file_names_text.ensures.archives ∙ c.dep_info.ensures.archives)
