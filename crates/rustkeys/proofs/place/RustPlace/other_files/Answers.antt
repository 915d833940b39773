use Rattle.std.proofs.Common.{◌≡◌, List, None, map, ap, refl, sym, ◌∙◌}
use Rattle.std.specs.Option.{option_map, option_to_list}
use Rattle.base_files.specs.Bytes.{Bytes}
use Rattle.base_files.specs.Fails.{FailsOn}
use Rattle.base_files.specs.Path.{join}
use Rattle.base_files.specs.Tree.{Tree}
use Rattle.ckeys_records.specs.Faults.{KeyCause, first_missing, or_else, read_fault_of}
use Rattle.ckeys_records.specs.Causes.{no_file, no_step}
use Rattle.ckeys_records.specs.Meaning.{FailsIn}
use Rattle.ckeys_records.specs.declared.fault.Fault.TheVariants.{Read}
use Rattle.ckeys_records.proofs.CauseLemmas.{file_early}
use Rattle.ckeys_records.proofs.FaultLemmas.{on_exit, since}
use Rattle.rustkeys.specs.Calls.{digest_fault_of, files_fault_of, optional_files_fault_of}
use Rattle.rustkeys.specs.Questions.{digested, extern_paths, profile_path, question_of, target_path}
use Rattle.rustkeys.proofs.CauseLemmas.{first_is, key_cause_more, second_is}
use Rattle.rustkeys.proofs.RunLemmas.{none_for}
use Rattle.rustkeys.proofs.place.RustPlace.other_files.Goals as goal

pub returns-in_err-archives-clause-cause : goal.returns-in_err-archives-clause-cause
returns-in_err-archives-clause-cause g c = λ moment.
    let tree = g.F.Files.tree c.args.files.now in
    let q = question_of c.args.self.now tree moment in
    let meaning = g.A.Preprocessor.meaning c.args.answers.now in
    let archives = digested meaning q.scene q.asks.staticlibs in
    let on_file = FailsOn g.F.Files.tree g.F.Files.failed g.F.Files.fails_on c.args.files.now c.archive_digests.new.files in
    let device_in = FailsIn g.A.Preprocessor.meaning g.A.Preprocessor.failed g.A.Preprocessor.fails_in c.args.answers.now c.archive_digests.new.answers in
    let fault = c.in_err-archives.field-0.0 in
    let externs = read_fault_of tree (extern_paths q) in
    let optional = optional_files_fault_of q in
    let none : externs ≡ None = ap (λ (names : List Bytes). read_fault_of tree (map (join q.scene.dir) names)) (sym c.as_slice.ensures) ∙ ap (option_map Read) c.in_ok-externs.ensures.there in
    let own = digest_fault_of (digested meaning q.scene c.as_slice-2.result.now) in
    let same : digest_fault_of archives ≡ own = ap (λ (paths : List Bytes). digest_fault_of (digested meaning q.scene paths)) (sym c.as_slice-2.ensures) in
    on_exit (KeyCause (files_fault_of q archives) on_file device_in) c.from_residual-in_err-archives.result fault c.from_residual-in_err-archives.ensures.1
    (key_cause_more own (files_fault_of q archives) no_file on_file device_in device_in (λ f e. second_is externs (or_else (digest_fault_of archives) optional) none f (first_is (digest_fault_of archives) optional f (same ∙ e))) (λ name n. absurd n) (λ step d. d) fault (c.in_err-archives.ensures.cause q.scene (sym c.needed_in.ensures.untouched.tree)))

pub returns-in_err-profile-clause-cause : goal.returns-in_err-profile-clause-cause
returns-in_err-profile-clause-cause g c = λ moment.
    let tree_of = g.F.Files.tree in
    let failed = g.F.Files.failed in
    let fails_on = g.F.Files.fails_on in
    let tree = tree_of c.args.files.now in
    let q = question_of c.args.self.now tree moment in
    let meaning = g.A.Preprocessor.meaning c.args.answers.now in
    let archives = digested meaning q.scene q.asks.staticlibs in
    let on_file = FailsOn tree_of failed fails_on c.args.files.now c.needed_where_named-2.new.files in
    let on_later = FailsOn tree_of failed fails_on c.needed_where_named.new.files c.needed_where_named-2.new.files in
    let device_in = FailsIn g.A.Preprocessor.meaning g.A.Preprocessor.failed g.A.Preprocessor.fails_in c.args.answers.now c.archive_digests.new.answers in
    let fault = c.in_err-profile.field-0.0 in
    let after_archives : tree_of c.archive_digests.new.files ≡ tree = c.archive_digests.ensures.untouched.tree ∙ c.needed_in.ensures.untouched.tree in
    let after_target : tree_of c.needed_where_named.new.files ≡ tree = c.needed_where_named.ensures.untouched.tree ∙ after_archives in
    let steady : failed c.needed_where_named.new.files ≡ failed c.args.files.now = c.in_ok-target.ensures.untouched.steady ∙ c.in_ok-archives.ensures.untouched.steady.1 ∙ c.in_ok-externs.ensures.untouched.steady in
    let externs = read_fault_of tree (extern_paths q) in
    let target = read_fault_of tree (option_to_list (target_path q)) in
    let profile = read_fault_of tree (option_to_list (profile_path q)) in
    let own = read_fault_of (tree_of c.needed_where_named.new.files) (option_to_list (profile_path q)) in
    let no_extern : externs ≡ None = ap (λ (names : List Bytes). read_fault_of tree (map (join q.scene.dir) names)) (sym c.as_slice.ensures) ∙ ap (option_map Read) c.in_ok-externs.ensures.there in
    let no_digest : digest_fault_of archives ≡ None = ap (λ (paths : List Bytes). digest_fault_of (digested meaning q.scene paths)) (sym c.as_slice-2.ensures) ∙ c.in_ok-archives.ensures.fine q.scene (sym c.needed_in.ensures.untouched.tree) in
    let no_target : target ≡ None = ap (λ (files : Tree). read_fault_of files (option_to_list (target_path q))) (sym after_archives) ∙ ap (option_map Read) c.in_ok-target.ensures.there in
    let same : profile ≡ own = ap (λ (files : Tree). read_fault_of files (option_to_list (profile_path q))) (sym after_target) in
    on_exit (KeyCause (files_fault_of q archives) on_file device_in) c.from_residual-in_err-profile.result fault c.from_residual-in_err-profile.ensures.1
    (key_cause_more own (files_fault_of q archives) on_later on_file no_step device_in (λ f e. second_is externs (or_else (digest_fault_of archives) (or_else target profile)) no_extern f (second_is (digest_fault_of archives) (or_else target profile) no_digest f (second_is target profile no_target f (same ∙ e)))) (since tree_of failed fails_on c.args.files.now c.needed_where_named.new.files c.needed_where_named-2.new.files after_target steady) (λ step n. absurd n) fault (file_early (first_missing (tree_of c.needed_where_named.new.files) (option_to_list (profile_path q))) on_later fault c.in_err-profile.ensures.cause))

pub returns-in_err-externs-clause-once_each : goal.returns-in_err-externs-clause-once_each
returns-in_err-externs-clause-once_each g c = none_for c.args.self.now.parsed.now.staticlibs _ _ refl
