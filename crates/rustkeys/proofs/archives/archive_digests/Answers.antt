use Rattle.std.proofs.Common.{◌≡◌, ◌∷◌, [], List, ap, sym, ◌∙◌}
use Rattle.base_files.specs.Bytes.{Bytes}
use Rattle.ckeys_records.specs.Faults.{KeyCause}
use Rattle.ckeys_records.specs.Causes.{no_file}
use Rattle.ckeys_records.specs.Meaning.{FailsIn, Meaning}
use Rattle.ckeys_records.proofs.FaultLemmas.{on_exit, tool_since}
use Rattle.rustkeys.specs.Calls.{digest_fault_of}
use Rattle.rustkeys.specs.Questions.{digest_at, digested}
use Rattle.rustkeys.proofs.ArchiveLemmas.{first_fault}
use Rattle.rustkeys.proofs.CauseLemmas.{key_cause_more}
use Rattle.rustkeys.proofs.RunLemmas.{stop_for}
use Rattle.rustkeys.proofs.archives.archive_digests.Goals as goal

pub returns-in_err-archive_digest-clause-cause : goal.returns-in_err-archive_digest-clause-cause
returns-in_err-archive_digest-clause-cause g c = λ scene same.
    let meaning_of = g.A.Preprocessor.meaning in
    let failed = g.A.Preprocessor.failed in
    let fails_in = g.A.Preprocessor.fails_in in
    let meaning = meaning_of c.args.answers.now in
    let path = c.in-Some.path.now in
    let others = c.in-Some.others.now in
    let split : c.loop-path.rest.now ≡ path ∷ others = c.in-Some.ensures.cases.0 in
    let all = digest_fault_of (digested meaning scene c.args.paths.now) in
    let first = digest_fault_of (digested (meaning_of c.loop-path.answers) scene (path ∷ [])) in
    let left : all ≡ digest_fault_of ((path, digest_at meaning scene path) ∷ digested meaning scene others) = c.loop-path.invariant.fault scene same ∙ ap (λ (paths : List Bytes). digest_fault_of (digested meaning scene paths)) split in
    let one : first ≡ digest_fault_of ((path, digest_at meaning scene path) ∷ []) = ap (λ (m : Meaning). digest_fault_of (digested m scene (path ∷ []))) c.loop-path.invariant.meaning in
    let device_in = FailsIn meaning_of failed fails_in c.args.answers.now c.archive_digest.new.answers in
    let later = FailsIn meaning_of failed fails_in c.loop-path.answers c.archive_digest.new.answers in
    let fault = c.in_err-archive_digest.field-0.0 in
    on_exit (KeyCause all no_file device_in) c.from_residual.result fault c.from_residual.ensures.1
    (key_cause_more first all no_file no_file later device_in (λ f e. left ∙ first_fault path (digest_at meaning scene path) (digested meaning scene others) f (sym one ∙ e)) (λ name n. n) (tool_since meaning_of failed fails_in c.args.answers.now c.loop-path.answers c.archive_digest.new.answers c.loop-path.invariant.meaning c.loop-path.invariant.tool) fault (c.in_err-archive_digest.ensures.cause scene (same ∙ sym c.loop-path.invariant.tree)))

pub returns-in_err-archive_digest-clause-once : goal.returns-in_err-archive_digest-clause-once
returns-in_err-archive_digest-clause-once g c = c.loop-path.invariant.once _ (stop_for c.loop-path.rest.now c.in-Some.path.now c.in-Some.others.now c.in-Some.ensures.cases.0 _ _ c.archive_digest.ensures.once)

pub returns-in_err-push-clause-once : goal.returns-in_err-push-clause-once
returns-in_err-push-clause-once g c = c.loop-path.invariant.once _ (stop_for c.loop-path.rest.now c.in-Some.path.now c.in-Some.others.now c.in-Some.ensures.cases.0 _ _ c.archive_digest.ensures.once)
