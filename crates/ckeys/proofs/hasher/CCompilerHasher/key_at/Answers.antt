use Rattle.std.proofs.Common.{◌≡◌, None, Some, map, ap, sym, subst, ◌∙◌}
use Rattle.std.specs.Prelude.{IfSome}
use Rattle.std.specs.Option.{option_map}
use Rattle.base_files.specs.Fails.{FailsOn}
use Rattle.base_files.specs.Path.{join}
use Rattle.base_files.specs.Tree.{Tree}
use Rattle.ckeys.specs.Calls.{KeyCall, PrintedCall, key_fault_of, missing_input, printed_call, text_fault_of}
use Rattle.ckeys_records.specs.Faults.{KeyCause, first_missing}
use Rattle.ckeys.specs.Entries.{IsFramed, entry_key_of}
use Rattle.ckeys.specs.Hashers.{call_by}
use Rattle.ckeys_records.specs.Meaning.{FailsIn}
use Rattle.ckeys_records.specs.declared.fault.Fault.TheVariants.{Read}
use Rattle.ckeys.proofs.CallLemmas.{cause_is, file_cause, cause_later}
use Rattle.ckeys_records.proofs.FaultLemmas.{since, on_exit}
use Rattle.ckeys.proofs.EntryLemmas.{fine_later, first_is, input_first, none_early, turn_unasked, unasked_recorded}
use Rattle.ckeys.proofs.RecordLemmas.{has_key}
use Rattle.ckeys.proofs.hasher.CCompilerHasher.key_at.Goals as goal

pub returns-in_err-made-clause-cause : goal.returns-in_err-made-clause-cause
returns-in_err-made-clause-cause g c =
    let digest = g.H.HashState.digest_of in
    let tree = g.F.Files.tree in
    let failed = g.F.Files.failed in
    let fails_on = g.F.Files.fails_on in
    let meaning = g.T.Preprocessor.meaning c.args.tool.now in
    let call_on : Tree → KeyCall = λ t. call_by g.I.CCompilerImpl.kind_of g.I.CCompilerImpl.traits c.args.self.now c.args.place.now t in
    let p : PrintedCall = printed_call meaning (call_on (tree c.args.files.now)) in
    let there : first_missing (tree c.args.files.now) (map (join c.args.place.now.dir.now) c.args.self.now.parsed.now.extra_hash_files) ≡ None = ap (λ names. first_missing (tree c.args.files.now) (map (join c.args.place.now.dir.now) names)) (sym c.as_slice-names.ensures) ∙ c.in_ok-extra.ensures.there in
    let input : missing_input p.call ≡ None = ap (λ t. missing_input (call_on t)) (sym c.extra_hashes.ensures.untouched.tree) ∙ c.in_ok-entry_key.ensures.there in
    let trees : tree c.entry_key.new.files ≡ tree c.args.files.now = c.entry_key.ensures.untouched.tree ∙ c.extra_hashes.ensures.untouched.tree in
    let steady : failed c.entry_key.new.files ≡ failed c.args.files.now = c.in_ok-entry_key.ensures.untouched.steady ∙ c.in_ok-extra.ensures.untouched.steady in
    let device_in = FailsIn g.T.Preprocessor.meaning g.T.Preprocessor.failed g.T.Preprocessor.fails_in c.args.tool.now c.text_key.new.tool in
    let on_file = FailsOn tree failed fails_on c.args.files.now c.text_key.new.files in
    let later = FailsOn tree failed fails_on c.entry_key.new.files c.text_key.new.files in
    let fault = c.in_err-made.field-0.0 in
    on_exit (KeyCause (key_fault_of meaning p.call) on_file device_in) c.from_residual-in_err-made.result fault c.from_residual-in_err-made.ensures.1
    (cause_is (key_fault_of meaning p.call) (text_fault_of meaning (call_on (tree c.entry_key.new.files))) on_file later device_in fault (first_is p there input ∙ ap (λ t. text_fault_of meaning (call_on t)) (sym trees)) (since tree failed fails_on c.args.files.now c.entry_key.new.files c.text_key.new.files trees steady) c.in_err-made.ensures.cause)

pub returns-clause-cause : goal.returns-clause-cause
returns-clause-cause g c =
    let digest = g.H.HashState.digest_of in
    let tree = g.F.Files.tree in
    let failed = g.F.Files.failed in
    let fails_on = g.F.Files.fails_on in
    let meaning = g.T.Preprocessor.meaning c.args.tool.now in
    let call_on : Tree → KeyCall = λ t. call_by g.I.CCompilerImpl.kind_of g.I.CCompilerImpl.traits c.args.self.now c.args.place.now t in
    let p : PrintedCall = printed_call meaning (call_on (tree c.args.files.now)) in
    let there : first_missing (tree c.args.files.now) (map (join c.args.place.now.dir.now) c.args.self.now.parsed.now.extra_hash_files) ≡ None = ap (λ names. first_missing (tree c.args.files.now) (map (join c.args.place.now.dir.now) names)) (sym c.as_slice-names.ensures) ∙ c.in_ok-extra.ensures.there in
    let input : missing_input p.call ≡ None = ap (λ t. missing_input (call_on t)) (sym c.extra_hashes.ensures.untouched.tree) ∙ c.in_ok-entry_key.ensures.there in
    let trees : tree c.entry_key.new.files ≡ tree c.args.files.now = c.entry_key.ensures.untouched.tree ∙ c.extra_hashes.ensures.untouched.tree in
    let steady : failed c.entry_key.new.files ≡ failed c.args.files.now = c.in_ok-entry_key.ensures.untouched.steady ∙ c.in_ok-extra.ensures.untouched.steady in
    let device_in = FailsIn g.T.Preprocessor.meaning g.T.Preprocessor.failed g.T.Preprocessor.fails_in c.args.tool.now c.recorded_key.new.tool in
    let on_file = FailsOn tree failed fails_on c.args.files.now c.recorded_key.new.files in
    let later = FailsOn tree failed fails_on c.entry_key.new.files c.recorded_key.new.files in
    cause_later c.recorded_key.result (key_fault_of meaning p.call) (text_fault_of meaning (call_on (tree c.entry_key.new.files))) on_file later device_in (first_is p there input ∙ ap (λ t. text_fault_of meaning (call_on t)) (sym trees)) (since tree failed fails_on c.args.files.now c.entry_key.new.files c.recorded_key.new.files trees steady) c.recorded_key.ensures.cause

pub returns-clause-fine : goal.returns-clause-fine
returns-clause-fine g c =
    let digest = g.H.HashState.digest_of in
    let tree = g.F.Files.tree in
    let meaning = g.T.Preprocessor.meaning c.args.tool.now in
    let call_on : Tree → KeyCall = λ t. call_by g.I.CCompilerImpl.kind_of g.I.CCompilerImpl.traits c.args.self.now c.args.place.now t in
    let printed_on : Tree → PrintedCall = λ t. printed_call meaning (call_on t) in
    let p : PrintedCall = printed_on (tree c.args.files.now) in
    let there : first_missing (tree c.args.files.now) (map (join c.args.place.now.dir.now) c.args.self.now.parsed.now.extra_hash_files) ≡ None = ap (λ names. first_missing (tree c.args.files.now) (map (join c.args.place.now.dir.now) names)) (sym c.as_slice-names.ensures) ∙ c.in_ok-extra.ensures.there in
    let input : missing_input p.call ≡ None = ap (λ t. missing_input (call_on t)) (sym c.extra_hashes.ensures.untouched.tree) ∙ c.in_ok-entry_key.ensures.there in
    let trees : tree c.entry_key.new.files ≡ tree c.args.files.now = c.entry_key.ensures.untouched.tree ∙ c.extra_hashes.ensures.untouched.tree in
    let entry : entry_key_of digest p.call ≡ Some c.in-Some.entry_key = ap (λ t. entry_key_of digest (call_on t)) (sym c.extra_hashes.ensures.untouched.tree) ∙ sym c.in_ok-entry_key.ensures.key ∙ c.in-Some.is in
    fine_later p (printed_on (tree c.entry_key.new.files)) (ap printed_on trees) c.recorded_key.result (has_key digest p.call c.in-Some.entry_key entry).0 there input c.recorded_key.ensures.fine

pub returns-in_err-entry_key-clause-cause : goal.returns-in_err-entry_key-clause-cause
returns-in_err-entry_key-clause-cause g c =
    let digest = g.H.HashState.digest_of in
    let tree = g.F.Files.tree in
    let meaning = g.T.Preprocessor.meaning c.args.tool.now in
    let call_on : Tree → KeyCall = λ t. call_by g.I.CCompilerImpl.kind_of g.I.CCompilerImpl.traits c.args.self.now c.args.place.now t in
    let p : PrintedCall = printed_call meaning (call_on (tree c.args.files.now)) in
    let failed = g.F.Files.failed in
    let fails_on = g.F.Files.fails_on in
    let there : first_missing (tree c.args.files.now) (map (join c.args.place.now.dir.now) c.args.self.now.parsed.now.extra_hash_files) ≡ None = ap (λ names. first_missing (tree c.args.files.now) (map (join c.args.place.now.dir.now) names)) (sym c.as_slice-names.ensures) ∙ c.in_ok-extra.ensures.there in
    let missing = missing_input (call_on (tree c.extra_hashes.new.files)) in
    let same : missing_input p.call ≡ missing = ap (λ t. missing_input (call_on t)) (sym c.extra_hashes.ensures.untouched.tree) in
    let on_file = FailsOn tree failed fails_on c.args.files.now c.entry_key.new.files in
    let later = FailsOn tree failed fails_on c.extra_hashes.new.files c.entry_key.new.files in
    let device_in = FailsIn g.T.Preprocessor.meaning g.T.Preprocessor.failed g.T.Preprocessor.fails_in c.args.tool.now c.args.tool.now in
    let fault = c.in_err-entry_key.field-0.0 in
    on_exit (KeyCause (key_fault_of meaning p.call) on_file device_in) c.from_residual-in_err-entry_key.result fault c.from_residual-in_err-entry_key.ensures.1
    (file_cause (key_fault_of meaning p.call) missing on_file later device_in (since tree failed fails_on c.args.files.now c.extra_hashes.new.files c.entry_key.new.files c.extra_hashes.ensures.untouched.tree c.in_ok-extra.ensures.untouched.steady) (λ f e. input_first p there f (ap (option_map Read) same ∙ e)) fault c.in_err-entry_key.ensures.cause)

pub returns-in_default-clause-entries : goal.returns-in_default-clause-entries
returns-in_default-clause-entries g c =
    let digest = g.H.HashState.digest_of in
    let tree = g.F.Files.tree in
    let meaning = g.T.Preprocessor.meaning c.args.tool.now in
    let call_on : Tree → KeyCall = λ t. call_by g.I.CCompilerImpl.kind_of g.I.CCompilerImpl.traits c.args.self.now c.args.place.now t in
    let p : PrintedCall = printed_call meaning (call_on (tree c.args.files.now)) in
    turn_unasked digest p (g.E.Store.shelf c.args.entries.now) (ap (λ t. entry_key_of digest (call_on t)) (sym c.extra_hashes.ensures.untouched.tree) ∙ sym c.in_ok-entry_key.ensures.key ∙ c.in_default.is) _ _

pub recorded_key-requires-clause-entry : goal.recorded_key-requires-clause-entry
recorded_key-requires-clause-entry g c =
    let digest = g.H.HashState.digest_of in
    let tree = g.F.Files.tree in
    let meaning = g.T.Preprocessor.meaning c.args.tool.now in
    let call_on : Tree → KeyCall = λ t. call_by g.I.CCompilerImpl.kind_of g.I.CCompilerImpl.traits c.args.self.now c.args.place.now t in
    ap (λ t. entry_key_of digest (call_on t)) c.entry_key.ensures.untouched.tree ∙ sym c.in_ok-entry_key.ensures.key ∙ c.in-Some.is

pub recorded_key-requires-clause-framed : goal.recorded_key-requires-clause-framed
recorded_key-requires-clause-framed g c =
    let digest = g.H.HashState.digest_of in
    let tree = g.F.Files.tree in
    let meaning = g.T.Preprocessor.meaning c.args.tool.now in
    let call_on : Tree → KeyCall = λ t. call_by g.I.CCompilerImpl.kind_of g.I.CCompilerImpl.traits c.args.self.now c.args.place.now t in
    let framed : IfSome c.in_ok-entry_key.entry_key (λ _. IsFramed digest (call_on (tree c.extra_hashes.new.files))) = c.in_ok-entry_key.ensures.framed in
    subst (λ t. IsFramed digest (call_on t)) (sym c.entry_key.ensures.untouched.tree) (subst (λ key. IfSome key (λ _. IsFramed digest (call_on (tree c.extra_hashes.new.files)))) c.in-Some.is framed)

pub returns-in_err-made-clause-early : goal.returns-in_err-made-clause-early
returns-in_err-made-clause-early g c some =
    let tree = g.F.Files.tree in
    let meaning = g.T.Preprocessor.meaning c.args.tool.now in
    let call_on : Tree → KeyCall = λ t. call_by g.I.CCompilerImpl.kind_of g.I.CCompilerImpl.traits c.args.self.now c.args.place.now t in
    let p : PrintedCall = printed_call meaning (call_on (tree c.args.files.now)) in
    let there : first_missing (tree c.args.files.now) (map (join c.args.place.now.dir.now) c.args.self.now.parsed.now.extra_hash_files) ≡ None = ap (λ names. first_missing (tree c.args.files.now) (map (join c.args.place.now.dir.now) names)) (sym c.as_slice-names.ensures) ∙ c.in_ok-extra.ensures.there in
    let input : missing_input p.call ≡ None = ap (λ t. missing_input (call_on t)) (sym c.extra_hashes.ensures.untouched.tree) ∙ c.in_ok-entry_key.ensures.there in
    absurd (some (none_early p there input))

pub returns-clause-early : goal.returns-clause-early
returns-clause-early g c some =
    let tree = g.F.Files.tree in
    let meaning = g.T.Preprocessor.meaning c.args.tool.now in
    let call_on : Tree → KeyCall = λ t. call_by g.I.CCompilerImpl.kind_of g.I.CCompilerImpl.traits c.args.self.now c.args.place.now t in
    let p : PrintedCall = printed_call meaning (call_on (tree c.args.files.now)) in
    let there : first_missing (tree c.args.files.now) (map (join c.args.place.now.dir.now) c.args.self.now.parsed.now.extra_hash_files) ≡ None = ap (λ names. first_missing (tree c.args.files.now) (map (join c.args.place.now.dir.now) names)) (sym c.as_slice-names.ensures) ∙ c.in_ok-extra.ensures.there in
    let input : missing_input p.call ≡ None = ap (λ t. missing_input (call_on t)) (sym c.extra_hashes.ensures.untouched.tree) ∙ c.in_ok-entry_key.ensures.there in
    absurd (some (none_early p there input))

pub returns-in_default-clause-early : goal.returns-in_default-clause-early
returns-in_default-clause-early g c some =
    let tree = g.F.Files.tree in
    let meaning = g.T.Preprocessor.meaning c.args.tool.now in
    let call_on : Tree → KeyCall = λ t. call_by g.I.CCompilerImpl.kind_of g.I.CCompilerImpl.traits c.args.self.now c.args.place.now t in
    let p : PrintedCall = printed_call meaning (call_on (tree c.args.files.now)) in
    let there : first_missing (tree c.args.files.now) (map (join c.args.place.now.dir.now) c.args.self.now.parsed.now.extra_hash_files) ≡ None = ap (λ names. first_missing (tree c.args.files.now) (map (join c.args.place.now.dir.now) names)) (sym c.as_slice-names.ensures) ∙ c.in_ok-extra.ensures.there in
    let input : missing_input p.call ≡ None = ap (λ t. missing_input (call_on t)) (sym c.extra_hashes.ensures.untouched.tree) ∙ c.in_ok-entry_key.ensures.there in
    absurd (some (none_early p there input))

pub returns-in_default-clause-recorded : goal.returns-in_default-clause-recorded
returns-in_default-clause-recorded g c =
    let digest = g.H.HashState.digest_of in
    let tree = g.F.Files.tree in
    let meaning = g.T.Preprocessor.meaning c.args.tool.now in
    let call_on : Tree → KeyCall = λ t. call_by g.I.CCompilerImpl.kind_of g.I.CCompilerImpl.traits c.args.self.now c.args.place.now t in
    let p : PrintedCall = printed_call meaning (call_on (tree c.args.files.now)) in
    unasked_recorded digest p (g.E.Store.shelf c.args.entries.now) (ap (λ t. entry_key_of digest (call_on t)) (sym c.extra_hashes.ensures.untouched.tree) ∙ sym c.in_ok-entry_key.ensures.key ∙ c.in_default.is) _
