use Rattle.std.proofs.Common.{◌≡◌, None, map, ap, sym, ◌∙◌}
use Rattle.std.specs.Option.{option_map}
use Rattle.base_files.specs.Fails.{FailsOn}
use Rattle.base_files.specs.Path.{join}
use Rattle.base_files.specs.Tree.{Tree}
use Rattle.ckeys_base.specs.Hex.{hex_of}
use Rattle.ckeys_include_records.specs.Surroundings.{contents_in}
use Rattle.ckeys.specs.Calls.{KeyCall, PrintedCall, key_fault_of, missing_input, printed_call, text_fault_of}
use Rattle.ckeys_records.specs.Faults.{KeyCause, first_missing}
use Rattle.ckeys.specs.Hashers.{call_by}
use Rattle.ckeys_records.specs.Meaning.{FailsIn}
use Rattle.ckeys_records.specs.declared.fault.Fault.TheVariants.{Read}
use Rattle.ckeys.proofs.CallLemmas.{cause_is, file_cause}
use Rattle.ckeys_records.proofs.FaultLemmas.{since, on_exit}
use Rattle.ckeys.proofs.EntryLemmas.{first_is, input_first, none_early}
use Rattle.ckeys.proofs.hasher.CCompilerHasher.key_contents.Goals as goal

pub returns-clause-extra : goal.returns-clause-extra
returns-clause-extra g c =
    let digest = g.H.HashState.digest_of in
    let tree = g.F.Files.tree in
    c.in_ok-bytes_of.ensures ∙ c.in_ok-extra.ensures.digests ∙ ap (λ names. map (λ contents. hex_of (digest contents)) (map (contents_in (tree c.args.files.now)) (map (join c.args.place.now.dir.now) names))) c.as_slice-names.ensures

pub returns-in_err-entry_key-clause-cause : goal.returns-in_err-entry_key-clause-cause
returns-in_err-entry_key-clause-cause g c =
    let tree = g.F.Files.tree in
    let failed = g.F.Files.failed in
    let fails_on = g.F.Files.fails_on in
    let meaning = g.T.Preprocessor.meaning c.args.tool.now in
    let call_on : Tree → KeyCall = λ t. call_by g.I.CCompilerImpl.kind_of g.I.CCompilerImpl.traits c.args.self.now c.args.place.now t in
    let p : PrintedCall = printed_call meaning (call_on (tree c.args.files.now)) in
    let there : first_missing (tree c.args.files.now) (map (join c.args.place.now.dir.now) c.args.self.now.parsed.now.extra_hash_files) ≡ None = ap (λ names. first_missing (tree c.args.files.now) (map (join c.args.place.now.dir.now) names)) (sym c.as_slice-names.ensures) ∙ c.in_ok-extra.ensures.there in
    let missing = missing_input (call_on (tree c.extra_hashes.new.files)) in
    let same : missing_input p.call ≡ missing = ap (λ t. missing_input (call_on t)) (sym c.extra_hashes.ensures.untouched.tree) in
    let on_file = FailsOn tree failed fails_on c.args.files.now c.entry_key.new.files in
    let later = FailsOn tree failed fails_on c.extra_hashes.new.files c.entry_key.new.files in
    let device_in = FailsIn g.T.Preprocessor.meaning g.T.Preprocessor.failed g.T.Preprocessor.fails_in c.args.tool.now c.args.tool.now in
    let fault = c.in_err-entry_key.field-0.0 in
    on_exit (KeyCause (key_fault_of meaning p.call) on_file device_in) c.from_residual-in_err-entry_key.result fault c.from_residual-in_err-entry_key.ensures.1
    (file_cause (key_fault_of meaning p.call) missing on_file later device_in (since tree failed fails_on c.args.files.now c.extra_hashes.new.files c.entry_key.new.files c.extra_hashes.ensures.untouched.tree c.in_ok-extra.ensures.untouched.steady) (λ f e. input_first p there f (ap (option_map Read) same ∙ e)) fault c.in_err-entry_key.ensures.cause)

pub returns-in_err-text-clause-cause : goal.returns-in_err-text-clause-cause
returns-in_err-text-clause-cause g c =
    let tree = g.F.Files.tree in
    let failed = g.F.Files.failed in
    let fails_on = g.F.Files.fails_on in
    let meaning = g.T.Preprocessor.meaning c.args.tool.now in
    let call_on : Tree → KeyCall = λ t. call_by g.I.CCompilerImpl.kind_of g.I.CCompilerImpl.traits c.args.self.now c.args.place.now t in
    let p : PrintedCall = printed_call meaning (call_on (tree c.args.files.now)) in
    let there : first_missing (tree c.args.files.now) (map (join c.args.place.now.dir.now) c.args.self.now.parsed.now.extra_hash_files) ≡ None = ap (λ names. first_missing (tree c.args.files.now) (map (join c.args.place.now.dir.now) names)) (sym c.as_slice-names.ensures) ∙ c.in_ok-extra.ensures.there in
    let input : missing_input p.call ≡ None = ap (λ t. missing_input (call_on t)) (sym c.extra_hashes.ensures.untouched.tree) ∙ c.in_ok-entry_key.ensures.there in
    let trees : tree c.entry_key.new.files ≡ tree c.args.files.now = c.entry_key.ensures.untouched.tree ∙ c.extra_hashes.ensures.untouched.tree in
    let steady : failed c.entry_key.new.files ≡ failed c.args.files.now = c.in_ok-entry_key.ensures.untouched.steady ∙ c.in_ok-extra.ensures.untouched.steady in
    let device_in = FailsIn g.T.Preprocessor.meaning g.T.Preprocessor.failed g.T.Preprocessor.fails_in c.args.tool.now c.text.new.tool in
    let on_file = FailsOn tree failed fails_on c.args.files.now c.text.new.files in
    let later = FailsOn tree failed fails_on c.entry_key.new.files c.text.new.files in
    let fault = c.in_err-text.field-0.0 in
    on_exit (KeyCause (key_fault_of meaning p.call) on_file device_in) c.from_residual-in_err-text.result fault c.from_residual-in_err-text.ensures.1
    (cause_is (key_fault_of meaning p.call) (text_fault_of meaning (call_on (tree c.entry_key.new.files))) on_file later device_in fault (first_is p there input ∙ ap (λ t. text_fault_of meaning (call_on t)) (sym trees)) (since tree failed fails_on c.args.files.now c.entry_key.new.files c.text.new.files trees steady) c.in_err-text.ensures.cause)

pub returns-in_err-text-clause-early : goal.returns-in_err-text-clause-early
returns-in_err-text-clause-early g c some =
    let tree = g.F.Files.tree in
    let meaning = g.T.Preprocessor.meaning c.args.tool.now in
    let call_on : Tree → KeyCall = λ t. call_by g.I.CCompilerImpl.kind_of g.I.CCompilerImpl.traits c.args.self.now c.args.place.now t in
    let p : PrintedCall = printed_call meaning (call_on (tree c.args.files.now)) in
    let there : first_missing (tree c.args.files.now) (map (join c.args.place.now.dir.now) c.args.self.now.parsed.now.extra_hash_files) ≡ None = ap (λ names. first_missing (tree c.args.files.now) (map (join c.args.place.now.dir.now) names)) (sym c.as_slice-names.ensures) ∙ c.in_ok-extra.ensures.there in
    let input : missing_input p.call ≡ None = ap (λ t. missing_input (call_on t)) (sym c.extra_hashes.ensures.untouched.tree) ∙ c.in_ok-entry_key.ensures.there in
    absurd (some (none_early p there input))

pub returns-in_err-kept-clause-early : goal.returns-in_err-kept-clause-early
returns-in_err-kept-clause-early g c some =
    let tree = g.F.Files.tree in
    let meaning = g.T.Preprocessor.meaning c.args.tool.now in
    let call_on : Tree → KeyCall = λ t. call_by g.I.CCompilerImpl.kind_of g.I.CCompilerImpl.traits c.args.self.now c.args.place.now t in
    let p : PrintedCall = printed_call meaning (call_on (tree c.args.files.now)) in
    let there : first_missing (tree c.args.files.now) (map (join c.args.place.now.dir.now) c.args.self.now.parsed.now.extra_hash_files) ≡ None = ap (λ names. first_missing (tree c.args.files.now) (map (join c.args.place.now.dir.now) names)) (sym c.as_slice-names.ensures) ∙ c.in_ok-extra.ensures.there in
    let input : missing_input p.call ≡ None = ap (λ t. missing_input (call_on t)) (sym c.extra_hashes.ensures.untouched.tree) ∙ c.in_ok-entry_key.ensures.there in
    absurd (some (none_early p there input))

pub returns-in_err-bytes_of-clause-early : goal.returns-in_err-bytes_of-clause-early
returns-in_err-bytes_of-clause-early g c some =
    let tree = g.F.Files.tree in
    let meaning = g.T.Preprocessor.meaning c.args.tool.now in
    let call_on : Tree → KeyCall = λ t. call_by g.I.CCompilerImpl.kind_of g.I.CCompilerImpl.traits c.args.self.now c.args.place.now t in
    let p : PrintedCall = printed_call meaning (call_on (tree c.args.files.now)) in
    let there : first_missing (tree c.args.files.now) (map (join c.args.place.now.dir.now) c.args.self.now.parsed.now.extra_hash_files) ≡ None = ap (λ names. first_missing (tree c.args.files.now) (map (join c.args.place.now.dir.now) names)) (sym c.as_slice-names.ensures) ∙ c.in_ok-extra.ensures.there in
    let input : missing_input p.call ≡ None = ap (λ t. missing_input (call_on t)) (sym c.extra_hashes.ensures.untouched.tree) ∙ c.in_ok-entry_key.ensures.there in
    absurd (some (none_early p there input))

pub returns-in_err-into_owned-clause-early : goal.returns-in_err-into_owned-clause-early
returns-in_err-into_owned-clause-early g c some =
    let tree = g.F.Files.tree in
    let meaning = g.T.Preprocessor.meaning c.args.tool.now in
    let call_on : Tree → KeyCall = λ t. call_by g.I.CCompilerImpl.kind_of g.I.CCompilerImpl.traits c.args.self.now c.args.place.now t in
    let p : PrintedCall = printed_call meaning (call_on (tree c.args.files.now)) in
    let there : first_missing (tree c.args.files.now) (map (join c.args.place.now.dir.now) c.args.self.now.parsed.now.extra_hash_files) ≡ None = ap (λ names. first_missing (tree c.args.files.now) (map (join c.args.place.now.dir.now) names)) (sym c.as_slice-names.ensures) ∙ c.in_ok-extra.ensures.there in
    let input : missing_input p.call ≡ None = ap (λ t. missing_input (call_on t)) (sym c.extra_hashes.ensures.untouched.tree) ∙ c.in_ok-entry_key.ensures.there in
    absurd (some (none_early p there input))

pub returns-clause-early : goal.returns-clause-early
returns-clause-early g c some =
    let tree = g.F.Files.tree in
    let meaning = g.T.Preprocessor.meaning c.args.tool.now in
    let call_on : Tree → KeyCall = λ t. call_by g.I.CCompilerImpl.kind_of g.I.CCompilerImpl.traits c.args.self.now c.args.place.now t in
    let p : PrintedCall = printed_call meaning (call_on (tree c.args.files.now)) in
    let there : first_missing (tree c.args.files.now) (map (join c.args.place.now.dir.now) c.args.self.now.parsed.now.extra_hash_files) ≡ None = ap (λ names. first_missing (tree c.args.files.now) (map (join c.args.place.now.dir.now) names)) (sym c.as_slice-names.ensures) ∙ c.in_ok-extra.ensures.there in
    let input : missing_input p.call ≡ None = ap (λ t. missing_input (call_on t)) (sym c.extra_hashes.ensures.untouched.tree) ∙ c.in_ok-entry_key.ensures.there in
    absurd (some (none_early p there input))
