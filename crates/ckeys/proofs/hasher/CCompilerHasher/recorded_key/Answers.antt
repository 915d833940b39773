use Rattle.std.proofs.Common.{◌≡◌, true, None, Some, List, string_bytes, ap, sym, subst, ◌∙◌, refl}
use Rattle.base_files.specs.Bytes.{Bytes}
use Rattle.base_files.specs.Fails.{FailsOn}
use Rattle.base_files.specs.Path.{join}
use Rattle.base_files.specs.Tree.{Tree}
use Rattle.ckeys_base.specs.Shelf.{Shelf}
use Rattle.ckeys.specs.Calls.{KeyCall, PrintedCall, printed_call, record_by, text_by, text_fault_by, text_fault_of, text_of}
use Rattle.ckeys_records.specs.Faults.{KeyCause}
use Rattle.ckeys.specs.Entries.{HasMatch, good_text, includes_by}
use Rattle.ckeys.specs.EntryTurns.{EntryTurn, IsGreatest, IsGreatestKnown, IsKnown, Keeps, KeyRecorded}
use Rattle.ckeys.specs.Hashers.{call_by, handed_by, looked_at}
use Rattle.ckeys_records.specs.Keys.{key_of}
use Rattle.ckeys_records.specs.Material.{shape_of}
use Rattle.ckeys_records.specs.Meaning.{FailsIn}
use Rattle.ckeys_records.specs.Params.{parts_handed}
use Rattle.ckeys.specs.Surroundings.{recorded_of}
use Rattle.ckeys_include_records.specs.contracts.entry_key.EntryKeyPartialEq.TheImpl as entry_eq
use Rattle.ckeys_include_records.specs.declared.entry_key.EntryKey.{EntryKey}
use Rattle.ckeys_include_records.specs.Records.{Record}
use Rattle.ckeys.proofs.CallLemmas.{cause_is, file_cause}
use Rattle.ckeys_records.proofs.FaultLemmas.{since, on_exit}
use Rattle.ckeys.proofs.EntryLemmas.{found_recorded, from_record, good_of, greatest_recorded, turn_asked, turn_kept, turn_missed}
use Rattle.ckeys.proofs.RecordLemmas.{has_key}
use Rattle.ckeys.proofs.hasher.CCompilerHasher.recorded_key.Goals as goal

pub returns-in_err-made-in-Missed-clause-cause : goal.returns-in_err-made-in-Missed-clause-cause
returns-in_err-made-in-Missed-clause-cause g c =
    let digest = g.H.HashState.digest_of in
    let tree = g.F.Files.tree in
    let failed = g.F.Files.failed in
    let fails_on = g.F.Files.fails_on in
    let meaning = g.T.Preprocessor.meaning c.args.tool.now in
    let call_on : Tree → KeyCall = λ t. call_by g.I.CCompilerImpl.kind_of g.I.CCompilerImpl.traits c.args.self.now c.args.place.now t in
    let p : PrintedCall = printed_call meaning (call_on (tree c.args.files.now)) in
    let old = g.E.Store.shelf c.args.entries.now in
    let asked = g.E.Store.shelf c.look_up.new.entries in
    let device_in = FailsIn g.T.Preprocessor.meaning g.T.Preprocessor.failed g.T.Preprocessor.fails_in c.args.tool.now c.text_key.new.tool in
    let on_file = FailsOn tree failed fails_on c.args.files.now c.text_key.new.files in
    let later = FailsOn tree failed fails_on c.look_up.new.files c.text_key.new.files in
    let fault = c.in_err-made-in-Missed.field-0.0 in
    on_exit (KeyCause (text_fault_by p) on_file device_in) c.from_residual-in_err-made-in-Missed.result fault c.from_residual-in_err-made-in-Missed.ensures.1
    (cause_is (text_fault_by p) (text_fault_of meaning (call_on (tree c.look_up.new.files))) on_file later device_in fault (ap (λ t. text_fault_of meaning (call_on t)) (sym c.look_up.ensures.untouched.tree)) (since tree failed fails_on c.args.files.now c.look_up.new.files c.text_key.new.files c.look_up.ensures.untouched.tree c.in_ok-key.ensures.untouched.steady) c.in_err-made-in-Missed.ensures.cause)

pub returns-in_err-made-in-Missed-clause-entries : goal.returns-in_err-made-in-Missed-clause-entries
returns-in_err-made-in-Missed-clause-entries g c =
    let digest = g.H.HashState.digest_of in
    let tree = g.F.Files.tree in
    let failed = g.F.Files.failed in
    let fails_on = g.F.Files.fails_on in
    let meaning = g.T.Preprocessor.meaning c.args.tool.now in
    let call_on : Tree → KeyCall = λ t. call_by g.I.CCompilerImpl.kind_of g.I.CCompilerImpl.traits c.args.self.now c.args.place.now t in
    let p : PrintedCall = printed_call meaning (call_on (tree c.args.files.now)) in
    let old = g.E.Store.shelf c.args.entries.now in
    let asked = g.E.Store.shelf c.look_up.new.entries in
    let known : IsKnown digest (looked_at c.args.place.now (tree c.args.files.now)) (asked.held c.args.entry_key) c.in_ok-key.field-0 = c.in_ok-key.ensures.found in
    let found = subst (IsKnown digest (looked_at c.args.place.now (tree c.args.files.now)) (asked.held c.args.entry_key)) c.in-Missed.is known in
    turn_missed digest p c.args.entry_key c.requires.entry c.requires.framed old asked c.look_up.ensures.asks found.1 _ _

pub returns-in_err-keep-in-Missed-clause-cause : goal.returns-in_err-keep-in-Missed-clause-cause
returns-in_err-keep-in-Missed-clause-cause g c =
    let digest = g.H.HashState.digest_of in
    let tree = g.F.Files.tree in
    let failed = g.F.Files.failed in
    let fails_on = g.F.Files.fails_on in
    let meaning = g.T.Preprocessor.meaning c.args.tool.now in
    let call_on : Tree → KeyCall = λ t. call_by g.I.CCompilerImpl.kind_of g.I.CCompilerImpl.traits c.args.self.now c.args.place.now t in
    let p : PrintedCall = printed_call meaning (call_on (tree c.args.files.now)) in
    let old = g.E.Store.shelf c.args.entries.now in
    let asked = g.E.Store.shelf c.look_up.new.entries in
    let device_in = FailsIn g.T.Preprocessor.meaning g.T.Preprocessor.failed g.T.Preprocessor.fails_in c.args.tool.now c.text_key.new.tool in
    let on_file = FailsOn tree failed fails_on c.args.files.now c.keep.new.files in
    let later = FailsOn tree failed fails_on c.text_key.new.files c.keep.new.files in
    let fault = c.in_err-keep-in-Missed.field-0.0 in
    on_exit (KeyCause (text_fault_by p) on_file device_in) c.from_residual-in_err-keep-in-Missed.result fault c.from_residual-in_err-keep-in-Missed.ensures.1
    (file_cause (text_fault_by p) None on_file later device_in (since tree failed fails_on c.args.files.now c.text_key.new.files c.keep.new.files (c.text_key.ensures.untouched.tree ∙ c.look_up.ensures.untouched.tree) (c.in_ok-made-in-Missed.ensures.untouched.steady.1 ∙ c.in_ok-key.ensures.untouched.steady)) (λ name e. cc) fault c.in_err-keep-in-Missed.ensures.cause)

pub returns-in_err-keep-in-Missed-clause-entries : goal.returns-in_err-keep-in-Missed-clause-entries
returns-in_err-keep-in-Missed-clause-entries g c =
    let digest = g.H.HashState.digest_of in
    let tree = g.F.Files.tree in
    let failed = g.F.Files.failed in
    let fails_on = g.F.Files.fails_on in
    let meaning = g.T.Preprocessor.meaning c.args.tool.now in
    let call_on : Tree → KeyCall = λ t. call_by g.I.CCompilerImpl.kind_of g.I.CCompilerImpl.traits c.args.self.now c.args.place.now t in
    let p : PrintedCall = printed_call meaning (call_on (tree c.args.files.now)) in
    let old = g.E.Store.shelf c.args.entries.now in
    let asked = g.E.Store.shelf c.look_up.new.entries in
    let known : IsKnown digest (looked_at c.args.place.now (tree c.args.files.now)) (asked.held c.args.entry_key) c.in_ok-key.field-0 = c.in_ok-key.ensures.found in
    let found = subst (IsKnown digest (looked_at c.args.place.now (tree c.args.files.now)) (asked.held c.args.entry_key)) c.in-Missed.is known in
    subst (λ (s : Shelf EntryKey Record). EntryTurn digest p old s (g.T.Preprocessor.preprocessed c.args.tool.now) (g.T.Preprocessor.preprocessed c.text_key.new.tool)) (sym c.in_err-keep-in-Missed.ensures.unkept) (turn_missed digest p c.args.entry_key c.requires.entry c.requires.framed old asked c.look_up.ensures.asks found.1 _ _)

pub returns-in_ok-shape-in-Found-clause-shape : goal.returns-in_ok-shape-in-Found-clause-shape
returns-in_ok-shape-in-Found-clause-shape g c =
    let meaning = g.T.Preprocessor.meaning c.args.tool.now in
    let call = call_by g.I.CCompilerImpl.kind_of g.I.CCompilerImpl.traits c.args.self.now c.args.place.now (g.F.Files.tree c.args.files.now) in
    c.in_ok-shape-in-Found.ensures.shape (text_of meaning call) ∙ ap (λ (hashes : List Bytes). shape_of (parts_handed (handed_by g.I.CCompilerImpl.traits c.args.self.now c.args.place.now.env.now c.args.place.now.config.now.basedirs hashes (text_of meaning call)))) c.requires.extra

pub returns-in_ok-keep-in-Missed-clause-entries : goal.returns-in_ok-keep-in-Missed-clause-entries
returns-in_ok-keep-in-Missed-clause-entries g c =
    let digest = g.H.HashState.digest_of in
    let tree = g.F.Files.tree in
    let failed = g.F.Files.failed in
    let fails_on = g.F.Files.fails_on in
    let meaning = g.T.Preprocessor.meaning c.args.tool.now in
    let call_on : Tree → KeyCall = λ t. call_by g.I.CCompilerImpl.kind_of g.I.CCompilerImpl.traits c.args.self.now c.args.place.now t in
    let p : PrintedCall = printed_call meaning (call_on (tree c.args.files.now)) in
    let old = g.E.Store.shelf c.args.entries.now in
    let asked = g.E.Store.shelf c.look_up.new.entries in
    let known : IsKnown digest (looked_at c.args.place.now (tree c.args.files.now)) (asked.held c.args.entry_key) c.in_ok-key.field-0 = c.in_ok-key.ensures.found in
    let found = subst (IsKnown digest (looked_at c.args.place.now (tree c.args.files.now)) (asked.held c.args.entry_key)) c.in-Missed.is known in
    let mid = tree c.text_key.new.files in
    let trees : mid ≡ tree c.args.files.now = c.text_key.ensures.untouched.tree ∙ c.look_up.ensures.untouched.tree in
    let made = c.in_ok-made-in-Missed.made in
    let has = (has_key digest p.call c.args.entry_key c.requires.entry).0 in
    let text : made.text ≡ text_by p = c.in_ok-made-in-Missed.ensures.text ∙ ap (λ t. text_of meaning (call_on t)) c.look_up.ensures.untouched.tree in
    let fine : text_fault_by p ≡ None = ap (λ t. text_fault_of meaning (call_on t)) (sym c.look_up.ensures.untouched.tree) ∙ c.in_ok-made-in-Missed.ensures.fine in
    let good : good_text p.printed ≡ Some made.text = good_of p has fine ∙ ap Some (sym text) in
    let is_key : string_bytes made.key ≡ key_of digest (record_by p) = c.in_ok-made-in-Missed.ensures.key ∙ ap (λ t. key_of digest (record_by (printed_call meaning (call_on t)))) c.look_up.ensures.untouched.tree in
    let keeps : Keeps entry_eq.ghosts.eq c.args.entry_key c.in-Missed.record.results (string_bytes made.key) (includes_by digest p.call made.text) asked (g.E.Store.shelf c.keep.new.entries) = subst (λ t. Keeps entry_eq.ghosts.eq c.args.entry_key c.in-Missed.record.results (string_bytes made.key) (recorded_of (looked_at c.args.place.now t) digest (join c.args.place.now.dir.now c.args.self.now.parsed.now.input) made.text) asked (g.E.Store.shelf c.keep.new.entries)) trees c.in_ok-keep-in-Missed.ensures.keeps in
    let both = turn_kept digest p c.args.entry_key c.requires.entry c.requires.framed old asked c.look_up.ensures.asks found.1 entry_eq.ghosts.eq (λ a b. (c.entry_keys_are_their_fields.ensures a b).0) c.in-Missed.record.results found.0 (g.E.Store.shelf c.keep.new.entries) (g.T.Preprocessor.preprocessed c.args.tool.now) (g.T.Preprocessor.preprocessed c.text_key.new.tool) made.text (string_bytes made.key) good is_key (includes_by digest p.call made.text) refl keeps in
    both.0

pub returns-in_ok-keep-in-Missed-clause-recorded : goal.returns-in_ok-keep-in-Missed-clause-recorded
returns-in_ok-keep-in-Missed-clause-recorded g c =
    let digest = g.H.HashState.digest_of in
    let tree = g.F.Files.tree in
    let failed = g.F.Files.failed in
    let fails_on = g.F.Files.fails_on in
    let meaning = g.T.Preprocessor.meaning c.args.tool.now in
    let call_on : Tree → KeyCall = λ t. call_by g.I.CCompilerImpl.kind_of g.I.CCompilerImpl.traits c.args.self.now c.args.place.now t in
    let p : PrintedCall = printed_call meaning (call_on (tree c.args.files.now)) in
    let old = g.E.Store.shelf c.args.entries.now in
    let asked = g.E.Store.shelf c.look_up.new.entries in
    let known : IsKnown digest (looked_at c.args.place.now (tree c.args.files.now)) (asked.held c.args.entry_key) c.in_ok-key.field-0 = c.in_ok-key.ensures.found in
    let found = subst (IsKnown digest (looked_at c.args.place.now (tree c.args.files.now)) (asked.held c.args.entry_key)) c.in-Missed.is known in
    let mid = tree c.text_key.new.files in
    let trees : mid ≡ tree c.args.files.now = c.text_key.ensures.untouched.tree ∙ c.look_up.ensures.untouched.tree in
    let made = c.in_ok-made-in-Missed.made in
    let has = (has_key digest p.call c.args.entry_key c.requires.entry).0 in
    let text : made.text ≡ text_by p = c.in_ok-made-in-Missed.ensures.text ∙ ap (λ t. text_of meaning (call_on t)) c.look_up.ensures.untouched.tree in
    let fine : text_fault_by p ≡ None = ap (λ t. text_fault_of meaning (call_on t)) (sym c.look_up.ensures.untouched.tree) ∙ c.in_ok-made-in-Missed.ensures.fine in
    let good : good_text p.printed ≡ Some made.text = good_of p has fine ∙ ap Some (sym text) in
    let is_key : string_bytes made.key ≡ key_of digest (record_by p) = c.in_ok-made-in-Missed.ensures.key ∙ ap (λ t. key_of digest (record_by (printed_call meaning (call_on t)))) c.look_up.ensures.untouched.tree in
    let keeps : Keeps entry_eq.ghosts.eq c.args.entry_key c.in-Missed.record.results (string_bytes made.key) (includes_by digest p.call made.text) asked (g.E.Store.shelf c.keep.new.entries) = subst (λ t. Keeps entry_eq.ghosts.eq c.args.entry_key c.in-Missed.record.results (string_bytes made.key) (recorded_of (looked_at c.args.place.now t) digest (join c.args.place.now.dir.now c.args.self.now.parsed.now.input) made.text) asked (g.E.Store.shelf c.keep.new.entries)) trees c.in_ok-keep-in-Missed.ensures.keeps in
    let both = turn_kept digest p c.args.entry_key c.requires.entry c.requires.framed old asked c.look_up.ensures.asks found.1 entry_eq.ghosts.eq (λ a b. (c.entry_keys_are_their_fields.ensures a b).0) c.in-Missed.record.results found.0 (g.E.Store.shelf c.keep.new.entries) (g.T.Preprocessor.preprocessed c.args.tool.now) (g.T.Preprocessor.preprocessed c.text_key.new.tool) made.text (string_bytes made.key) good is_key (includes_by digest p.call made.text) refl keeps in
    both.1

pub returns-in_err-shape-in-Found-clause-entries : goal.returns-in_err-shape-in-Found-clause-entries
returns-in_err-shape-in-Found-clause-entries g c =
    let digest = g.H.HashState.digest_of in
    let tree = g.F.Files.tree in
    let call_on : Tree → KeyCall = λ t. call_by g.I.CCompilerImpl.kind_of g.I.CCompilerImpl.traits c.args.self.now c.args.place.now t in
    let p : PrintedCall = printed_call (g.T.Preprocessor.meaning c.args.tool.now) (call_on (tree c.args.files.now)) in
    let old = g.E.Store.shelf c.args.entries.now in
    let asked = g.E.Store.shelf c.look_up.new.entries in
    turn_asked digest p c.args.entry_key c.requires.entry c.requires.framed old asked c.look_up.ensures.asks _ _ refl

pub returns-in_ok-shape-in-Found-clause-entries : goal.returns-in_ok-shape-in-Found-clause-entries
returns-in_ok-shape-in-Found-clause-entries g c =
    let digest = g.H.HashState.digest_of in
    let tree = g.F.Files.tree in
    let call_on : Tree → KeyCall = λ t. call_by g.I.CCompilerImpl.kind_of g.I.CCompilerImpl.traits c.args.self.now c.args.place.now t in
    let p : PrintedCall = printed_call (g.T.Preprocessor.meaning c.args.tool.now) (call_on (tree c.args.files.now)) in
    let old = g.E.Store.shelf c.args.entries.now in
    let asked = g.E.Store.shelf c.look_up.new.entries in
    turn_asked digest p c.args.entry_key c.requires.entry c.requires.framed old asked c.look_up.ensures.asks _ _ refl

pub returns-in_ok-shape-in-Found-clause-key : goal.returns-in_ok-shape-in-Found-clause-key
returns-in_ok-shape-in-Found-clause-key g c =
    let digest = g.H.HashState.digest_of in
    let tree = g.F.Files.tree in
    let call_on : Tree → KeyCall = λ t. call_by g.I.CCompilerImpl.kind_of g.I.CCompilerImpl.traits c.args.self.now c.args.place.now t in
    let p : PrintedCall = printed_call (g.T.Preprocessor.meaning c.args.tool.now) (call_on (tree c.args.files.now)) in
    let old = g.E.Store.shelf c.args.entries.now in
    let asked = g.E.Store.shelf c.look_up.new.entries in
    let known : IsKnown digest (looked_at c.args.place.now (tree c.args.files.now)) (asked.held c.args.entry_key) c.in_ok-key.field-0 = c.in_ok-key.ensures.found in
    let found = subst (IsKnown digest (looked_at c.args.place.now (tree c.args.files.now)) (asked.held c.args.entry_key)) c.in-Found.is known in
    (c.requires.framed, subst (HasMatch digest p.call old.held) (sym c.into_string.ensures) (from_record digest p c.args.entry_key c.requires.entry c.requires.framed old asked c.look_up.ensures.asks c.in-Found.key found))

pub returns-in_ok-shape-in-Found-clause-recorded : goal.returns-in_ok-shape-in-Found-clause-recorded
returns-in_ok-shape-in-Found-clause-recorded g c =
    let digest = g.H.HashState.digest_of in
    let tree = g.F.Files.tree in
    let call_on : Tree → KeyCall = λ t. call_by g.I.CCompilerImpl.kind_of g.I.CCompilerImpl.traits c.args.self.now c.args.place.now t in
    let p : PrintedCall = printed_call (g.T.Preprocessor.meaning c.args.tool.now) (call_on (tree c.args.files.now)) in
    let old = g.E.Store.shelf c.args.entries.now in
    let asked = g.E.Store.shelf c.look_up.new.entries in
    let known : IsKnown digest (looked_at c.args.place.now (tree c.args.files.now)) (asked.held c.args.entry_key) c.in_ok-key.field-0 = c.in_ok-key.ensures.found in
    let found = subst (IsKnown digest (looked_at c.args.place.now (tree c.args.files.now)) (asked.held c.args.entry_key)) c.in-Found.is known in
    subst (KeyRecorded digest p old asked true) (sym c.into_string.ensures) (found_recorded digest p c.args.entry_key c.requires.entry c.requires.framed old asked c.look_up.ensures.asks c.in-Found.key found)

pub returns-in_ok-shape-in-Found-clause-greatest : goal.returns-in_ok-shape-in-Found-clause-greatest
returns-in_ok-shape-in-Found-clause-greatest g c =
    let digest = g.H.HashState.digest_of in
    let tree = g.F.Files.tree in
    let call_on : Tree → KeyCall = λ t. call_by g.I.CCompilerImpl.kind_of g.I.CCompilerImpl.traits c.args.self.now c.args.place.now t in
    let p : PrintedCall = printed_call (g.T.Preprocessor.meaning c.args.tool.now) (call_on (tree c.args.files.now)) in
    let old = g.E.Store.shelf c.args.entries.now in
    let asked = g.E.Store.shelf c.look_up.new.entries in
    let at = looked_at c.args.place.now (tree c.args.files.now) in
    let found = subst (IsKnown digest at (asked.held c.args.entry_key)) c.in-Found.is c.in_ok-key.ensures.found in
    let none = subst (IsGreatestKnown digest at (asked.held c.args.entry_key)) c.in-Found.is c.in_ok-key.ensures.greatest in
    subst (IsGreatest digest p old.held) (sym c.into_string.ensures) (greatest_recorded digest p c.args.entry_key c.requires.entry c.requires.framed old asked c.look_up.ensures.asks c.in-Found.key found none)
