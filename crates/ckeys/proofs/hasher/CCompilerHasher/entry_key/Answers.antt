use Rattle.std.proofs.Common.{◌≡◌, sym, subst, ◌∙◌}
use Rattle.base_files.specs.Fails.{FailsOn}
use Rattle.ckeys_include_records.specs.Identity.{IdentityFits}
use Rattle.ckeys_include_records.specs.Sights.{SightsFit, seen_by, sights_of}
use Rattle.ckeys_include_records.specs.Telling.{entry_key_over}
use Rattle.ckeys.specs.Calls.{KeyCall, missing_input}
use Rattle.ckeys_records.specs.Faults.{FileCause}
use Rattle.ckeys.specs.Entries.{input_with}
use Rattle.ckeys.specs.Hashers.{call_by}
use Rattle.ckeys.proofs.AskLemmas.{asked_framed, asked_input, asked_key, both_fit, unasked_input, unasked_key}
use Rattle.ckeys_records.proofs.FaultLemmas.{on_exit}
use Rattle.ckeys.proofs.hasher.CCompilerHasher.entry_key.Goals as goal

pub returns-then-not-asks_records-clause-key : goal.returns-then-not-asks_records-clause-key
returns-then-not-asks_records-clause-key g c =
    let call : KeyCall = call_by g.I.CCompilerImpl.kind_of g.I.CCompilerImpl.traits c.args.self.now c.args.place.now (g.F.Files.tree c.args.files.now) in
    sym (unasked_key g.H.HashState.digest_of call (sym (c.asks_records.ensures (g.F.Files.tree c.args.files.now)) ∙ c.if-not-asks_records.true))

pub returns-then-not-asks_records-clause-there : goal.returns-then-not-asks_records-clause-there
returns-then-not-asks_records-clause-there g c =
    let call : KeyCall = call_by g.I.CCompilerImpl.kind_of g.I.CCompilerImpl.traits c.args.self.now c.args.place.now (g.F.Files.tree c.args.files.now) in
    unasked_input call (sym (c.asks_records.ensures (g.F.Files.tree c.args.files.now)) ∙ c.if-not-asks_records.true)

pub returns-in_err-input-clause-cause : goal.returns-in_err-input-clause-cause
returns-in_err-input-clause-cause g c =
    let call : KeyCall = call_by g.I.CCompilerImpl.kind_of g.I.CCompilerImpl.traits c.args.self.now c.args.place.now (g.F.Files.tree c.args.files.now) in
    let asks = sym (c.asks_records.ensures (g.F.Files.tree c.args.files.now)) ∙ c.if-not-asks_records.false in
    let on_file = FailsOn g.F.Files.tree g.F.Files.failed g.F.Files.fails_on c.args.files.now c.input_of.new.files in
    on_exit (FileCause (missing_input call) on_file) c.from_residual.result c.in_err-input.field-0.0 c.from_residual.ensures.1
    (subst (λ missing. FileCause missing on_file c.in_err-input.field-0.0) (sym (asked_input call asks)) c.in_err-input.ensures.cause)

pub returns-clause-key : goal.returns-clause-key
returns-clause-key g c =
    let digest = g.H.HashState.digest_of in
    let tree = g.F.Files.tree c.args.files.now in
    let call : KeyCall = call_by g.I.CCompilerImpl.kind_of g.I.CCompilerImpl.traits c.args.self.now c.args.place.now tree in
    let asks = sym (c.asks_records.ensures tree) ∙ c.if-not-asks_records.false in
    let seen_is : seen_by c.seen-seen.result ≡ input_with call c.in_ok-input.input.contents = λ i. record { contents = c.seen-seen.ensures.contents i; day = (c.seen-seen.ensures.day ∙ c.day.ensures) i; second = (c.seen-seen.ensures.second ∙ c.in_ok-input.ensures.second) i } in
    c.in_ok-entry_key.ensures.key
    ∙ (λ i. entry_key_over digest (c.asker.ensures tree i) (c.requires.extra i) (seen_is i))
    ∙ asked_key digest call c.in_ok-input.input.contents c.in_ok-input.ensures.contents asks

pub returns-clause-framed : goal.returns-clause-framed
returns-clause-framed g c =
    let digest = g.H.HashState.digest_of in
    let tree = g.F.Files.tree c.args.files.now in
    let call : KeyCall = call_by g.I.CCompilerImpl.kind_of g.I.CCompilerImpl.traits c.args.self.now c.args.place.now tree in
    let seen_is : seen_by c.seen-seen.result ≡ input_with call c.in_ok-input.input.contents = λ i. record { contents = c.seen-seen.ensures.contents i; day = (c.seen-seen.ensures.day ∙ c.day.ensures) i; second = (c.seen-seen.ensures.second ∙ c.in_ok-input.ensures.second) i } in
    both_fit c.in_ok-entry_key.field-0 (λ fits told. asked_framed digest call c.in_ok-input.input.contents c.in_ok-input.ensures.contents (subst IdentityFits (c.asker.ensures tree) fits) (subst SightsFit (λ i. sights_of digest (c.asker.ensures tree i) (c.requires.extra i) (seen_is i)) told)) c.in_ok-entry_key.ensures.identity c.in_ok-entry_key.ensures.sights
