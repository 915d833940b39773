use Rattle.std.proofs.Common.{◌≡◌, None, ap, filter, subst, ◌∙◌}
use Rattle.std.specs.List.{AllByRecursion}
use Rattle.base_files.specs.Fails.{FailsOn}
use Rattle.ckeys.specs.Calls.{KeyCall, early_fault_of, key_fault_of, record_of}
use Rattle.ckeys_records.specs.Faults.{KeyCause}
use Rattle.ckeys.specs.Entries.{extra_digests}
use Rattle.ckeys.specs.Hashers.{call_by}
use Rattle.ckeys_records.specs.Meaning.{FailsIn, Variables, names_of}
use Rattle.ckeys_records.specs.Params.{is_cached, stripped_words}
use Rattle.ckeys_records.specs.Records.{FitsLength}
use Rattle.cmdlines.specs.Compilers.{kind_in, traits_in}
use Rattle.wrap_base.specs.Commands.{digest_of as digest_in, found_of, traits_of}
use Rattle.wrap_keys.specs.Account.{call_at}
use Rattle.wrap_keys.specs.Verdicts.{hashed_words}
use Rattle.wrap_keys.proofs.KeyLemmas.{call_is, on_exit}
use Rattle.wrap_fingerprints.specs.declared.fingerprint.Fingerprint.TheVariants.{C}
use Rattle.wrap_fingerprints.proofs.fingerprint.c_fingerprint.Goals as goal

pub returns-in_err-made-clause-cause : goal.returns-in_err-made-clause-cause
returns-in_err-made-clause-cause g c =
    let meaning = g.T.Preprocessor.meaning c.args.tool.now in
    let tree = g.F.Files.tree c.args.files.now in
    let h = c.hasher-hasher.ensures in
    let p = c.place_of-place.ensures in
    let own : KeyCall = call_at (found_of c.args.compiler) c.args.request.now tree c.args.config.now c.args.parsed.now in
    let call : call_by kind_in traits_in c.hasher-hasher.result c.place_of-place.result tree ≡ own = call_is c.args.compiler c.args.request.now tree c.args.config.now c.args.parsed.now c.hasher-hasher.result c.place_of-place.result h.compiler h.executable h.digest h.parsed p.dir p.env p.moment p.config in
    let fault = c.in_err-made.field-0.0 in
    let on_file = FailsOn g.F.Files.tree g.F.Files.failed g.F.Files.fails_on c.args.files.now c.key_contents.new.files in
    let device_in = FailsIn g.T.Preprocessor.meaning g.T.Preprocessor.failed g.T.Preprocessor.fails_in c.args.tool.now c.key_contents.new.tool in
    on_exit (KeyCause (key_fault_of meaning own) on_file device_in) c.from_residual.result fault c.from_residual.ensures.1
    (subst (λ (k : KeyCall). KeyCause (key_fault_of meaning k) on_file device_in fault) call c.in_err-made.ensures.cause)

pub returns-clause-is : goal.returns-clause-is
returns-clause-is g c =
    let digest_of = g.H.HashState.digest_of in
    let meaning = g.T.Preprocessor.meaning c.args.tool.now in
    let tree = g.F.Files.tree c.args.files.now in
    let h = c.hasher-hasher.ensures in
    let p = c.place_of-place.ensures in
    let own : KeyCall = call_at (found_of c.args.compiler) c.args.request.now tree c.args.config.now c.args.parsed.now in
    let call : call_by kind_in traits_in c.hasher-hasher.result c.place_of-place.result tree ≡ own = call_is c.args.compiler c.args.request.now tree c.args.config.now c.args.parsed.now c.hasher-hasher.result c.place_of-place.result h.compiler h.executable h.digest h.parsed p.dir p.env p.moment p.config in
    let made = c.in_ok-made.ensures in
    let parsed = c.args.parsed.now in
    let traits = traits_of c.args.compiler in
    let extra = made.extra ∙ ap (extra_digests digest_of) call in
    let text = made.text ∙ ap (λ (k : KeyCall). (record_of meaning k).text) call in
    record {
      is = ap C (c.in_ok-c_parts.ensures ∙ (λ i. record {
        compiler = digest_in c.args.compiler;
        plusplus = traits.plusplus;
        language = parsed.language;
        words = stripped_words c.args.config.now.basedirs (hashed_words parsed);
        variables = filter is_cached c.args.request.now.env;
        extra_hashes = extra i;
        assembler = traits.assembler_digest;
        text = text i;
        names = names_of parsed.outputs;
      }));
      fine = subst (λ (k : KeyCall). key_fault_of meaning k ≡ None) call made.fine;
      told = record { words = c.stripped_words_lack_the_end.ensures c.args.config.now.basedirs (hashed_words c.args.parsed.now) c.requires.told; variables = subst (λ (env : Variables). AllByRecursion FitsLength (filter is_cached env)) p.env made.fit };
    }

pub returns-in_err-made-clause-early : goal.returns-in_err-made-clause-early
returns-in_err-made-clause-early g c =
    let tree = g.F.Files.tree c.args.files.now in
    let h = c.hasher-hasher.ensures in
    let p = c.place_of-place.ensures in
    let own : KeyCall = call_at (found_of c.args.compiler) c.args.request.now tree c.args.config.now c.args.parsed.now in
    let call : call_by kind_in traits_in c.hasher-hasher.result c.place_of-place.result tree ≡ own = call_is c.args.compiler c.args.request.now tree c.args.config.now c.args.parsed.now c.hasher-hasher.result c.place_of-place.result h.compiler h.executable h.digest h.parsed p.dir p.env p.moment p.config in
    subst (λ (k : KeyCall). (early_fault_of k ≡ None → ⊥) → g.T.Preprocessor.preprocessed c.key_contents.new.tool ≡ g.T.Preprocessor.preprocessed c.args.tool.now) call c.key_contents.ensures.early

pub returns-in_err-c_parts-clause-early : goal.returns-in_err-c_parts-clause-early
returns-in_err-c_parts-clause-early g c =
    let tree = g.F.Files.tree c.args.files.now in
    let h = c.hasher-hasher.ensures in
    let p = c.place_of-place.ensures in
    let own : KeyCall = call_at (found_of c.args.compiler) c.args.request.now tree c.args.config.now c.args.parsed.now in
    let call : call_by kind_in traits_in c.hasher-hasher.result c.place_of-place.result tree ≡ own = call_is c.args.compiler c.args.request.now tree c.args.config.now c.args.parsed.now c.hasher-hasher.result c.place_of-place.result h.compiler h.executable h.digest h.parsed p.dir p.env p.moment p.config in
    subst (λ (k : KeyCall). (early_fault_of k ≡ None → ⊥) → g.T.Preprocessor.preprocessed c.key_contents.new.tool ≡ g.T.Preprocessor.preprocessed c.args.tool.now) call c.key_contents.ensures.early

pub returns-clause-early : goal.returns-clause-early
returns-clause-early g c =
    let tree = g.F.Files.tree c.args.files.now in
    let h = c.hasher-hasher.ensures in
    let p = c.place_of-place.ensures in
    let own : KeyCall = call_at (found_of c.args.compiler) c.args.request.now tree c.args.config.now c.args.parsed.now in
    let call : call_by kind_in traits_in c.hasher-hasher.result c.place_of-place.result tree ≡ own = call_is c.args.compiler c.args.request.now tree c.args.config.now c.args.parsed.now c.hasher-hasher.result c.place_of-place.result h.compiler h.executable h.digest h.parsed p.dir p.env p.moment p.config in
    subst (λ (k : KeyCall). (early_fault_of k ≡ None → ⊥) → g.T.Preprocessor.preprocessed c.key_contents.new.tool ≡ g.T.Preprocessor.preprocessed c.args.tool.now) call c.key_contents.ensures.early
