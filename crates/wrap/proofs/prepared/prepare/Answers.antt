use Rattle.std.specs.declared.alloc.Global.{Global}
use Rattle.std.specs.declared.vec.Vec.{Vec}
use Rattle.std.specs.List.{AllByRecursion}
use Rattle.std.proofs.Common.{◌≡◌, ℕ, None, ap, filter, refl, rules, string_bytes, subst, ◌∙◌, to_z, of_z, w64}
use Rattle.base_files.specs.Fails.{FailsOn}
use Rattle.ckeys.specs.Calls.{KeyCall, early_fault_of, key_fault_of, printed_call, record_of}
use Rattle.ckeys.specs.EntryTurns.{KeyFine}
use Rattle.ckeys.specs.Hashers.{call_by}
use Rattle.ckeys_records.specs.Faults.{KeyCause}
use Rattle.ckeys_records.specs.Keys as keys
use Rattle.ckeys_records.specs.Meaning.{FailsIn, Variables, names_of}
use Rattle.ckeys_records.specs.Params.{is_cached}
use Rattle.ckeys_records.specs.Records.{FitsLength}
use Rattle.wrap_keys.specs.Account.{call_at, work_at}
use Rattle.wrap_keys.specs.Verdicts.{hashed_words}
use Rattle.wrap_keys.proofs.KeyLemmas.{call_is, on_exit}
use Rattle.cmdlines.specs.Compilers.{kind_in, traits_in}
use Rattle.wrap_base.specs.Commands.{found_of}
use Rattle.wrap_base.specs.declared.store_key.Family.TheVariants.{C}
use Rattle.wrap_base.specs.declared.store_key.Shape.TheVariants as shapes
use Rattle.wrap.proofs.PrepareLemmas.{entries_by, key_from, recorded_by, unkeyed_exit, unkeyed_memory}
use Rattle.wrap.proofs.StepLemmas.{makes_then, plan_makes}
use Rattle.wrap.proofs.TurnLemmas.{has_direct}
use Rattle.wrap.proofs.prepared.prepare.Goals as goal

pub returns-in_err-digest-clause-cause : goal.returns-in_err-digest-clause-cause
returns-in_err-digest-clause-cause g c =
    let meaning = g.T.Preprocessor.meaning c.args.tool.now in
    let tree = g.F.Files.tree c.args.files.now in
    let h = c.hasher-hasher.ensures in
    let p = c.place_of-place.ensures in
    let own : KeyCall = call_at (found_of c.args.compiler) c.args.request.now tree c.args.config.now c.args.plan.now.parsed in
    let call : call_by kind_in traits_in c.hasher-hasher.result c.place_of-place.result tree ≡ own = call_is c.args.compiler c.args.request.now tree c.args.config.now c.args.plan.now.parsed c.hasher-hasher.result c.place_of-place.result h.compiler h.executable h.digest h.parsed p.dir p.env p.moment p.config in
    let fault = c.in_err-digest.field-0.0 in
    let on_file = FailsOn g.F.Files.tree g.F.Files.failed g.F.Files.fails_on c.args.files.now c.generate_hash_key.new.files in
    let device_in = FailsIn g.T.Preprocessor.meaning g.T.Preprocessor.failed g.T.Preprocessor.fails_in c.args.tool.now c.generate_hash_key.new.tool in
    on_exit (KeyCause (key_fault_of meaning own) on_file device_in) c.from_residual.result fault c.from_residual.ensures.1
    (subst (λ (k : KeyCall). KeyCause (key_fault_of meaning k) on_file device_in fault) call c.in_err-digest.ensures.cause)

pub returns-in_err-digest-clause-entries : goal.returns-in_err-digest-clause-entries
returns-in_err-digest-clause-entries g c =
    let digest_of = g.H.HashState.digest_of in
    let meaning = g.T.Preprocessor.meaning c.args.tool.now in
    let tree = g.F.Files.tree c.args.files.now in
    let h = c.hasher-hasher.ensures in
    let p = c.place_of-place.ensures in
    let own : KeyCall = call_at (found_of c.args.compiler) c.args.request.now tree c.args.config.now c.args.plan.now.parsed in
    let call : call_by kind_in traits_in c.hasher-hasher.result c.place_of-place.result tree ≡ own = call_is c.args.compiler c.args.request.now tree c.args.config.now c.args.plan.now.parsed c.hasher-hasher.result c.place_of-place.result h.compiler h.executable h.digest h.parsed p.dir p.env p.moment p.config in
    entries_by digest_of meaning _ own call _ _ _ _ c.generate_hash_key.ensures.entries

pub returns-in_err-names-clause-entries : goal.returns-in_err-names-clause-entries
returns-in_err-names-clause-entries g c =
    let digest_of = g.H.HashState.digest_of in
    let meaning = g.T.Preprocessor.meaning c.args.tool.now in
    let tree = g.F.Files.tree c.args.files.now in
    let h = c.hasher-hasher.ensures in
    let p = c.place_of-place.ensures in
    let own : KeyCall = call_at (found_of c.args.compiler) c.args.request.now tree c.args.config.now c.args.plan.now.parsed in
    let call : call_by kind_in traits_in c.hasher-hasher.result c.place_of-place.result tree ≡ own = call_is c.args.compiler c.args.request.now tree c.args.config.now c.args.plan.now.parsed c.hasher-hasher.result c.place_of-place.result h.compiler h.executable h.digest h.parsed p.dir p.env p.moment p.config in
    entries_by digest_of meaning _ own call _ _ _ _ c.generate_hash_key.ensures.entries

pub returns-clause-entries : goal.returns-clause-entries
returns-clause-entries g c =
    let digest_of = g.H.HashState.digest_of in
    let meaning = g.T.Preprocessor.meaning c.args.tool.now in
    let tree = g.F.Files.tree c.args.files.now in
    let h = c.hasher-hasher.ensures in
    let p = c.place_of-place.ensures in
    let own : KeyCall = call_at (found_of c.args.compiler) c.args.request.now tree c.args.config.now c.args.plan.now.parsed in
    let call : call_by kind_in traits_in c.hasher-hasher.result c.place_of-place.result tree ≡ own = call_is c.args.compiler c.args.request.now tree c.args.config.now c.args.plan.now.parsed c.hasher-hasher.result c.place_of-place.result h.compiler h.executable h.digest h.parsed p.dir p.env p.moment p.config in
    entries_by digest_of meaning _ own call _ _ _ _ c.generate_hash_key.ensures.entries

pub returns-clause-from : goal.returns-clause-from
returns-clause-from g c =
    let digest_of = g.H.HashState.digest_of in
    let meaning = g.T.Preprocessor.meaning c.args.tool.now in
    let tree = g.F.Files.tree c.args.files.now in
    let h = c.hasher-hasher.ensures in
    let p = c.place_of-place.ensures in
    let own : KeyCall = call_at (found_of c.args.compiler) c.args.request.now tree c.args.config.now c.args.plan.now.parsed in
    let call : call_by kind_in traits_in c.hasher-hasher.result c.place_of-place.result tree ≡ own = call_is c.args.compiler c.args.request.now tree c.args.config.now c.args.plan.now.parsed c.hasher-hasher.result c.place_of-place.result h.compiler h.executable h.digest h.parsed p.dir p.env p.moment p.config in
    let text : c.from_vec.result ≡ string_bytes c.in_ok-digest.digest = c.from_vec.ensures ∙ ap (λ (v : Vec ℕ Global). v.items) c.into_bytes.ensures.value in
    key_from digest_of meaning _ own call (g.E.Store.shelf c.args.entries.now).held c.in_ok-digest.from_record _ c.from_vec.result text c.in_ok-digest.ensures.key

pub returns-clause-fine : goal.returns-clause-fine
returns-clause-fine g c =
    let meaning = g.T.Preprocessor.meaning c.args.tool.now in
    let tree = g.F.Files.tree c.args.files.now in
    let h = c.hasher-hasher.ensures in
    let p = c.place_of-place.ensures in
    let own : KeyCall = call_at (found_of c.args.compiler) c.args.request.now tree c.args.config.now c.args.plan.now.parsed in
    let call : call_by kind_in traits_in c.hasher-hasher.result c.place_of-place.result tree ≡ own = call_is c.args.compiler c.args.request.now tree c.args.config.now c.args.plan.now.parsed c.hasher-hasher.result c.place_of-place.result h.compiler h.executable h.digest h.parsed p.dir p.env p.moment p.config in
    subst (λ (k : KeyCall). KeyFine (printed_call meaning k) c.in_ok-digest.from_record) call c.in_ok-digest.ensures.fine

pub returns-clause-recorded : goal.returns-clause-recorded
returns-clause-recorded g c =
    let digest_of = g.H.HashState.digest_of in
    let meaning = g.T.Preprocessor.meaning c.args.tool.now in
    let tree = g.F.Files.tree c.args.files.now in
    let h = c.hasher-hasher.ensures in
    let p = c.place_of-place.ensures in
    let own : KeyCall = call_at (found_of c.args.compiler) c.args.request.now tree c.args.config.now c.args.plan.now.parsed in
    let call : call_by kind_in traits_in c.hasher-hasher.result c.place_of-place.result tree ≡ own = call_is c.args.compiler c.args.request.now tree c.args.config.now c.args.plan.now.parsed c.hasher-hasher.result c.place_of-place.result h.compiler h.executable h.digest h.parsed p.dir p.env p.moment p.config in
    let text : c.from_vec.result ≡ string_bytes c.in_ok-digest.digest = c.from_vec.ensures ∙ ap (λ (v : Vec ℕ Global). v.items) c.into_bytes.ensures.value in
    recorded_by digest_of meaning _ own call (g.E.Store.shelf c.args.entries.now) (g.E.Store.shelf c.generate_hash_key.new.entries) c.in_ok-digest.from_record _ c.from_vec.result text c.in_ok-digest.ensures.recorded

pub returns-clause-prepared : goal.returns-clause-prepared
returns-clause-prepared g c =
    let digest_of = g.H.HashState.digest_of in
    let meaning = g.T.Preprocessor.meaning c.args.tool.now in
    let tree = g.F.Files.tree c.args.files.now in
    let h = c.hasher-hasher.ensures in
    let p = c.place_of-place.ensures in
    let own : KeyCall = call_at (found_of c.args.compiler) c.args.request.now tree c.args.config.now c.args.plan.now.parsed in
    let call : call_by kind_in traits_in c.hasher-hasher.result c.place_of-place.result tree ≡ own = call_is c.args.compiler c.args.request.now tree c.args.config.now c.args.plan.now.parsed c.hasher-hasher.result c.place_of-place.result h.compiler h.executable h.digest h.parsed p.dir p.env p.moment p.config in
    let text : c.from_vec.result ≡ string_bytes c.in_ok-digest.digest = c.from_vec.ensures ∙ ap (λ (v : Vec ℕ Global). v.items) c.into_bytes.ensures.value in
    let w = work_at meaning own in
    let shape = c.in_ok-digest.ensures.shape ∙ ap (λ (k : KeyCall). keys.record_shape digest_of (record_of meaning k)) call in
    let names = c.in_ok-names.ensures ∙ ap names_of c.as_slice-outputs.ensures in
    let from = key_from digest_of meaning _ own call (g.E.Store.shelf c.args.entries.now).held c.in_ok-digest.from_record _ c.from_vec.result text c.in_ok-digest.ensures.key in
    let moment : to_z w64 (of_z w64 c.args.request.now.moment) ≡ c.args.request.now.moment = search rules in
    record {
      is_key = λ i. record { family = C; shape = shapes.C (shape i); names = names i; digest = c.from_vec.result };
      told = record {
        words = c.stripped_words_lack_the_end.ensures c.args.config.now.basedirs (hashed_words c.args.plan.now.parsed) c.requires.plan.told;
        variables = subst (λ (env : Variables). AllByRecursion FitsLength (filter is_cached env)) p.env c.in_ok-digest.ensures.fit;
      };
      makes = makes_then _ _ _ _ _ _ _ w moment (plan_makes meaning _ tree _ (found_of c.args.compiler) c.args.request.now c.args.plan.now.parsed c.args.config.now _ _ _ c.kind.ensures c.requires.plan.compile c.as_slice-outputs.ensures c.generate_hash_key.ensures.untouched.meaning c.generate_hash_key.ensures.untouched.tree);
      direct = has_direct digest_of w (g.E.Store.shelf c.args.entries.now).held c.in_ok-digest.from_record c.from_vec.result from;
      dep_info = refl;
    }

pub returns-in_err-digest-clause-early : goal.returns-in_err-digest-clause-early
returns-in_err-digest-clause-early g c =
    let tree = g.F.Files.tree c.args.files.now in
    let h = c.hasher-hasher.ensures in
    let p = c.place_of-place.ensures in
    let own : KeyCall = call_at (found_of c.args.compiler) c.args.request.now tree c.args.config.now c.args.plan.now.parsed in
    let call : call_by kind_in traits_in c.hasher-hasher.result c.place_of-place.result tree ≡ own = call_is c.args.compiler c.args.request.now tree c.args.config.now c.args.plan.now.parsed c.hasher-hasher.result c.place_of-place.result h.compiler h.executable h.digest h.parsed p.dir p.env p.moment p.config in
    subst (λ (k : KeyCall). (early_fault_of k ≡ None → ⊥) → g.T.Preprocessor.preprocessed c.generate_hash_key.new.tool ≡ g.T.Preprocessor.preprocessed c.args.tool.now) call c.generate_hash_key.ensures.early

pub returns-in_err-names-clause-early : goal.returns-in_err-names-clause-early
returns-in_err-names-clause-early g c =
    let tree = g.F.Files.tree c.args.files.now in
    let h = c.hasher-hasher.ensures in
    let p = c.place_of-place.ensures in
    let own : KeyCall = call_at (found_of c.args.compiler) c.args.request.now tree c.args.config.now c.args.plan.now.parsed in
    let call : call_by kind_in traits_in c.hasher-hasher.result c.place_of-place.result tree ≡ own = call_is c.args.compiler c.args.request.now tree c.args.config.now c.args.plan.now.parsed c.hasher-hasher.result c.place_of-place.result h.compiler h.executable h.digest h.parsed p.dir p.env p.moment p.config in
    subst (λ (k : KeyCall). (early_fault_of k ≡ None → ⊥) → g.T.Preprocessor.preprocessed c.generate_hash_key.new.tool ≡ g.T.Preprocessor.preprocessed c.args.tool.now) call c.generate_hash_key.ensures.early

pub returns-clause-early : goal.returns-clause-early
returns-clause-early g c =
    let tree = g.F.Files.tree c.args.files.now in
    let h = c.hasher-hasher.ensures in
    let p = c.place_of-place.ensures in
    let own : KeyCall = call_at (found_of c.args.compiler) c.args.request.now tree c.args.config.now c.args.plan.now.parsed in
    let call : call_by kind_in traits_in c.hasher-hasher.result c.place_of-place.result tree ≡ own = call_is c.args.compiler c.args.request.now tree c.args.config.now c.args.plan.now.parsed c.hasher-hasher.result c.place_of-place.result h.compiler h.executable h.digest h.parsed p.dir p.env p.moment p.config in
    subst (λ (k : KeyCall). (early_fault_of k ≡ None → ⊥) → g.T.Preprocessor.preprocessed c.generate_hash_key.new.tool ≡ g.T.Preprocessor.preprocessed c.args.tool.now) call c.generate_hash_key.ensures.early

pub returns-in_err-digest-clause-unput : goal.returns-in_err-digest-clause-unput
returns-in_err-digest-clause-unput g c = unkeyed_exit _ c.from_residual.result c.in_err-digest.ensures.unput

pub returns-in_err-names-clause-unput : goal.returns-in_err-names-clause-unput
returns-in_err-names-clause-unput g c = unkeyed_memory _ c.from_residual-in_err-names.result c.from_residual-in_err-names.ensures.1
