use Rattle.std.proofs.Common.{◌≡◌, None, ap, subst, ◌∙◌}
use Rattle.base_files.specs.Fails.{FailsOn}
use Rattle.ckeys_records.specs.Faults.{KeyCause}
use Rattle.ckeys_records.specs.Meaning.{AtMostOnce, FailsIn, Variables, names_of, scene_with}
use Rattle.ckeys_records.specs.declared.fault.Fault.TheVariants.{Memory}
use Rattle.rustc_options.specs.Asks.{asks_in}
use Rattle.rustkeys.specs.Calls.{RustCall, dep_info_fault_of, key_fault_of, record_of}
use Rattle.rustkeys.specs.Fresh.{call_outputs}
use Rattle.rustkeys.specs.Hashers.{known_of}
use Rattle.rustkeys.specs.Questions.{Question, dep_info_of}
use Rattle.rustkeys.specs.Records.{IsTold, parts_of}
use Rattle.wrap_keys.specs.Account.{rust_call_at}
use Rattle.wrap_keys.proofs.KeyLemmas.{on_exit}
use Rattle.wrap_fingerprints.specs.declared.fingerprint.Fingerprint.TheVariants.{Rustc}
use Rattle.wrap_fingerprints.proofs.fingerprint.rust_fingerprint.Goals as goal

pub returns-in_err-by_compilation-clause-cause : goal.returns-in_err-by_compilation-clause-cause
returns-in_err-by_compilation-clause-cause g c =
    let meaning = g.T.Preprocessor.meaning c.args.tool.now in
    let tree = g.F.Files.tree c.args.files.now in
    let own = rust_call_at c.args.rust.now c.args.request.now tree (asks_in c.args.parsed.now) in
    let on_file = FailsOn g.F.Files.tree g.F.Files.failed g.F.Files.fails_on c.args.files.now c.generate_hash_key.new.files in
    let device_in = FailsIn g.T.Preprocessor.meaning g.T.Preprocessor.failed g.T.Preprocessor.fails_in c.args.tool.now c.generate_hash_key.new.answers in
    on_exit (KeyCause (key_fault_of meaning own) on_file device_in) c.from_residual-in_err-by_compilation.result Memory c.from_residual-in_err-by_compilation.ensures.1 tt

pub returns-clause-is : goal.returns-clause-is
returns-clause-is g c =
    let digest_of = g.H.HashState.digest_of in
    let meaning = g.T.Preprocessor.meaning c.args.tool.now in
    let tree = g.F.Files.tree c.args.files.now in
    let rust = c.args.rust.now in
    let request = c.args.request.now in
    let asked = asks_in c.args.parsed.now in
    let under : Variables → RustCall = λ env. record { known = known_of rust; question = record { asks = asked; scene = scene_with rust.executable request.dir env tree request.moment } } in
    let call : under c.as_slice-env.result.now ≡ under request.env = ap under c.as_slice-env.ensures in
    let made = c.in_ok-compilation.ensures in
    let parts = made.parts request.moment ∙ ap (λ (k : RustCall). parts_of digest_of (record_of meaning k)) call in
    let outputs = made.outputs request.moment ∙ ap (call_outputs meaning) call in
    let names = ap names_of outputs in
    record {
      is = c.in_ok-by_compilation.ensures ∙ (λ i. Rustc (parts i) (names i));
      fine = subst (λ (k : RustCall). key_fault_of meaning k ≡ None) call (made.fine request.moment);
      told = subst (λ (k : RustCall). IsTold digest_of (record_of meaning k)) call (made.told request.moment);
    }

pub returns-in_err-compilation-clause-early : goal.returns-in_err-compilation-clause-early
returns-in_err-compilation-clause-early g c =
    let meaning = g.T.Preprocessor.meaning c.args.tool.now in
    let tree = g.F.Files.tree c.args.files.now in
    let rust = c.args.rust.now in
    let request = c.args.request.now in
    let under : Variables → Question = λ env. record { asks = asks_in c.args.parsed.now; scene = scene_with rust.executable request.dir env tree request.moment } in
    let asked = AtMostOnce (g.T.Preprocessor.preprocessed c.args.tool.now) (g.T.Preprocessor.preprocessed c.generate_hash_key.new.answers) in
    subst (λ (env : Variables). (dep_info_fault_of (under env) (dep_info_of meaning (under env)) ≡ None → ⊥) → asked) c.as_slice-env.ensures (c.generate_hash_key.ensures.early request.moment)

pub returns-in_err-by_compilation-clause-early : goal.returns-in_err-by_compilation-clause-early
returns-in_err-by_compilation-clause-early g c =
    let meaning = g.T.Preprocessor.meaning c.args.tool.now in
    let tree = g.F.Files.tree c.args.files.now in
    let rust = c.args.rust.now in
    let request = c.args.request.now in
    let under : Variables → Question = λ env. record { asks = asks_in c.args.parsed.now; scene = scene_with rust.executable request.dir env tree request.moment } in
    let asked = AtMostOnce (g.T.Preprocessor.preprocessed c.args.tool.now) (g.T.Preprocessor.preprocessed c.generate_hash_key.new.answers) in
    subst (λ (env : Variables). (dep_info_fault_of (under env) (dep_info_of meaning (under env)) ≡ None → ⊥) → asked) c.as_slice-env.ensures (c.generate_hash_key.ensures.early request.moment)

pub returns-clause-early : goal.returns-clause-early
returns-clause-early g c =
    let meaning = g.T.Preprocessor.meaning c.args.tool.now in
    let tree = g.F.Files.tree c.args.files.now in
    let rust = c.args.rust.now in
    let request = c.args.request.now in
    let under : Variables → Question = λ env. record { asks = asks_in c.args.parsed.now; scene = scene_with rust.executable request.dir env tree request.moment } in
    let asked = AtMostOnce (g.T.Preprocessor.preprocessed c.args.tool.now) (g.T.Preprocessor.preprocessed c.generate_hash_key.new.answers) in
    subst (λ (env : Variables). (dep_info_fault_of (under env) (dep_info_of meaning (under env)) ≡ None → ⊥) → asked) c.as_slice-env.ensures (c.generate_hash_key.ensures.early request.moment)
