use Rattle.std.specs.declared.alloc.Global.{Global}
use Rattle.std.specs.declared.vec.Vec.{Vec}
use Rattle.std.proofs.Common.{◌≡◌, ℕ, None, ap, subst, ◌∙◌}
use Rattle.base_files.specs.Fails.{FailsOn}
use Rattle.cmdlines_tables.specs.Small.{command_at}
use Rattle.ckeys_records.specs.Faults.{KeyCause}
use Rattle.ckeys_records.specs.Meaning.{AtMostOnce, FailsIn, Variables, names_of, scene_with}
use Rattle.rustc_texts.specs.Words.{compile_words}
use Rattle.rustc_options.specs.Asks.{asks_in}
use Rattle.rustkeys.specs.Calls.{RustCall, dep_info_fault_of, key_fault_of, record_of}
use Rattle.rustkeys.specs.Fresh.{call_outputs, dep_info_text_of}
use Rattle.rustkeys.specs.Hashers.{known_of}
use Rattle.rustkeys.specs.Questions.{Question, compile_env_of, dep_info_of}
use Rattle.rustkeys.specs.Records.{IsTold, key_of, record_shape}
use Rattle.wrap_base.specs.declared.store_key.Family.TheVariants.{Rustc}
use Rattle.wrap_base.specs.declared.store_key.Shape.TheVariants as shapes
use Rattle.wrap_keys.proofs.KeyLemmas.{on_exit}
use Rattle.wrap.proofs.rust_calls.rust_prepare.Goals as goal

pub returns-in_err-compilation-clause-cause : goal.returns-in_err-compilation-clause-cause
returns-in_err-compilation-clause-cause g c =
    let meaning = g.T.Preprocessor.meaning c.args.tool.now in
    let tree = g.F.Files.tree c.args.files.now in
    let rust = c.args.rust.now in
    let request = c.args.request.now in
    let under : Variables → RustCall = λ env. record { known = known_of rust; question = record { asks = asks_in c.args.parsed.now; scene = scene_with rust.executable request.dir env tree request.moment } } in
    let fault = c.in_err-compilation.field-0.0 in
    let on_file = FailsOn g.F.Files.tree g.F.Files.failed g.F.Files.fails_on c.args.files.now c.generate_hash_key.new.files in
    let device_in = FailsIn g.T.Preprocessor.meaning g.T.Preprocessor.failed g.T.Preprocessor.fails_in c.args.tool.now c.generate_hash_key.new.answers in
    on_exit (KeyCause (key_fault_of meaning (under request.env)) on_file device_in) c.from_residual.result fault c.from_residual.ensures.1
    (subst (λ (env : Variables). KeyCause (key_fault_of meaning (under env)) on_file device_in fault) c.as_slice-env.ensures (c.in_err-compilation.ensures.cause request.moment))

pub returns-clause-prepared : goal.returns-clause-prepared
returns-clause-prepared g c =
    let digest_of = g.H.HashState.digest_of in
    let meaning = g.T.Preprocessor.meaning c.args.tool.now in
    let tree = g.F.Files.tree c.args.files.now in
    let rust = c.args.rust.now in
    let request = c.args.request.now in
    let asked = asks_in c.args.parsed.now in
    let under : Variables → RustCall = λ env. record { known = known_of rust; question = record { asks = asked; scene = scene_with rust.executable request.dir env tree request.moment } } in
    let call : under c.as_slice-env.result.now ≡ under request.env = ap under c.as_slice-env.ensures in
    let made = c.in_ok-compilation.ensures in
    let outputs = made.outputs request.moment ∙ ap (call_outputs meaning) call in
    let shape = made.shape request.moment ∙ ap (λ (k : RustCall). record_shape digest_of (record_of meaning k)) call in
    let names = c.in-Ok.ensures ∙ ap names_of (c.outputs.ensures ∙ outputs) in
    let text = c.from_vec.ensures ∙ ap (λ (v : Vec ℕ Global). v.items) c.into_bytes.ensures.value in
    let digest = text ∙ made.key request.moment ∙ ap (λ (k : RustCall). key_of digest_of (record_of meaning k)) call in
    record {
      is_key = λ i. record { family = Rustc; shape = shapes.Rustc (shape i); names = names i; digest = digest i };
      told = subst (λ (k : RustCall). IsTold digest_of (record_of meaning k)) call (made.told request.moment);
      fine = subst (λ (k : RustCall). key_fault_of meaning k ≡ None) call (made.fine request.moment);
      outputs = outputs;
      command = made.command ∙ ap (λ (env : Variables). command_at rust.executable (compile_words asked) (compile_env_of env) request.dir) c.as_slice-env.ensures;
      dep_info = made.dep_info request.moment ∙ ap (dep_info_text_of meaning) call;
    }

pub returns-in_err-compilation-clause-early : goal.returns-in_err-compilation-clause-early
returns-in_err-compilation-clause-early g c =
    let meaning = g.T.Preprocessor.meaning c.args.tool.now in
    let tree = g.F.Files.tree c.args.files.now in
    let rust = c.args.rust.now in
    let request = c.args.request.now in
    let under : Variables → Question = λ env. record { asks = asks_in c.args.parsed.now; scene = scene_with rust.executable request.dir env tree request.moment } in
    let asked = AtMostOnce (g.T.Preprocessor.preprocessed c.args.tool.now) (g.T.Preprocessor.preprocessed c.generate_hash_key.new.answers) in
    subst (λ (env : Variables). (dep_info_fault_of (under env) (dep_info_of meaning (under env)) ≡ None → ⊥) → asked) c.as_slice-env.ensures (c.generate_hash_key.ensures.early request.moment)

pub returns-in_default-clause-early : goal.returns-in_default-clause-early
returns-in_default-clause-early g c =
    let meaning = g.T.Preprocessor.meaning c.args.tool.now in
    let tree = g.F.Files.tree c.args.files.now in
    let rust = c.args.rust.now in
    let request = c.args.request.now in
    let under : Variables → Question = λ env. record { asks = asks_in c.args.parsed.now; scene = scene_with rust.executable request.dir env tree request.moment } in
    let asked = AtMostOnce (g.T.Preprocessor.preprocessed c.args.tool.now) (g.T.Preprocessor.preprocessed c.generate_hash_key.new.answers) in
    subst (λ (env : Variables). (dep_info_fault_of (under env) (dep_info_of meaning (under env)) ≡ None → ⊥) → asked) c.as_slice-env.ensures (c.generate_hash_key.ensures.early request.moment)

pub returns-clause-early : goal.returns-clause-early
returns-clause-early g c =
    let meaning = g.T.Preprocessor.meaning c.args.tool.now in
    let tree = g.F.Files.tree c.args.files.now in
    let rust = c.args.rust.now in
    let request = c.args.request.now in
    let under : Variables → Question = λ env. record { asks = asks_in c.args.parsed.now; scene = scene_with rust.executable request.dir env tree request.moment } in
    let asked = AtMostOnce (g.T.Preprocessor.preprocessed c.args.tool.now) (g.T.Preprocessor.preprocessed c.generate_hash_key.new.answers) in
    subst (λ (env : Variables). (dep_info_fault_of (under env) (dep_info_of meaning (under env)) ≡ None → ⊥) → asked) c.as_slice-env.ensures (c.generate_hash_key.ensures.early request.moment)
