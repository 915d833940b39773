-- Calls to rustc, which ask for no include records.
use Rattle.std.proofs.Common.{◌≡◌, None, true, false, sym, ap, ◌∙◌}
use Rattle.base_files.specs.Bytes.{Bytes}
use Rattle.base_files.specs.Tree.{Tree}
use Rattle.ckeys_records.specs.Meaning.{Meaning, names_of, scene_of}
use Rattle.ckeys_records.specs.declared.step.Step.TheVariants.{Compile}
use Rattle.rustc_compiler.specs.Compiler.{Rustc}
use Rattle.rustc_options.specs.Asks.{RustAsks}
use Rattle.wrap_keys.specs.Account.{rust_call_at, rust_work_at}
use Rattle.wrap.specs.Prepared.{IsPrepared}
use Rattle.wrap.specs.RustPrepared.{IsRustPrepared, rust_command_of}
use Rattle.wrap_keys.specs.StoreKeys.{store_key_of, store_key_with}
use Rattle.wrap.specs.declared.prepared.Prepared.{Prepared}
use Rattle.wrap.specs.declared.rust_calls.RustPrepared.{RustPrepared}
use Rattle.wrap_base.specs.AskedBy.{asked_by}
use Rattle.wrap_base.specs.declared.request.Request.{Request}
use Rattle.wrap_base.specs.declared.store_key.StoreKey.{StoreKey}

-- a request with its key is prepared, also where the tool and the files were asked before
pub is_prepared : (digest_of : Bytes → Bytes) (meaning later : Meaning) (tree tree_later : Tree) (rust : Rustc) (request : Request) (asked : RustAsks) (made : RustPrepared) (p : Prepared)
    → IsRustPrepared digest_of rust request asked (rust_work_at meaning (rust_call_at rust request tree asked)) made → later ≡ meaning → tree_later ≡ tree
    → p.key ≡ made.key → p.from_record ≡ false → p.outputs.now ≡ made.compilation.outputs → p.command.now ≡ made.compilation.command → p.kind ≡ None → p.moment ≡ request.moment → p.dep_info ≡ made.dep_info
    → IsPrepared digest_of later tree_later (rust_work_at meaning (rust_call_at rust request tree asked)) p
is_prepared digest_of meaning later tree tree_later rust request asked made p h l t key from outputs command kind moment dep_info =
    let w = rust_work_at meaning (rust_call_at rust request tree asked) in
    let own : p.key ≡ store_key_of digest_of w = key ∙ h.is_key in
    let written = outputs ∙ h.outputs in
    let run : p.command.now ≡ rust_command_of rust request asked = command ∙ h.command in
    record {
      is_key = own ∙ ap (store_key_with digest_of w) (sym (ap (λ (k : StoreKey). k.digest) own));
      told = h.told;
      makes = record {
        outputs = written;
        fresh = λ i. l i Compile (asked_by (kind i) (run i).arguments) (names_of (written i)) (scene_of (run i) (t i) (moment i));
      };
      direct = λ e. let no : true ≡ false = sym e ∙ from in cc;
      dep_info = dep_info ∙ h.dep_info;
    }
