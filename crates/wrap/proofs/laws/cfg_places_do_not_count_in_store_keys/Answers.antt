use Rattle.std.proofs.Common.{◌≡◌, Bool, List, map, ◌∙◌}
use Rattle.std.specs.Prelude.{is_some}
use Rattle.std.specs.List.Sorted.{IsPermutation}
use Rattle.std.specs.Option.{option_map}
use Rattle.base_files.specs.Bytes.{Bytes}
use Rattle.base_files.specs.Path.{join}
use Rattle.ckeys_include_records.specs.Surroundings.{contents_in}
use Rattle.ckeys_records.specs.Meaning.{Meaning, names_of, text_in}
use Rattle.rustc_options.specs.Asks.{Said}
use Rattle.rustc_texts.specs.Outputs.{outputs_of}
use Rattle.rustc_texts.specs.Words.{cfgs_of, kept_of, kept_words, rest_of}
use Rattle.rustkeys.specs.Calls.{RustCall, record_of}
use Rattle.rustkeys.specs.Fresh.{call_outputs}
use Rattle.rustkeys.specs.Questions.{counted_in, env_deps_in, sources_in}
use Rattle.rustkeys.specs.Records.{key_of, record_shape}
use Rattle.wrap.specs.SameCalls.{AreSameButForCfgs}
use Rattle.wrap_base.specs.declared.store_key.Family.TheVariants.{Rustc}
use Rattle.wrap_base.specs.declared.store_key.Shape.TheVariants as shapes
use Rattle.wrap.proofs.laws.cfg_places_do_not_count_in_store_keys.Goals as goal

-- arguments that differ in places of `--cfg` alone have the same words that count
abbrev KeepWords : Type 0
KeepWords = (has_target_file : Bool) (one other : List Said) → rest_of one ≡ rest_of other → IsPermutation (cfgs_of one) (cfgs_of other) → kept_of has_target_file one ≡ kept_of has_target_file other

-- the records of such calls are equal
one_record : KeepWords → (meaning : Meaning) (one other : RustCall) → AreSameButForCfgs meaning one other → record_of meaning one ≡ record_of meaning other
one_record keep meaning one other same =
    let words : kept_words one.question.asks ≡ kept_words other.question.asks = keep (is_some one.question.asks.target_json) one.question.asks.arguments other.question.asks.arguments same.rest same.cfgs ∙ (λ i. kept_of (is_some (same.asks i).target_json) other.question.asks.arguments) in
    λ i. record {
      toolchain = (same.known i).toolchain;
      version = (same.known i).version;
      words = words i;
      sources = map (contents_in (same.scene i).files) (sources_in (same.scene i).dir (text_in (same.answers i).dep_info.contents));
      externs = map (contents_in (same.scene i).files) (map (join (same.scene i).dir) (same.asks i).externs);
      archives = map (λ (archive : Bytes × Bytes). archive.1) (same.answers i).archives;
      target = option_map (contents_in (same.scene i).files) (option_map (join (same.scene i).dir) (same.asks i).target_json);
      profile = option_map (contents_in (same.scene i).files) (option_map (join (same.scene i).dir) (same.asks i).profile_use);
      env_deps = env_deps_in (text_in (same.answers i).dep_info.contents);
      variables = counted_in (same.scene i).env;
      dir = (same.scene i).dir;
    }

pub returns : goal.returns
returns c digest_of meaning one other same =
    let records = one_record c.cfg_places_do_not_count.ensures meaning one other same in
    let outputs : call_outputs meaning one ≡ call_outputs meaning other = λ i. outputs_of (same.asks i) (text_in (same.answers i).file_names.contents) in
    λ i. record { family = Rustc; shape = shapes.Rustc (record_shape digest_of (records i)); names = names_of (outputs i); digest = key_of digest_of (records i) }
