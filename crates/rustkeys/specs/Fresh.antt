-- What a compile of a request gives, and the text on dependencies beside it.
use Rattle.std.specs.Prelude.{◌≡◌, Bool, List, Option, codes, option_and_then}
use Rattle.std.specs.Option.{option_to_list}
use Rattle.base_files.specs.Bytes.{Bytes}
use Rattle.base_files.specs.Tree.{Tree}
use Rattle.cmdlines_base.specs.Artifacts.{Artifacts}
use Rattle.cmdlines_base.specs.Reading.{Item}
use Rattle.ckeys_records.specs.Meaning.{text_in}
use Rattle.ckeys_records.specs.Meaning.{Made, Meaning, names_of, scene_with, words}
use Rattle.ckeys_records.specs.declared.step.Step.TheVariants.{Compile}
use Rattle.rustc_options.specs.declared.kind.ArgKind.{ArgKind}
use Rattle.rustc_texts.specs.Outputs.{has_name, output_names, outputs_of, targets_with}
use Rattle.rustc_texts.specs.Rewriting.{rewritten_of}
use Rattle.rustc_texts.specs.Words.{compile_words}
use Rattle.rustkeys_base.specs.Asks.{asks_of}
use Rattle.rustc_options.specs.Asks.{RustAsks}
use Rattle.rustkeys.specs.Questions.{compile_env_of, dep_info_of, file_names_of}
use Rattle.rustkeys.specs.Calls.{RustCall}

-- the outputs, by what rustc reports of their names
abbrev pub call_outputs : Meaning → RustCall → Artifacts
call_outputs meaning c = outputs_of c.question.asks (text_in (file_names_of meaning c.question).contents)

-- a fresh compile, under the variables with which a request is compiled
abbrev pub fresh_of : Meaning → RustCall → Made
fresh_of meaning c =
    let s = c.question.scene in
    meaning Compile (words (compile_words c.question.asks)) (names_of (call_outputs meaning c)) (scene_with s.executable s.dir (compile_env_of s.env) s.files s.moment)

-- The text on dependencies for this call's own targets, which depend on the archive too; none where it isn't asked for.
abbrev pub dep_info_by : RustAsks → Option Bytes → Bytes → List Bytes → Option Bytes
dep_info_by asks archive text names = option_and_then (λ name. rewritten_of text (targets_with asks names) (option_to_list archive)) asks.dep_info

abbrev pub dep_info_text_of : Meaning → RustCall → Option Bytes
dep_info_text_of meaning c =
    let asks = c.question.asks in
    dep_info_by asks c.known.archive (text_in (dep_info_of meaning c.question).contents) (output_names asks.emit (text_in (file_names_of meaning c.question).contents))

-- what a request asks for is what words come to, in some directory with some files
pub record ComesOfWords (asks : RustAsks) : Type 0 where
  pub dir : Bytes
  pub tree : Tree
  pub items : List (Item ArgKind)
  pub is : asks ≡ asks_of dir tree items

-- whether the text on dependencies is among what a request emits
abbrev pub emits_dep_info : RustAsks → Bool
emits_dep_info asks = has_name asks.emit (codes "dep-info")
