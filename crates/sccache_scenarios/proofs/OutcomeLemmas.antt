-- The fresh outcome of a call that has a record, over the scripted tool.
use Rattle.std.proofs.Common.{◌≡◌, pos, Bool, true, false, cond, not, if◌then◌else◌, List, [], ◌∷◌, Option, None, Some, refl, sym, ap, subst, ◌∙◌}
use Rattle.std.specs.Prelude.{is_none, unwrap_or}
use Rattle.std.specs.Option.{option_and_then, option_map}
use Rattle.base_files.specs.Bytes.{Bytes}
use Rattle.base_files.specs.Path.{join}
use Rattle.base_files.specs.Tree.{Tree, contents_at}
use Rattle.cmdlines.specs.Commands.{ReadsAs, compile_items, compile_words, output_path, preprocess_items, preprocess_words}
use Rattle.cmdlines.specs.KnownLanguages.{HasKnownLanguageIn, IsKnownTo}
use Rattle.cmdlines.specs.Parsing.{HasSafeInput, parse_of}
use Rattle.cmdlines.specs.Parsing as parsing
use Rattle.cmdlines.specs.ReadBack.{ReadsAsCompile, ReadsAsPreprocess}
use Rattle.cmdlines_tables.specs.declared.parsed.ParsedArguments.{ParsedArguments}
use Rattle.cmdlines_tables.specs.Tables.{reading_of}
use Rattle.cmdlines_tables.specs.declared.compiler.CCompilerKind.{CCompilerKind}
use Rattle.ckeys_base.specs.FolderPlaces.{text_places}
use Rattle.ckeys_base.specs.FromTheLeft.{stripped_of}
use Rattle.ckeys_include_records.specs.Surroundings.{contents_in}
use Rattle.ckeys.specs.Calls.{KeyCall, needs_preprocessing, missing_input, extra_paths, printed_of, text_fault_of}
use Rattle.ckeys_records.specs.Faults.{or_else, preprocess_fault_of, read_fault_of}
use Rattle.ckeys_records.specs.Meaning.{text_in}
use Rattle.ckeys_records.specs.Folders.{Settings}
use Rattle.ckeys_records.specs.Meaning.{Made, Meaning, Scene, made_of, names_of}
use Rattle.ckeys_records.specs.Records.{hold_end}
use Rattle.ckeys_records.specs.declared.fault.Fault.{Fault}
use Rattle.ckeys_records.specs.declared.fault.Fault.TheVariants.{Read}
use Rattle.ckeys_records.specs.declared.output_name.OutputName.{OutputName}
use Rattle.ckeys_records.specs.declared.step.Step.TheVariants.{Compile}
use Rattle.sccache_script_tool.specs.declared.crate_texts.CrateTexts.{CrateTexts}
use Rattle.sccache_script_tool.specs.Scripted.{compiled, language_in, one_in, printed, scripted, takes_as_it_stands, text_at, text_by, without}
use Rattle.wrap.specs.Account.{Work, account_by, account_named, call_at, rust_account_by, rust_call_at, rust_work_at, work_at, passed, worked}
use Rattle.wrap.specs.StoreKeys.{HasRecord}
use Rattle.wrap.specs.Verdicts.{Judgement, asks, byte_255, commands_open_file, empty_value, hashed_words, opens_a_file, passes, verdict_of, with_hazards}
use Rattle.rustc_compiler.specs.Compiler.{Rustc}
use Rattle.wrap.specs.RustVerdicts as rust_verdicts
use Rattle.wrap.specs.RustVerdicts.{RustJudgement, rust_verdict_of}
use Rattle.wrap_base.specs.Commands.{CFound, NamedBy, by_c, by_rustc, named_by, words_at}
use Rattle.wrap_base.specs.declared.request.Request.{Request}
use Rattle.sccache_scenarios.specs.ScriptedCalls.{HasSafeSourceBy, HasSafeSourceFor, IsMadeOfRecord, IsScripted}
use Rattle.sccache_scenarios.proofs.CrateLemmas.{crate_made, none_some, or_none}
use Rattle.sccache_scenarios.proofs.SourceLemmas.{compile_input, compile_stands, preprocess_input}

-- the compiler goes over the text of the record, where the preprocessor or the input gave one
module _ (folders : List Bytes) (scene : Scene) (input : Bytes) (names : List OutputName) where
  abbrev path : Bytes
  path = join scene.dir input

  abbrev MadeOf : Option Bytes → Bytes → Type 0
  MadeOf text recorded = compiled (without folders text) names ≡ compiled (Some (stripped_of text_places folders recorded)) names

  by_printed : (made : Made) (text : Option Bytes) → made ≡ printed text → preprocess_fault_of made ≡ None → MadeOf text (text_in made.contents)
  by_printed made None is fine = absurd (none_some _ (sym (ap preprocess_fault_of is) ∙ fine))
  by_printed made (Some text) is fine = ap (λ (m : Made). compiled (Some (stripped_of text_places folders (text_in m.contents))) names) (sym is)

  by_bytes : (bytes : Option Bytes) → option_map Read (cond (is_none bytes) (Some path) None) ≡ None → MadeOf bytes (unwrap_or bytes [])
  by_bytes None fine = absurd (none_some _ fine)
  by_bytes (Some bytes) fine = refl

  by_text : (needs : Bool) (made : Made) → made ≡ printed (text_at scene.files scene.dir path) → (if needs then preprocess_fault_of made else read_fault_of scene.files (path ∷ [])) ≡ None
      → MadeOf (text_by (not needs) scene input) (if needs then text_in made.contents else contents_in scene.files path)
  by_text true made is fine = by_printed made (text_at scene.files scene.dir path) is fine
  by_text false made is fine = by_bytes (contents_at scene.files path) fine

module _ (settings : Settings) (told : CrateTexts) (tree : Tree) (found : CFound) (request : Request) (p : ParsedArguments) where
  abbrev kind : CCompilerKind
  kind = found.kind

  abbrev meaning : Meaning
  meaning = scripted settings.basedirs told

  abbrev call : KeyCall
  call = call_at found request tree settings p

  abbrev names : List OutputName
  names = names_of p.outputs

  abbrev compile_command : List Bytes
  compile_command = compile_words kind p (output_path p)

  text_fine : HasRecord (work_at meaning call) → text_fault_of meaning call ≡ None
  text_fine fine = or_none (option_map Read (missing_input call)) (text_fault_of meaning call) (or_none (read_fault_of tree (extra_paths call)) (or_else (option_map Read (missing_input call)) (text_fault_of meaning call)) fine)

  work_made : (words : List Bytes) → ReadsAs kind compile_command (compile_items kind p (output_path p) (reading_of kind words).items) → ReadsAs kind (preprocess_words kind p) (preprocess_items kind p (reading_of kind words).items)
      → IsKnownTo kind p.language → HasRecord (work_at meaning call) → IsMadeOfRecord (work_at meaning call)
  work_made words compile preprocess known fine =
      let items = (reading_of kind words).items in
      let r = reading_of kind compile_command in
      let printed_is : printed_of meaning call ≡ printed (text_at tree request.dir (join request.dir p.input)) = ap (λ o. printed (option_and_then (text_by false call.scene) o)) (preprocess_input kind p items (preprocess_words kind p) preprocess) in
      ap (λ o. compiled (without settings.basedirs (option_and_then (text_by (takes_as_it_stands Compile (one_in language_in r)) call.scene) o)) names) (compile_input kind p items compile_command (output_path p) compile)
      ∙ ap (λ s. compiled (without settings.basedirs (text_by s call.scene p.input)) names) (compile_stands kind p items compile_command (output_path p) compile known)
      ∙ by_text settings.basedirs call.scene p.input names (needs_preprocessing p.language) (printed_of meaning call) printed_is (text_fine fine)

-- what is asked for past the hazards was asked before them, with no empty value
abbrev Comes : parsing.Decision → ParsedArguments → Type 0
Comes decision p = (decision ≡ parsing.asks p) × (p.empty_value ≡ false)

hazards_passed : (kind : CCompilerKind) (decision : parsing.Decision) (p : ParsedArguments) → with_hazards kind decision ≡ asks p → Comes decision p
hazards_passed kind parsing.not_compilation p h = cc
hazards_passed kind (parsing.cannot_cache reason more) p h = cc
hazards_passed kind (parsing.asks q) p h = by (q.empty_value) refl (commands_open_file kind q) (hold_end (hashed_words q)) h
  where
    by : (s : Bool) → q.empty_value ≡ s → (t u : Bool) → (if s then passes empty_value else (if t then passes opens_a_file else (if u then passes byte_255 else asks q))) ≡ asks p → Comes (parsing.asks q) p
    by true e t u h = cc
    by false e true u h = cc
    by false e false true h = cc
    by false e false false h = (ap parsing.asks (same h), sym (ap (λ (x : ParsedArguments). x.empty_value) (same h)) ∙ e)
      where
        same : asks q ≡ asks p → q ≡ p
        same h = cc

abbrev pub MakeOfRecords : Type 0
MakeOfRecords = (settings : Settings) (w : Work) → IsScripted settings (worked w) → HasRecord w → IsMadeOfRecord w

module _ (compiles : (kind : CCompilerKind) (p : ParsedArguments) → ReadsAsCompile kind p (compile_words kind p (output_path p))) (preprocesses : (kind : CCompilerKind) (p : ParsedArguments) → ReadsAsPreprocess kind p (preprocess_words kind p)) (known : (kind : CCompilerKind) (words : List Bytes) → HasKnownLanguageIn kind (parse_of kind words)) where
  decision_made : (settings : Settings) (told : CrateTexts) (tree : Tree) (found : CFound) (request : Request) (w : Work) → HasSafeSourceFor found tree request → (decision : Judgement) → verdict_of found.kind (words_at found request tree) ≡ decision
      → account_by (scripted settings.basedirs told) tree settings found request decision ≡ worked w → HasRecord w → IsMadeOfRecord w
  decision_made settings told tree found request w safe (passes why) is h fine = absurd (other h)
    where
      other : passed why ≡ worked w → ⊥
      other h = cc
  decision_made settings told tree found request w safe (asks p) is h fine =
      let kind = found.kind in
      let words = words_at found request tree in
      let came : Comes (parse_of kind words) p = hazards_passed kind (parse_of kind words) p is in
      subst IsMadeOfRecord (same h)
      (work_made settings told tree found request p words
      (compiles kind p words came.0 came.1 (safe p came.0))
      (preprocesses kind p words came.0 came.1 (safe p came.0))
      (known kind words p came.0)
      (subst HasRecord (sym (same h)) fine))
    where
      same : worked (work_at (scripted settings.basedirs told) (call_at found request tree settings p)) ≡ worked w → work_at (scripted settings.basedirs told) (call_at found request tree settings p) ≡ w
      same h = cc

  rust_decision_made : (settings : Settings) (told : CrateTexts) (tree : Tree) (rust : Rustc) (request : Request) (d : RustJudgement) (w : Work) → rust_account_by (scripted settings.basedirs told) tree rust request d ≡ worked w → HasRecord w → IsMadeOfRecord w
  rust_decision_made settings told tree rust request (rust_verdicts.passes why) w is fine = absurd (other is)
    where
      other : passed why ≡ worked w → ⊥
      other h = cc
  rust_decision_made settings told tree rust request (rust_verdicts.asks asked) w is fine =
      subst IsMadeOfRecord (same is) (crate_made settings told tree rust request asked (subst HasRecord (sym (same is)) fine))
    where
      same : worked (rust_work_at (scripted settings.basedirs told) (rust_call_at rust request tree asked)) ≡ worked w → rust_work_at (scripted settings.basedirs told) (rust_call_at rust request tree asked) ≡ w
      same e = cc

  pub records_made : MakeOfRecords
  records_made settings w h fine = by (named_by h.request.compiler) h.safe h.is
    where
      by : (n : NamedBy) → HasSafeSourceBy n h.tree h.request → account_named (scripted settings.basedirs h.told) h.tree settings h.request n ≡ worked w → IsMadeOfRecord w
      by (by_c found) safe is = decision_made settings h.told h.tree found h.request w safe (verdict_of found.kind (words_at found h.request h.tree)) refl is fine
      by (by_rustc rust) safe is = rust_decision_made settings h.told h.tree rust h.request (rust_verdict_of h.request h.tree) w is fine
