-- The fresh outcome of a request to rustc that has a record, over the scripted tool.
use Rattle.std.proofs.Common.{◌≡◌, pos, Bool, true, false, List, [], ◌∷◌, ◌++◌, map, Option, None, Some, refl, sym, ap, ◌∙◌}
use Rattle.std.specs.Prelude.{is_none, unwrap_or}
use Rattle.std.specs.List.{concat}
use Rattle.std.specs.Option.{option_and_then, option_map}
use Rattle.std.specs.Str.{is_utf8}
use Rattle.base_files.specs.Bytes.{Bytes}
use Rattle.base_files.specs.Path.{join, path_cmp}
use Rattle.base_files.specs.Tree.{Tree, contents_at}
use Rattle.rustc_options.specs.Asks.{RustAsks}
use Rattle.rustc_options.specs.Sorted.{sorted_by}
use Rattle.rustc_compiler.specs.Compiler.{Rustc}
use Rattle.rustc_texts.specs.DepInfo.{names_in, rule_of, sources_of}
use Rattle.ckeys_include_records.specs.Surroundings.{contents_in}
use Rattle.ckeys_records.specs.Faults.{or_else, read_fault_of}
use Rattle.ckeys_records.specs.Folders.{Settings}
use Rattle.ckeys_records.specs.Meaning.{Meaning, made_of, names_of}
use Rattle.ckeys_records.specs.declared.fault.Fault.{Fault}
use Rattle.ckeys_records.specs.declared.step.Step.TheVariants.{DepInfo, FileNames}
use Rattle.rustkeys.specs.Calls.{RustCall, answer_fault_of, dep_info_fault_of, files_fault_of, rule_fault_of, sources_fault_of, utf8_fault_of}
use Rattle.rustkeys.specs.Fresh.{call_outputs}
use Rattle.rustkeys.specs.Questions.{answers_of, sources_in}
use Rattle.sccache_script_tool.specs.Scripted.{scripted}
use Rattle.sccache_script_tool.specs.ScriptedCrates.{compiled_crate, joined_contents, told_sources}
use Rattle.sccache_script_tool.specs.declared.crate_texts.CrateTexts.{CrateTexts}
use Rattle.wrap.specs.Account.{rust_call_at, rust_work_at}
use Rattle.wrap.specs.StoreKeys.{HasRecord}
use Rattle.wrap_base.specs.declared.request.Request.{Request}
use Rattle.sccache_scenarios.specs.ScriptedCalls.{IsMadeOfRecord}

pub none_some : {X : Type 0} (x : X) → Some x ≡ None → ⊥
none_some x h = cc

pub or_first : (first second : Option Fault) → or_else first second ≡ None → first ≡ None
or_first None second h = refl
or_first (Some fault) second h = absurd (none_some fault h)

pub or_none : (first second : Option Fault) → or_else first second ≡ None → second ≡ None
or_none None second h = h
or_none (Some fault) second h = absurd (none_some fault h)

-- a text without that fault is UTF-8
is_text : (text : Bytes) → utf8_fault_of DepInfo text ≡ None → is_utf8 text ≡ true
is_text text fine = by (is_utf8 text) refl
  where
    by : (b : Bool) → is_utf8 text ≡ b → is_utf8 text ≡ true
    by true e = e
    by false e = absurd (none_some _ (rw e at fine))

-- a text that begins with a rule gives its sources
sources_told : (dir : Bytes) (rule : Option Bytes) → is_none rule ≡ false → option_map (sorted_by path_cmp) (option_map (λ names. map (join dir) (names_in names)) rule) ≡ Some (sorted_by path_cmp (unwrap_or (option_map (λ names. map (join dir) (names_in names)) rule) []))
sources_told dir None there = absurd (let never = there in cc)
sources_told dir (Some rule) there = refl

has_rule : (text : Bytes) → rule_fault_of text ≡ None → is_none (rule_of text) ≡ false
has_rule text fine = by (is_none (rule_of text)) refl
  where
    by : (b : Bool) → is_none (rule_of text) ≡ b → is_none (rule_of text) ≡ false
    by true e = absurd (none_some _ (rw e at fine))
    by false e = e

-- where all files are there, their contents in a row are those that are read of them
joined_with : (files : Tree) (path : Bytes) (paths : List Bytes) (found : Option Bytes) → contents_at files path ≡ found → (read_fault_of files paths ≡ None → joined_contents files paths ≡ Some (concat (map (contents_in files) paths)))
    → read_fault_of files (path ∷ paths) ≡ None → joined_contents files (path ∷ paths) ≡ Some (concat (map (contents_in files) (path ∷ paths)))
joined_with files path paths None is rest fine = absurd (none_some _ (rw is at fine))
joined_with files path paths (Some contents) is rest fine = rw (is, rest (rw is at fine)) refl

all_joined : (files : Tree) (paths : List Bytes) → read_fault_of files paths ≡ None → joined_contents files paths ≡ Some (concat (map (contents_in files) paths))
all_joined files [] fine = refl
all_joined files (path ∷ paths) fine = joined_with files path paths (contents_at files path) refl (all_joined files paths) fine

-- so the text of a crate whose text on dependencies has no fault is that of its sources
text_joined : (files : Tree) (dir text : Bytes) → utf8_fault_of DepInfo text ≡ None → sources_fault_of files dir text ≡ None
    → option_and_then (joined_contents files) (told_sources dir text) ≡ Some (concat (map (contents_in files) (sources_in dir text)))
text_joined files dir text utf8 sources =
    let rule = has_rule text (or_first (rule_fault_of text) (read_fault_of files (sources_in dir text)) sources) in
    let there = or_none (rule_fault_of text) (read_fault_of files (sources_in dir text)) sources in
    rw (is_text text utf8, sources_told dir (rule_of text) rule) (all_joined files (sources_in dir text) there)

module _ (settings : Settings) (told : CrateTexts) (tree : Tree) (rust : Rustc) (request : Request) (asked : RustAsks) where
  abbrev meaning : Meaning
  meaning = scripted settings.basedirs told

  abbrev call : RustCall
  call = rust_call_at rust request tree asked

  pub crate_made : HasRecord (rust_work_at meaning call) → IsMadeOfRecord (rust_work_at meaning call)
  crate_made fine =
      let answers = answers_of meaning call.question in
      let text = told.dep_info in
      let answered : dep_info_fault_of call.question (made_of (pos 0) (Some text ∷ [])) ≡ None = or_first (dep_info_fault_of call.question answers.dep_info) (or_else (answer_fault_of FileNames answers.file_names) (files_fault_of call.question answers.archives)) fine in
      let utf8 : utf8_fault_of DepInfo text ≡ None = or_first (answer_fault_of DepInfo (made_of (pos 0) (Some text ∷ []))) (sources_fault_of tree request.dir text) answered in
      let sources : sources_fault_of tree request.dir text ≡ None = or_none (answer_fault_of DepInfo (made_of (pos 0) (Some text ∷ []))) (sources_fault_of tree request.dir text) answered in
      ap (λ (crate : Option Bytes). compiled_crate crate (names_of (call_outputs meaning call))) (text_joined tree request.dir text utf8 sources)
