-- A request to rustc of which a key is made: its record, and its first fault.
use Rattle.std.specs.Prelude.{not, List, map, find, Option, None, Some, is_none, if◌then◌else◌}
use Rattle.std.specs.Option.{option_map, option_to_list}
use Rattle.std.specs.Str.{is_utf8}
use Rattle.base_files.specs.Bytes.{Bytes}
use Rattle.base_files.specs.Tree.{Tree}
use Rattle.ckeys_include_records.specs.Surroundings.{contents_in}
use Rattle.ckeys_records.specs.Faults.{or_else, preprocess_fault_of, read_fault_of}
use Rattle.ckeys_records.specs.Meaning.{text_in}
use Rattle.ckeys_records.specs.Meaning.{Made, Meaning}
use Rattle.ckeys_records.specs.declared.fault.Fault.{Fault}
use Rattle.ckeys_records.specs.declared.fault.Fault.TheVariants.{AnswerNotUtf8, BadDigest, NoRule}
use Rattle.ckeys_records.specs.declared.step.Step.{Step}
use Rattle.ckeys_records.specs.declared.step.Step.TheVariants.{DepInfo, FileNames}
use Rattle.rustc_parts.specs.Formed.{digest_digits, is_digest}
use Rattle.rustc_texts.specs.DepInfo.{rule_of}
use Rattle.rustc_texts.specs.Words.{kept_words}
use Rattle.rustkeys.specs.Questions.{Answers, Question, answers_of, counted_in, env_deps_in, extern_paths, profile_path, sources_in, target_path}
use Rattle.rustkeys.specs.Records.{RustRecord}

-- what is known of a rustc: the digests of its toolchain, what it says of its version, and the path of its archive, where it has one
pub record RustKnown : Type 0 where
  pub toolchain : List Bytes
  pub version : Bytes
  pub archive : Option Bytes

-- that, what a request asks for, and where and when its commands run
pub record RustCall : Type 0 where
  pub known : RustKnown
  pub question : Question

-- the record of a call with these answers
abbrev pub record_with : RustCall → Answers → RustRecord
record_with c answers =
    let q = c.question in
    let text = text_in answers.dep_info.contents in
    record {
      toolchain = c.known.toolchain;
      version = c.known.version;
      words = kept_words q.asks;
      sources = map (contents_in q.scene.files) (sources_in q.scene.dir text);
      externs = map (contents_in q.scene.files) (extern_paths q);
      archives = map (λ archive. archive.1) answers.archives;
      target = option_map (contents_in q.scene.files) (target_path q);
      profile = option_map (contents_in q.scene.files) (profile_path q);
      env_deps = env_deps_in text;
      variables = counted_in q.scene.env;
      dir = q.scene.dir;
    }

abbrev pub record_of : Meaning → RustCall → RustRecord
record_of meaning c = record_with c (answers_of meaning c.question)

-- the fault of an answer: its status, and then that it isn't UTF-8
abbrev pub utf8_fault_of : Step → Bytes → Option Fault
utf8_fault_of step text = if is_utf8 text then None else Some (AnswerNotUtf8 step)

abbrev pub answer_fault_of : Step → Made → Option Fault
answer_fault_of step made = or_else (preprocess_fault_of made) (utf8_fault_of step (text_in made.contents))

-- the fault of a text on dependencies: that it begins with no rule, and then that a source isn't there
abbrev pub rule_fault_of : Bytes → Option Fault
rule_fault_of text = if is_none (rule_of text) then Some NoRule else None

abbrev pub sources_fault_of : Tree → Bytes → Bytes → Option Fault
sources_fault_of files dir text = or_else (rule_fault_of text) (read_fault_of files (sources_in dir text))

-- the fault of what is answered on dependencies
abbrev pub dep_info_fault_of : Question → Made → Option Fault
dep_info_fault_of q made = or_else (answer_fault_of DepInfo made) (sources_fault_of q.scene.files q.scene.dir (text_in made.contents))

-- the first static library whose digest isn't one
abbrev pub digest_fault_of : List (Bytes × Bytes) → Option Fault
digest_fault_of archives = option_map (λ archive. BadDigest archive.0) (find (λ archive. not (is_digest digest_digits archive.1)) archives)

-- the target's file isn't there, or the profile isn't
abbrev pub optional_files_fault_of : Question → Option Fault
optional_files_fault_of q =
    or_else (read_fault_of q.scene.files (option_to_list (target_path q))) (read_fault_of q.scene.files (option_to_list (profile_path q)))

-- the fault of other files: a crate that is named isn't there, a static library has no digest, or the target's file or the profile isn't there
abbrev pub files_fault_of : Question → List (Bytes × Bytes) → Option Fault
files_fault_of q archives =
    or_else (read_fault_of q.scene.files (extern_paths q)) (or_else (digest_fault_of archives) (optional_files_fault_of q))

-- The first fault in the order in which rustc and its files are asked, without out of memory and I/O errors: of the text on dependencies, of the names of outputs, and of other files.
abbrev pub key_fault_with : Question → Answers → Option Fault
key_fault_with q answers =
    or_else (dep_info_fault_of q answers.dep_info) (or_else (answer_fault_of FileNames answers.file_names) (files_fault_of q answers.archives))

abbrev pub key_fault_of : Meaning → RustCall → Option Fault
key_fault_of meaning c = key_fault_with c.question (answers_of meaning c.question)
