-- A call as plain values, and what it is to give.
use Rattle.std.specs.Prelude.{◌≡◌, pos, List, [], ◌∷◌, ◌++◌, map, Option, Some, None, if◌then◌else◌}
use Rattle.std.specs.Ordering.{int_eq}
use Rattle.std.specs.Str.{bytes_eq}
use Rattle.base_files.specs.Bytes.{Bytes}
use Rattle.base_files.specs.Tree.{Tree}
use Rattle.cmdlines.specs.Commands.{compile_words, output_path}
use Rattle.cmdlines_base.specs.Artifacts.{Artifacts}
use Rattle.cmdlines_tables.specs.declared.parsed.ParsedArguments.{ParsedArguments}
use Rattle.ckeys.specs.Calls.{KeyCall, PrintedCall, early_fault_of, key_fault_of, printed_call, record_of}
use Rattle.ckeys.specs.Entries.{asking, has_entry_key}
use Rattle.ckeys_records.specs.Folders.{Settings}
use Rattle.ckeys_records.specs.Meaning.{Scene, Made, Meaning, names_of, asked_of, scene_with}
use Rattle.ckeys_records.specs.declared.fault.Fault.{Fault}
use Rattle.ckeys_records.specs.declared.fault.Fault.TheVariants.{CompileFailed, MissingOutput}
use Rattle.ckeys_records.specs.declared.output_name.OutputName.{OutputName}
use Rattle.ckeys_records.specs.declared.step.Step.TheVariants.{Compile}
use Rattle.rustc_compiler.specs.Compiler.{Rustc}
use Rattle.rustc_options.specs.Asks.{RustAsks}
use Rattle.rustkeys.specs.Calls as keys
use Rattle.rustkeys.specs.Calls.{RustCall}
use Rattle.rustkeys.specs.Fresh.{call_outputs, dep_info_text_of, fresh_of}
use Rattle.rustkeys.specs.Hashers.{known_of}
use Rattle.rustkeys.specs.Questions.{dep_info_of}
use Rattle.wrap_base.specs.Commands.{CFound, NamedBy, by_c, by_rustc, named_by, words_at}
use Rattle.wrap_keys.specs.CallRecords.{CallRecord, of_c, of_rustc}
use Rattle.wrap_keys.specs.RustVerdicts as verdicts
use Rattle.wrap_keys.specs.RustVerdicts.{RustJudgement, rust_verdict_of}
use Rattle.wrap_keys.specs.Verdicts.{Why, Judgement, passes, asks, verdict_of}
use Rattle.wrap_base.specs.declared.answer.Output.{Output}
use Rattle.wrap_base.specs.declared.request.Request.{Request}

-- a call that isn't passed through: its outputs, its record, its first fault before the store is asked, and that before its text is printed, or before rustc is asked for names; and its fresh outcome, which is what the tool's meaning gives for its compile command; where it has an entry key, all that its include record depends on; and, of rustc, the text on dependencies for its own targets, where that is asked for
pub record Work : Type 0 where
  pub outputs : Artifacts
  pub rec : CallRecord
  pub fault : Option Fault
  pub early : Option Fault
  pub fresh : Made
  pub direct : Option PrintedCall
  pub dep_info : Option Bytes

-- a call by plain values: no files and no tool are kept
pub data Account : Type 0 where
  passed : Why → Account
  worked : Work → Account

-- where and when a request's commands run
abbrev pub scene_at : Bytes → Request → Tree → Scene
scene_at executable request tree = scene_with executable request.dir request.env tree request.moment

-- the call to this C compiler of which its key is made
abbrev pub call_at : CFound → Request → Tree → Settings → ParsedArguments → KeyCall
call_at found request tree settings p = record {
  kind = found.kind;
  traits = found.traits;
  compiler_digest = found.digest;
  parsed = p;
  scene = scene_at found.executable request tree;
  settings = settings;
}

-- the call to this rustc of which its key is made
abbrev pub rust_call_at : Rustc → Request → Tree → RustAsks → RustCall
rust_call_at rust request tree asked = record {
  known = known_of rust;
  question = record { asks = asked; scene = scene_at rust.executable request tree };
}

-- what include records are asked by: the call, where it has an entry key
abbrev pub direct_at : Meaning → KeyCall → Option PrintedCall
direct_at meaning call = if has_entry_key call then Some (printed_call meaning call) else None

abbrev pub work_at : Meaning → KeyCall → Work
work_at meaning call = record {
  outputs = call.parsed.outputs;
  rec = of_c (record_of meaning call);
  fault = key_fault_of meaning call;
  early = early_fault_of call;
  fresh = meaning Compile (asked_of call.kind (compile_words call.kind call.parsed (output_path call.parsed))) (names_of call.parsed.outputs) call.scene;
  direct = direct_at meaning call;
  dep_info = None;
}

abbrev pub rust_work_at : Meaning → RustCall → Work
rust_work_at meaning call = record {
  outputs = call_outputs meaning call;
  rec = of_rustc (keys.record_of meaning call);
  fault = keys.key_fault_of meaning call;
  early = keys.dep_info_fault_of call.question (dep_info_of meaning call.question);
  fresh = fresh_of meaning call;
  direct = None;
  dep_info = dep_info_text_of meaning call;
}

abbrev pub account_by : Meaning → Tree → Settings → CFound → Request → Judgement → Account
account_by meaning tree settings found request (passes why) = passed why
account_by meaning tree settings found request (asks p) = worked (work_at meaning (call_at found request tree settings p))

abbrev pub rust_account_by : Meaning → Tree → Rustc → Request → RustJudgement → Account
rust_account_by meaning tree rust request (verdicts.passes why) = passed why
rust_account_by meaning tree rust request (verdicts.asks asked) = worked (rust_work_at meaning (rust_call_at rust request tree asked))

-- the account of a request to this compiler
abbrev pub account_named : Meaning → Tree → Settings → Request → NamedBy → Account
account_named meaning tree settings request (by_c found) = account_by meaning tree settings found request (verdict_of found.kind (words_at found request tree))
account_named meaning tree settings request (by_rustc rust) = rust_account_by meaning tree rust request (rust_verdict_of request tree)

-- the account of a request, under this configuration, on files of this tree and a tool of this meaning
abbrev pub account_at : Meaning → Tree → Settings → Request → Account
account_at meaning tree settings request = account_named meaning tree settings request (named_by request.compiler)

-- what a call asks include records by, if it does
abbrev pub direct_of : Account → Option PrintedCall
direct_of (passed why) = None
direct_of (worked w) = w.direct

-- the calls that have entry keys
abbrev pub asked_by : Option PrintedCall → List PrintedCall
asked_by None = []
asked_by (Some p) = asking p

abbrev pub direct_calls : List Account → List PrintedCall
direct_calls [] = []
direct_calls (a ∷ accounts) = asked_by (direct_of a) ++ direct_calls accounts

-- why the call is passed through, if it is
abbrev pub why_passed : Account → Option Why
why_passed (passed why) = Some why
why_passed (worked w) = None

-- the first file, where there is one and it was made
abbrev pub first_file : List (Option Bytes) → Option Bytes
first_file [] = None
first_file (f ∷ fs) = f

abbrev pub files_after : List (Option Bytes) → List (Option Bytes)
files_after [] = []
files_after (f ∷ fs) = fs

-- what is kept of outputs: their names and contents
abbrev pub Pairs : Type 0
Pairs = List (Bytes × Bytes)

-- What a compile with status 0 gives: the first demanded output that wasn't made, or each that was made by name and contents.
pub data Collected : Type 0 where
  missing : Bytes → Collected
  all : Pairs → Collected

abbrev pub after : Bytes × Bytes → Collected → Collected
after pair (missing name) = missing name
after pair (all pairs) = all (pair ∷ pairs)

abbrev pub gathered : OutputName → Option Bytes → Collected → Collected
gathered o (Some contents) rest = after (o.name, contents) rest
gathered o None rest = if o.optional then rest else missing o.name

abbrev pub collected : List OutputName → List (Option Bytes) → Collected
collected [] files = all []
collected (o ∷ names) files = gathered o (first_file files) (collected names (files_after files))

-- the compiler succeeded and made these outputs: its status is 0, and each demanded one was made
pub record IsSuccess (w : Work) (pairs : Pairs) : Type 0 where
  pub succeeded : w.fresh.status ≡ pos 0
  pub made : collected (names_of w.outputs) w.fresh.contents ≡ all pairs

-- where a request wants the output of a name
abbrev pub path_of : Artifacts → Bytes → Bytes
path_of [] name = []
path_of (o ∷ outputs) name = if bytes_eq o.0 name then o.1.path else path_of outputs name

-- outputs by name, contents and the request's own path
abbrev pub placed : Artifacts → Pairs → List Output
placed outputs pairs = map (λ pair. record { name = pair.0; path = path_of outputs pair.0; contents = pair.1 }) pairs

-- the fault of a compile that ended with status 0
abbrev pub missing_fault_of : Collected → Option Fault
missing_fault_of (missing name) = Some (MissingOutput name)
missing_fault_of (all pairs) = None

-- the fault of the compile
abbrev pub compile_fault_of : Work → Option Fault
compile_fault_of w = if int_eq w.fresh.status (pos 0) then missing_fault_of (collected (names_of w.outputs) w.fresh.contents) else Some (CompileFailed w.fresh.status)
