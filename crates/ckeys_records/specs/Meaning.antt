-- What a tool means: one function of the step, what it is asked, the outputs asked for and the scene.
use Rattle.std.specs.Prelude.{◌≡◌, ◌⊎◌, ℕ, ℤ, List, [], ◌∷◌, Option, None, Some, map}
use Rattle.base_files.specs.Bytes.{Bytes, ticked}
use Rattle.base_files.specs.Tree.{Tree}
use Rattle.cmdlines_base.specs.Reading.{Reading}
use Rattle.cmdlines_base.specs.declared.command.SingleCompileCommand.{SingleCompileCommand}
use Rattle.cmdlines_base.specs.Artifacts.{Artifacts}
use Rattle.cmdlines_tables.specs.Tables.{reading_of}
use Rattle.cmdlines_tables.specs.declared.compiler.CCompilerKind.{CCompilerKind}
use Rattle.cmdlines_tables.specs.declared.kind.ArgKind.{ArgKind}
use Rattle.ckeys_records.specs.declared.output_name.OutputName.{OutputName}
use Rattle.ckeys_records.specs.declared.step.Step.{Step}
use Rattle.ckeys_records.specs.declared.step.Step.TheVariants.{Preprocess, Compile, DepInfo, FileNames, ArchiveDigest}

-- names and values of variables, in order
abbrev pub Variables : Type 0
Variables = List (Bytes × Bytes)

-- where and when a command runs
pub record Scene : Type 0 where
  pub executable : Bytes
  pub dir : Bytes
  pub env : Variables
  pub files : Tree
  pub moment : ℤ

-- how a step ended, and for each output that was asked for its contents, or that it wasn't made
pub record Made : Type 0 where
  pub status : ℤ
  pub contents : List (Option Bytes)

-- what a tool is asked: what a C compiler's tables read of a command, the words of one for rustc, or the path of an archive
pub data Asked : Type 0 where
  options : Reading ArgKind → Asked
  words : List Bytes → Asked
  archive : Bytes → Asked

-- what a C compiler of that kind is asked by the words of a command
abbrev pub asked_of : CCompilerKind → List Bytes → Asked
asked_of kind command = options (reading_of kind command)

abbrev pub Meaning : Type 0
Meaning = Step → Asked → List OutputName → Scene → Made

-- these files, at that moment, and where this executable runs
abbrev pub scene_with : Bytes → Bytes → Variables → Tree → ℤ → Scene
scene_with executable dir env files moment = record { executable = executable; dir = dir; env = env; files = files; moment = moment }

-- the scene of a command that runs on these files at that moment
abbrev pub scene_of : SingleCompileCommand → Tree → ℤ → Scene
scene_of command files moment = scene_with command.executable command.cwd command.env_vars files moment

-- outputs by name alone
abbrev pub names_of : Artifacts → List OutputName
names_of outputs = map (λ output. record { name = output.0; optional = output.1.optional }) outputs

abbrev pub made_of : ℤ → List (Option Bytes) → Made
made_of status contents = record { status = status; contents = contents }

-- Why a step had an I/O error: a call of that step, from a state of the same meaning with none yet, left the tool as it is now and moved its failure tick.
pub record FailsIn {T : Type 0} (meaning : T → Meaning) (failed : T → ℕ) (fails_in : T → Step → T → Type 0) (old : T) (new : T) (step : Step) : Type 0 where
  pub from : T
  pub same : meaning from ≡ meaning old
  pub steady : failed from ≡ failed old
  pub ticks : failed new ≡ ticked (failed from)
  pub leads : fails_in from step new

-- The step's tick moves by one, and the other's stays. rustc's answers on dependencies and names count as texts do, and digests of archives as nothing.
abbrev pub StepTicks : Step → ℕ → ℕ → ℕ → ℕ → Type 0
StepTicks Preprocess printed printed_new compiled compiled_new = (printed_new ≡ ticked printed) × (compiled_new ≡ compiled)
StepTicks Compile printed printed_new compiled compiled_new = (compiled_new ≡ ticked compiled) × (printed_new ≡ printed)
StepTicks DepInfo printed printed_new compiled compiled_new = (printed_new ≡ ticked printed) × (compiled_new ≡ compiled)
StepTicks FileNames printed printed_new compiled compiled_new = (printed_new ≡ ticked printed) × (compiled_new ≡ compiled)
StepTicks ArchiveDigest printed printed_new compiled compiled_new = (printed_new ≡ printed) × (compiled_new ≡ compiled)

-- the text that a step printed
abbrev pub text_in : List (Option Bytes) → Bytes
text_in [] = []
text_in (None ∷ others) = []
text_in (Some text ∷ others) = text

-- a tick that moved at most once
abbrev pub AtMostOnce : ℕ → ℕ → Type 0
AtMostOnce before after = (after ≡ before) ⊎ (after ≡ ticked before)
