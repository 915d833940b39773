-- A request of which all is known before the store of outputs is asked, and what is left to do for it.
use Rattle.std.specs.Prelude.{◌≡◌, ℤ, true, Option, IsSome, Result, Ok, Err}
use Rattle.base_files.specs.Bytes.{Bytes}
use Rattle.base_files.specs.Tree.{Tree}
use Rattle.cmdlines_base.specs.Artifacts.{Artifacts}
use Rattle.cmdlines_base.specs.declared.command.SingleCompileCommand.{SingleCompileCommand}
use Rattle.cmdlines_tables.specs.declared.compiler.CCompilerKind.{CCompilerKind}
use Rattle.ckeys_records.specs.Meaning.{Meaning, names_of, scene_of}
use Rattle.ckeys_records.specs.declared.fault.Fault.{Fault}
use Rattle.ckeys_records.specs.declared.step.Step.{Step}
use Rattle.ckeys_records.specs.declared.step.Step.TheVariants.{Compile}
use Rattle.wrap_keys.specs.CallRecords.{IsTold}
use Rattle.wrap_keys.specs.Account.{Work}
use Rattle.wrap.specs.Steps.{CompileCause}
use Rattle.wrap_keys.specs.StoreKeys.{store_key_with}
use Rattle.wrap.specs.declared.prepared.Prepared.{Prepared}
use Rattle.wrap_base.specs.AskedBy.{asked_by}
use Rattle.wrap_base.specs.declared.answer.Answer.{Answer}
use Rattle.wrap_base.specs.declared.answer.Answer.TheVariants.{Pass, Outputs}

-- the command, run on these files at that moment, makes the work's outputs afresh
pub record Makes (meaning : Meaning) (tree : Tree) (kind : Option CCompilerKind) (command : SingleCompileCommand) (artifacts : Artifacts) (moment : ℤ) (w : Work) : Type 0 where
  pub outputs : artifacts ≡ w.outputs
  pub fresh : meaning Compile (asked_by kind command.arguments) (names_of artifacts) (scene_of command tree moment) ≡ w.fresh

-- The request has the work's key but for where the digest comes from; its record's words can be told apart; its command makes the work's outputs; and the text on dependencies beside them is the work's. A record gave the key only where the work asks for one.
pub record IsPrepared (digest_of : Bytes → Bytes) (meaning : Meaning) (tree : Tree) (w : Work) (p : Prepared) : Type 0 where
  pub is_key : p.key ≡ store_key_with digest_of w p.key.digest
  pub told : IsTold digest_of w.rec
  pub makes : Makes meaning tree p.kind p.command.now p.outputs.now p.moment w
  pub direct : p.from_record ≡ true → IsSome w.direct
  pub dep_info : p.dep_info ≡ w.dep_info

-- what is said once the store is asked: outputs, or a fault with its cause in the compile
abbrev pub SaysFinished : Work → (Step → Type 0) → Result Answer Fault → Type 0
SaysFinished w device_in (Ok (Pass reason)) = ⊥
SaysFinished w device_in (Ok (Outputs map how dep_info)) = dep_info ≡ w.dep_info
SaysFinished w device_in (Err fault) = CompileCause w device_in fault
