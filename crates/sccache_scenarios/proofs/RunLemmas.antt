-- What is assumed of outcomes, for runs over the scripted tool.
use Rattle.std.proofs.Common.{◌≡◌, ◌⊎◌, All, List, Some, sym, ap, ◌∙◌, inl, inr}
use Rattle.std.specs.Prelude.{slice_index_or}
use Rattle.std.proofs.lemmas.List.Elements.{All-contains, All-map}
use Rattle.base_files.specs.Bytes.{Bytes}
use Rattle.base_files.specs.Tree.{Tree}
use Rattle.cmdlines.specs.Parsing.{HasSafeInput, HasSafeInputIn, IsGivenByOption, parse_of}
use Rattle.cmdlines_tables.specs.declared.compiler.CCompilerKind.{CCompilerKind}
use Rattle.ckeys.specs.Entries.{AreReprinted}
use Rattle.ckeys_records.specs.Folders.{Settings}
use Rattle.ckeys_records.specs.Keys.{Distinct}
use Rattle.ckeys_records.specs.Meaning.{names_of}
use Rattle.wrap.specs.Account.{Account, Work, account_at, direct_calls, worked}
use Rattle.wrap.specs.StoreKeys.{HasRecord, IsHashedIn, Premises, SameRecord}
use Rattle.base_files.specs.Views.{FilesView}
use Rattle.ckeys_records.specs.Views.{ToolView}
use Rattle.wrap.specs.Whole.{accounts_at}
use Rattle.wrap_base.specs.Commands.{CFound, NamedBy, by_c, by_rustc, named_by, words_at}
use Rattle.wrap_base.specs.declared.call.Call.{Call}
use Rattle.wrap_base.specs.declared.request.Request.{Request}
use Rattle.sccache_scenarios.specs.ScriptedCalls.{HasSafeSource, HasSafeSourceBy, HasSafeSourceFor, IsGivenBy, IsScripted, IsScriptedCall, made_of_record}
use Rattle.sccache_scenarios.proofs.OutcomeLemmas.{MakeOfRecords}

abbrev pub AreEqual : Type 0
AreEqual = (one other : Settings) (a b : Work) → IsScripted one (worked a) → IsScripted other (worked b) → HasRecord a → HasRecord b → SameRecord a b → a.fresh ≡ b.fresh

pub outcomes_equal : MakeOfRecords → AreEqual
outcomes_equal make one other a b of_one of_other fine fine_too same =
    make one a of_one fine
    ∙ ap (λ r. made_of_record r (names_of a.outputs)) same.parts
    ∙ ap (made_of_record b.rec) same.names
    ∙ sym (make other b of_other fine_too)

pub source_safe : ((kind : CCompilerKind) (words : List Bytes) → HasSafeInputIn kind words (parse_of kind words)) → (tree : Tree) (request : Request) → (IsGivenBy (named_by request.compiler) tree request → ⊥) → HasSafeSource tree request
source_safe safe tree request not_given = by (named_by request.compiler) not_given
  where
    of_c : (found : CFound) → (IsGivenByOption found.kind (words_at found request tree) → ⊥) → HasSafeSourceFor found tree request
    of_c found not p h = elim (safe found.kind (words_at found request tree) p h) [
      | inl it_is ↦ it_is
      | inr given ↦ absurd (not given)
    ]

    by : (n : NamedBy) → (IsGivenBy n tree request → ⊥) → HasSafeSourceBy n tree request
    by (by_c found) not = of_c found not
    by (by_rustc rust) not = tt

pub run_meets : AreEqual → (digest_of : Bytes → Bytes) (settings : Settings) (run : List Account) → All (IsScripted settings) run → Distinct digest_of (IsHashedIn digest_of run) → AreReprinted (direct_calls run) → Premises digest_of run
run_meets equal digest_of settings run all distinct reprinted = record {
  distinct = distinct;
  settled = λ a b in_run also. equal settings settings a b (All-contains (IsScripted settings) run (worked a) all in_run) (All-contains (IsScripted settings) run (worked b) all also);
  reprinted = reprinted;
}

module _ {F T : Type 0} (settings : Settings) (files : FilesView F) (tool : ToolView T) where
  call_scripted : (c : Call F T) → IsScriptedCall settings files tool c → IsScripted settings (account_at (tool.meaning c.tool) (files.tree c.files) settings c.request)
  call_scripted c h = record {
    told = h.told;
    tree = files.tree c.files;
    request = c.request;
    is = ap (λ meaning. account_at meaning (files.tree c.files) settings c.request) (sym h.means);
    safe = h.safe;
  }

  pub calls_scripted : (calls : List (Call F T)) → All (IsScriptedCall settings files tool) calls → All (IsScripted settings) (accounts_at settings files tool calls)
  calls_scripted calls all = All-map (IsScripted settings) (λ c. account_at (tool.meaning c.tool) (files.tree c.files) settings c.request) calls (λ k d at. call_scripted (slice_index_or calls k d) (all k d at))
