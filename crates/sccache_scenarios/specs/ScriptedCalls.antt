-- Calls of the scripted tool whose folders are the configuration's.
use Rattle.std.specs.Prelude.{◌≡◌, List, Some}
use Rattle.std.specs.List.{concat}
use Rattle.base_files.specs.Tree.{Tree}
use Rattle.cmdlines.specs.Parsing.{HasSafeInput, IsGivenByOption, parse_of}
use Rattle.cmdlines.specs.Parsing as parsing
use Rattle.cmdlines_tables.specs.declared.parsed.ParsedArguments.{ParsedArguments}
use Rattle.ckeys_records.specs.Folders.{Settings}
use Rattle.ckeys_records.specs.Meaning.{Made, names_of}
use Rattle.ckeys_records.specs.declared.output_name.OutputName.{OutputName}
use Rattle.sccache_script_tool.specs.Scripted.{compiled, scripted}
use Rattle.sccache_script_tool.specs.ScriptedCrates.{compiled_crate}
use Rattle.sccache_script_tool.specs.declared.crate_texts.CrateTexts.{CrateTexts}
use Rattle.wrap.specs.CallRecords.{CallRecord, of_c, of_rustc}
use Rattle.wrap.specs.Account.{Account, Work, account_at}
use Rattle.base_files.specs.Views.{FilesView}
use Rattle.ckeys_records.specs.Views.{ToolView}
use Rattle.wrap_base.specs.Commands.{CFound, NamedBy, by_c, by_rustc, named_by, words_at}
use Rattle.wrap_base.specs.declared.call.Call.{Call}
use Rattle.wrap_base.specs.declared.request.Request.{Request}

-- Where a request to a C compiler asks for something, its input can be put where it's written: the tables read the word there as an input.
abbrev pub HasSafeSourceFor : CFound → Tree → Request → Type 0
HasSafeSourceFor found tree request = (p : ParsedArguments) → parse_of found.kind (words_at found request tree) ≡ parsing.asks p → HasSafeInput found.kind p

abbrev pub HasSafeSourceBy : NamedBy → Tree → Request → Type 0
HasSafeSourceBy (by_c found) tree request = HasSafeSourceFor found tree request
HasSafeSourceBy (by_rustc rust) tree request = Unit {0}

abbrev pub HasSafeSource : Tree → Request → Type 0
HasSafeSource tree request = HasSafeSourceBy (named_by request.compiler) tree request

-- an option of a C compiler gave the input
abbrev pub IsGivenBy : NamedBy → Tree → Request → Type 0
IsGivenBy (by_c found) tree request = IsGivenByOption found.kind (words_at found request tree)
IsGivenBy (by_rustc rust) tree request = ⊥

-- the account of a request whose input can be put where it's written, over a scripted tool with the configuration's folders, whatever its rustc reports
pub record IsScripted (settings : Settings) (a : Account) : Type 0 where
  pub told : CrateTexts
  pub tree : Tree
  pub request : Request
  pub is : account_at (scripted settings.basedirs told) tree settings request ≡ a
  pub safe : HasSafeSource tree request

-- what the scripted tool makes of a record: a C compiler of its text, and rustc of the contents of its sources in a row
abbrev pub made_of_record : CallRecord → List OutputName → Made
made_of_record (of_c r) outputs = compiled (Some r.text) outputs
made_of_record (of_rustc r) outputs = compiled_crate (Some (concat r.sources)) outputs

-- the fresh outcome is what the scripted tool makes of the record
abbrev pub IsMadeOfRecord : Work → Type 0
IsMadeOfRecord w = w.fresh ≡ made_of_record w.rec (names_of w.outputs)

-- a call of such a request by such a tool
pub record IsScriptedCall {F T : Type 0} (settings : Settings) (files : FilesView F) (tool : ToolView T) (c : Call F T) : Type 0 where
  pub told : CrateTexts
  pub means : tool.meaning c.tool ≡ scripted settings.basedirs told
  pub safe : HasSafeSource (files.tree c.files) c.request
