-- What is reported for an entry: why it is passed through, what keeps direct mode from being used, and
-- options to beware of.
use Rattle.std.specs.Prelude.{◌≡◌, Bool, List, [], ◌++◌, Option, None, Some, codes, string_bytes}
use Rattle.std.specs.List.{list_any}
use Rattle.std.specs.Option.{option_map}
use Rattle.std.specs.Str.Lossy.{utf8_lossy}
use Rattle.base_files.specs.Bytes.{Bytes}
use Rattle.base_files.specs.Tree.{Tree}
use Rattle.cmdlines.specs.Parsing.{asks, not_compilation, cannot_cache}
use Rattle.cmdlines_tables.specs.declared.parsed.ParsedArguments.{ParsedArguments}
use Rattle.cmdlines_tables.specs.CompilerFacts.{spelling_of}
use Rattle.cmdlines_tables.specs.declared.compiler.Spelling.{Spelling}
use Rattle.cmdlines_tables.specs.declared.compiler.Spelling.TheVariants.{Gnu}
use Rattle.rustkeys_base.specs.Parsing as rust
use Rattle.sccache_recorded_builds.specs.Beware.{AreOnce, is_among, is_named, is_option}
use Rattle.sccache_recorded_builds.specs.Outcomes.{Outcome, by_c, by_rustc, unknown, outcome_in}
use Rattle.sccache_recorded_builds.specs.Verdicts.{verdict_of}
use Rattle.sccache_recorded_builds.specs.declared.entry.Entry.{Entry}
use Rattle.sccache_recorded_builds.specs.declared.entry_report.EntryReport.{EntryReport}

-- a reason, with more text or none
abbrev pub reason_with : Bytes → Option Bytes → Bytes
reason_with reason None = reason
reason_with reason (Some more) = reason ++ (codes ": " ++ more)

-- why the words of that executable are passed through
abbrev pub reason_for : Bytes → Outcome → Option Bytes
reason_for executable (by_c kind (asks parsed)) = None
reason_for executable (by_c kind not_compilation) = Some (codes "not a compilation")
reason_for executable (by_c kind (cannot_cache reason more)) = Some (reason_with reason more)
reason_for executable (by_rustc rust.asks) = None
reason_for executable (by_rustc rust.not_compilation) = Some (codes "not a compilation")
reason_for executable (by_rustc (rust.cannot_cache reason more)) = Some (reason_with reason more)
reason_for executable unknown = Some (codes "unknown compiler " ++ utf8_lossy executable)

-- the option that keeps direct mode from being used, of what a C compiler keeps
abbrev pub blocker_in : Outcome → Option Bytes
blocker_in (by_c kind (asks parsed)) =
    option_map utf8_lossy parsed.too_hard_for_preprocessor_cache_mode
blocker_in _ = None

-- the words among which options to beware of are looked for: of what Gcc and those like it keep,
-- those for the preprocessor and those that are hashed
abbrev pub words_looked_at_by : Spelling → ParsedArguments → List Bytes
words_looked_at_by Gnu parsed = parsed.preprocessor_args ++ parsed.common_args
words_looked_at_by spelling parsed = []

abbrev pub words_looked_at : Outcome → List Bytes
words_looked_at (by_c kind (asks parsed)) = words_looked_at_by (spelling_of kind) parsed
words_looked_at _ = []

-- one of these words is that option
abbrev pub holds_option : Bytes → Outcome → Bool
holds_option option outcome = list_any (is_option option) (words_looked_at outcome)

-- all this is reported for what the words of that executable come to
pub record Tells (executable : Bytes) (outcome : Outcome) (report : EntryReport) : Type 0 where
  pub decided : outcome_in report.decided ≡ outcome
  pub reason : option_map string_bytes report.reason ≡ reason_for executable outcome
  pub blocker : option_map string_bytes report.blocker ≡ blocker_in outcome
  pub held : (option : Bytes) → is_among option report.beware.items ≡ holds_option option outcome
  pub once : AreOnce report.beware.items

-- The same of an entry, whose words the files decide.
abbrev pub is_passed_for : Tree → Bytes → Entry → Bool
is_passed_for tree reason entry =
    is_named reason (reason_for entry.executable (verdict_of tree entry))

abbrev pub is_blocked_by : Tree → Bytes → Entry → Bool
is_blocked_by tree option entry = is_named option (blocker_in (verdict_of tree entry))

abbrev pub holds : Tree → Bytes → Entry → Bool
holds tree option entry = holds_option option (verdict_of tree entry)
