-- What the words of an entry come to, by the definitions of each compiler's parse.
use Rattle.std.specs.Prelude.{Bool, true, false, not, List, Option, None, Some}
use Rattle.base_files.specs.Bytes.{Bytes}
use Rattle.base_files.specs.Tree.{Tree}
use Rattle.cmdlines.specs.Opening.{opened_words}
use Rattle.cmdlines.specs.Parsing.{Decision, asks, not_compilation, cannot_cache, decision_of, parse_of}
use Rattle.cmdlines_tables.specs.declared.compiler.CCompilerKind.{CCompilerKind}
use Rattle.rustkeys_base.specs.Expansion.{expanded_by_rustc}
use Rattle.rustkeys_base.specs.Parsing as rust
use Rattle.sccache_recorded_builds.specs.declared.deciding.Decided.{Decided}
use Rattle.sccache_recorded_builds.specs.declared.deciding.Decided.TheVariants as decided
use Rattle.sccache_recorded_builds.specs.declared.entry.Entry.{Entry}
use Rattle.sccache_recorded_builds.specs.declared.executables.EntryCompiler.{EntryCompiler}
use Rattle.sccache_recorded_builds.specs.declared.executables.EntryCompiler.TheVariants as compilers

-- what words come to: by a C compiler of that kind, by rustc, or by no compiler that is known
pub data Outcome : Type 0 where
  by_c : CCompilerKind → Decision → Outcome
  by_rustc : rust.Decision → Outcome
  unknown : Outcome

-- the words of an executable, with the response files that they name opened from that folder
abbrev pub outcome_by : Option EntryCompiler → Bytes → Tree → List Bytes → Outcome
outcome_by None dir tree words = unknown
outcome_by (Some (compilers.C kind)) dir tree words =
    by_c kind (parse_of kind (opened_words kind dir tree words))
outcome_by (Some compilers.Rustc) dir tree words =
    let reading = rust.request_reading (expanded_by_rustc dir tree words) in
    by_rustc (rust.decision_on dir tree reading)

abbrev pub outcome_of : Tree → Entry → Outcome
outcome_of tree entry = outcome_by entry.compiler entry.dir tree entry.words

-- what an answer says
abbrev pub outcome_in : Decided → Outcome
outcome_in (decided.C kind answer) = by_c kind (decision_of answer)
outcome_in (decided.Rustc answer) = by_rustc (rust.decision_of answer)
outcome_in decided.Unknown = unknown

-- whether the compiler runs as if there were no cache
abbrev pub is_passed : Outcome → Bool
is_passed (by_c kind (asks parsed)) = false
is_passed (by_c kind not_compilation) = true
is_passed (by_c kind (cannot_cache reason more)) = true
is_passed (by_rustc rust.asks) = false
is_passed (by_rustc rust.not_compilation) = true
is_passed (by_rustc (rust.cannot_cache reason more)) = true
is_passed unknown = true

-- whether the outputs are kept
abbrev pub is_kept : Outcome → Bool
is_kept outcome = not (is_passed outcome)
