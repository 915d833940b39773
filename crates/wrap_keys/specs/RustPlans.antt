-- The code's verdict on a request to rustc, and what holds of what is asked for.
use Rattle.std.specs.Prelude.{◌≡◌, false}
use Rattle.std.specs.List.{list_any}
use Rattle.cmdlines_base.specs.Reading.{begins_with_at}
use Rattle.rustc_options.specs.Asks.{asks_in}
use Rattle.rustc_options.specs.declared.parsed.ParsedArguments.{ParsedArguments}
use Rattle.rustc_texts.specs.Words.{compile_words, dep_info_words, file_names_words}
use Rattle.wrap_keys.specs.RustVerdicts.{RustJudgement, asks, passes}
use Rattle.wrap_keys.specs.Verdicts.{why_of}
use Rattle.wrap_keys.specs.declared.rust_verdict.RustVerdict.{RustVerdict}
use Rattle.wrap_keys.specs.declared.rust_verdict.RustVerdict.TheVariants.{Passes, Asks}

-- a verdict, without where its texts and its flags lie in memory
abbrev pub judgement_of : RustVerdict → RustJudgement
judgement_of (Passes reason) = passes (why_of reason)
judgement_of (Asks parsed) = asks (asks_in parsed)

-- no word of the commands that are run for it makes rustc open a response file
pub record OpensNothing (parsed : ParsedArguments) : Type 0 where
  pub compile : list_any begins_with_at (compile_words (asks_in parsed)) ≡ false
  pub dep_info : list_any begins_with_at (dep_info_words (asks_in parsed)) ≡ false
  pub file_names : list_any begins_with_at (file_names_words (asks_in parsed)) ≡ false

-- what holds of what is asked for
abbrev pub OnAsks : RustVerdict → (ParsedArguments → Type 0) → Type 0
OnAsks (Passes reason) P = Unit {0}
OnAsks (Asks parsed) P = P parsed
