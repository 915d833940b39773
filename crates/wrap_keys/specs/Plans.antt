-- The code's verdict, and the commands of a request that isn't passed through.
use Rattle.std.specs.Prelude.{◌≡◌, ◌⊎◌, false, List}
use Rattle.base_files.specs.Bytes.{Bytes}
use Rattle.cmdlines.specs.Commands.{ReadsAs, output_path, compile_items, preprocess_items, preprocess_words}
use Rattle.cmdlines.specs.Hazards.{opens_file}
use Rattle.cmdlines.specs.Parsing.{HasSafeInput, IsGivenByOption}
use Rattle.cmdlines_tables.specs.Tables.{reading_of}
use Rattle.ckeys_records.specs.Records.{hold_end}
use Rattle.wrap_base.specs.Commands.{CFound, compile_command_of}
use Rattle.wrap_keys.specs.Verdicts.{Judgement, passes, asks, why_of, hashed_words}
use Rattle.wrap_base.specs.declared.request.Request.{Request}
use Rattle.wrap_keys.specs.declared.verdict.Plan.{Plan}
use Rattle.wrap_keys.specs.declared.verdict.Verdict.{Verdict}
use Rattle.wrap_keys.specs.declared.verdict.Verdict.TheVariants.{Passes, Asks}

-- a verdict, without where its texts lie in memory and without its command
abbrev pub judgement_of : Verdict → Judgement
judgement_of (Passes reason) = passes (why_of reason)
judgement_of (Asks plan) = asks plan.parsed

-- The plan's compile command is that of the request, no hashed word holds the byte that ends one, and no word of its two commands makes the compiler open a response file.
pub record IsPlanOf (found : CFound) (request : Request) (plan : Plan) : Type 0 where
  pub compile : plan.compile ≡ compile_command_of found request plan.parsed
  pub told : hold_end (hashed_words plan.parsed) ≡ false
  pub compile_opens_none : opens_file found.kind plan.compile.arguments ≡ false
  pub preprocess_opens_none : opens_file found.kind (preprocess_words found.kind plan.parsed) ≡ false

-- The compiler reads its two commands again as the wanted options of the request's words, with their files opened, beside its own words and the one input.
pub record IsReadAgain (found : CFound) (words : List Bytes) (plan : Plan) : Type 0 where
  pub compile : ReadsAs found.kind plan.compile.arguments (compile_items found.kind plan.parsed (output_path plan.parsed) (reading_of found.kind words).items)
  pub preprocess : ReadsAs found.kind (preprocess_words found.kind plan.parsed) (preprocess_items found.kind plan.parsed (reading_of found.kind words).items)

-- It does, where the input can be put where it's written, whoever gave it.
abbrev pub IsReadAgainWhereSafe : CFound → List Bytes → Plan → Type 0
IsReadAgainWhereSafe found words plan = HasSafeInput found.kind plan.parsed → IsReadAgain found words plan

-- It does, unless an option of Msvc gave the input.
abbrev pub IsReadAgainUnlessGiven : CFound → List Bytes → Plan → Type 0
IsReadAgainUnlessGiven found words plan = IsReadAgain found words plan ⊎ IsGivenByOption found.kind words

-- what holds of the plan of a request that isn't passed through
abbrev pub OnAsks : Verdict → (Plan → Type 0) → Type 0
OnAsks (Passes reason) P = Unit {0}
OnAsks (Asks plan) P = P plan
