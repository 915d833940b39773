-- What a build's steps come to.
use Rattle.std.specs.Prelude.{List, Result, Ok, Err}
use Rattle.std.specs.List.{AllByRecursion}
use Rattle.ckeys_records.specs.declared.fault.Fault.{Fault}
use Rattle.wrap.specs.Answers.{Answers}
use Rattle.wrap.specs.Whole.{Served}
use Rattle.wrap_base.specs.declared.answer.Answer.{Answer}
use Rattle.wrap_base.specs.declared.answer.Answer.TheVariants.{Pass, Outputs}
use Rattle.wrap_base.specs.declared.answer.How.TheVariants.{Direct, Stored, Fresh}

-- outputs were answered that no compile of this step made
abbrev pub IsSkipped : Result Answer Fault → Type 0
IsSkipped (Ok (Pass reason)) = ⊥
IsSkipped (Ok (Outputs map Direct dep_info)) = Unit {0}
IsSkipped (Ok (Outputs map Stored dep_info)) = Unit {0}
IsSkipped (Ok (Outputs map Fresh dep_info)) = ⊥
IsSkipped (Err fault) = ⊥

-- each step that is skipped has the outputs that its compiler makes afresh, on its own files
abbrev pub SkippedAreMade : List Served → Type 0
SkippedAreMade run = AllByRecursion (λ s. IsSkipped s.result → Answers s.account s.result) run
