-- What a compile gives, output by output, is what it gives of all outputs at once.
use Rattle.std.proofs.Common.{◌≡◌, ◌≤◌, ℕ, zero, suc, Bool, true, false, not, if◌then◌else◌, List, [], ◌∷◌, ◌++◌, length, replicate, Option, None, Some, refl, ap, ◌∙◌, arith}
use Rattle.std.specs.List.{find, zip}
use Rattle.base_files.specs.Bytes.{Bytes}
use Rattle.ckeys_records.specs.declared.output_name.OutputName.{OutputName}
use Rattle.wrap_keys.specs.Account.{Collected, all, after, collected, gathered, missing}
use Rattle.wrap_keys.specs.Gathering.{Outcome, gives, is_missed, outcomes_of, unless_missed}

-- output by output, each with its file beside it
abbrev gathered_all : List Outcome → Collected
gathered_all [] = all []
gathered_all (o ∷ outcomes) = gathered o.0 o.1 (gathered_all outcomes)

beside_files : (names : List OutputName) (files : List (Option Bytes)) (n : ℕ) → length names ≤ n → collected names files ≡ gathered_all (zip names (files ++ replicate n None))
beside_files [] files n h = refl
beside_files (o ∷ names) [] zero h = absurd (omega (arith, h))
beside_files (o ∷ names) [] (suc n) h = ap (gathered o None) (beside_files names [] n (omega (arith, h)))
beside_files (o ∷ names) (f ∷ files) n h = ap (gathered o f) (beside_files names files n (omega (arith, h)))

-- an output that was made, before the others
made_by : (o : OutputName) (contents : Bytes) (missed : Option Outcome) (outcomes : List Outcome)
    → after (o.name, contents) (unless_missed missed outcomes) ≡ unless_missed missed ((o, Some contents) ∷ outcomes)
made_by o contents None outcomes = refl
made_by o contents (Some m) outcomes = refl

-- one that was left out
left_by : (o : OutputName) (missed : Option Outcome) (outcomes : List Outcome) → unless_missed missed outcomes ≡ unless_missed missed ((o, None) ∷ outcomes)
left_by o None outcomes = refl
left_by o (Some m) outcomes = refl

-- one that wasn't made
unmade_by : (o : OutputName) (optional : Bool) (outcomes : List Outcome)
    → (if optional then unless_missed (find is_missed outcomes) outcomes else missing o.name)
    ≡ unless_missed (if not optional then Some (o, None) else find is_missed outcomes) ((o, None) ∷ outcomes)
unmade_by o true outcomes = left_by o (find is_missed outcomes) outcomes
unmade_by o false outcomes = refl

one_more : (o : OutputName) (file : Option Bytes) (outcomes : List Outcome)
    → gathered o file (unless_missed (find is_missed outcomes) outcomes)
    ≡ unless_missed (find is_missed ((o, file) ∷ outcomes)) ((o, file) ∷ outcomes)
one_more o (Some contents) outcomes = made_by o contents (find is_missed outcomes) outcomes
one_more o None outcomes = unmade_by o o.optional outcomes

of_all : (outcomes : List Outcome) → gathered_all outcomes ≡ unless_missed (find is_missed outcomes) outcomes
of_all [] = refl
of_all (o ∷ outcomes) = ap (gathered o.0 o.1) (of_all outcomes) ∙ one_more o.0 o.1 outcomes

pub gives_all : (names : List OutputName) (files : List (Option Bytes)) → collected names files ≡ gives names files
gives_all names files = beside_files names files (length names) (omega arith) ∙ of_all (outcomes_of names files)
