-- Laws of the decision, item by item.
use Rattle.std.proofs.Common.{◌≡◌, Bool, true, false, List, [], ◌∷◌, Option, Some, None, refl, ap, sym, subst, ◌∙◌}
use Rattle.std.specs.Bool.{if◌then◌else◌}
use Rattle.std.specs.Prelude.{is_some, map}
use Rattle.std.specs.List.{AllZip}
use Rattle.base_files.specs.Bytes.{Bytes}
use Rattle.base_files.specs.Tree.{Tree}
use Rattle.cmdlines_base.specs.Cutting.{Place, reading_at}
use Rattle.cmdlines_base.specs.Reading.{Item, Reading, before}
use Rattle.cmdlines_base.specs.Values.{FailsToCut, values_by}
use Rattle.cmdlines_base.specs.declared.argument.Argument.{Argument}
use Rattle.cmdlines_base.specs.declared.argument_error.ArgParseError.{ArgParseError}
use Rattle.cmdlines_base.specs.declared.argument_error.ArgParseError.TheVariants.{UnexpectedEndOfArgs, InvalidUnicode, Other, Memory}
use Rattle.cmdlines_base.specs.declared.compiler_arguments.CompilerArguments.{CompilerArguments}
use Rattle.cmdlines_base.specs.declared.compiler_arguments.CompilerArguments.TheVariants as answers
use Rattle.rustc_options.specs.Data.{IsFlagValue, IsWordValue, refusal}
use Rattle.rustc_options.specs.Table.{rustc_entries}
use Rattle.rustc_options.specs.declared.data.ArgData.{ArgData}
use Rattle.rustc_options.specs.declared.kind.ArgKind.{ArgKind}
use Rattle.rustkeys_base.specs.Facts.{facts_of, facts_with}
use Rattle.rustkeys_base.specs.Requests.{IsArgument, IsAsked, IsAskedBy, IsParsed, wanted}
use Rattle.rustkeys_base.specs.Saying.{token_of}
use Rattle.rustkeys_base.specs.Parsing.{AsksNothing, Decision, closing, decides, is_misread, not_parsed, unless_decided}
use Rattle.rustkeys_base.specs.declared.facts.Facts.{Facts}
use Rattle.rustc_options.specs.declared.parsed.ParsedArguments.{ParsedArguments}

-- The decision as a parse comes to it, item by item, from what is known.
abbrev pub decision_from : Bytes → Tree → Facts → List (Item ArgKind) → Bool → Decision
decision_from dir files so_far [] cut_short = if cut_short then not_parsed else closing so_far
decision_from dir files so_far (item ∷ items) cut_short =
    if is_misread item then not_parsed
    else unless_decided (decides dir files so_far (token_of item)) (decision_from dir files (facts_with so_far (token_of item ∷ [])) items cut_short)

-- what is known, and the items that are left
abbrev pub decision_at : Bytes → Tree → Facts → Reading ArgKind → Decision
decision_at dir files f r = decision_from dir files f r.items r.cut_short

module _ (dir : Bytes) (files : Tree) (f : Facts) (item : Item ArgKind) (left : Reading ArgKind) where
  -- an item that decides nothing
  pub decision-more : is_misread item ≡ false → decides dir files f (token_of item) ≡ None → decision_at dir files f (before item left) ≡ decision_at dir files (facts_with f (token_of item ∷ [])) left
  decision-more accepted nothing = rw (accepted, nothing) refl

-- what is asked for by what is known of all items, and by arguments that represent those that are wanted
pub asked : (dir : Bytes) (files same : Tree) (items : List (Item ArgKind)) (f : Facts) (kept : List (Argument ArgData)) → files ≡ same → f ≡ facts_of (map token_of items) → AllZip IsArgument (wanted items) kept
    → (answer : CompilerArguments ParsedArguments) → IsAskedBy dir files f kept answer → IsAsked dir same items answer
asked dir files same items f kept e known stand (answers.Ok p) h = (
  subst (λ t. IsParsed dir t (facts_of (map token_of items)) p) e (subst (λ g. IsParsed dir files g p) known h.0),
  subst (λ (l : List (Argument ArgData)). AllZip IsArgument (wanted items) l) (sym h.1) stand,
)
asked dir files same items f kept e known stand answers.NotCompilation h = tt
asked dir files same items f kept e known stand (answers.CannotCache reason more) h = tt

-- an option that has no value
pub nothing_is : {X : Type 0} (o : Option X) → false ≡ is_some o → o ≡ None
nothing_is None h = refl
nothing_is (Some x) h = cc
