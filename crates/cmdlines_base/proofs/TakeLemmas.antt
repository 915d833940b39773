-- What a first word and the words after it make.
use Rattle.std.proofs.Common.{◌≡◌, length, List, [], ◌∷◌, None, Some, Result, Ok, Err, IfErr, IsErrAnd, refl, ap, sym, subst, ◌∙◌, arith}
use Rattle.std.specs.Borrow.{Bor}
use Rattle.base_files.specs.Bytes.{Bytes}
use Rattle.cmdlines_base.specs.Refusal.{Refusal, IsErrorOf}
use Rattle.cmdlines_base.specs.Reading.{valued, Start, whole, awaits, ends}
use Rattle.cmdlines_base.specs.Cutting.{taken}
use Rattle.cmdlines_base.specs.Values.{Values, IsOf, IsFirst, IsRefused, Takes, FailsToTake}
use Rattle.cmdlines_base.specs.declared.argument.ArgDisposition.{ArgDisposition}
use Rattle.cmdlines_base.specs.declared.argument.ArgDisposition.TheVariants.{CanBeConcatenated, Concatenated}
use Rattle.cmdlines_base.specs.declared.argument.Argument.{Argument}
use Rattle.cmdlines_base.specs.declared.argument_error.ArgParseError.{ArgParseError}
use Rattle.cmdlines_base.specs.declared.argument_error.ArgParseError.TheVariants.{UnexpectedEndOfArgs, InvalidUnicode, Other, Memory}
use Rattle.cmdlines_base.specs.declared.cutting.First.TheVariants.{Whole, Awaits}

-- a list of length 0 is empty
pub nothing_left : {X : Type 0} (xs : List X) → length xs ≡ 0 → xs ≡ []
nothing_left [] h = refl
nothing_left (x ∷ xs) h = absurd (omega arith)

-- what holds of an error holds of the result that passes it on
pub passed_on : {X : Type 0} (P : ArgParseError → Type 0) (error : ArgParseError) → P error → (r : Result X ArgParseError) → IsErrAnd r (λ e. e ≡ error) → IfErr r P
passed_on P error h (Ok x) is = tt
passed_on P error h (Err e) is = subst P (sym is) h

module _ {T K : Type 0} (values : Values T K) (start : Start K) (rest : List Bytes) where
  pub takes-whole : (argument : Argument T) → IsFirst values start (Whole argument) → Takes values start rest argument rest
  takes-whole argument = by start
    where
      by : (s : Start K) → IsFirst values s (Whole argument) → Takes values s rest argument rest
      by (whole a) i = record { item = a; takes = refl; is = i.0; accepted = i.1 }
      by (awaits f k d) i = absurd i
      by ends i = absurd i

  pub fails-whole : (error : ArgParseError) → IsRefused values start error → FailsToTake values start rest error
  fails-whole error h = by start error h
    where
      none : {P : Type 0} (r : Refusal) → None ≡ Some r → P
      none r e = cc

      by : (s : Start K) (e : ArgParseError) → IsRefused values s e → FailsToTake values s rest e
      by (whole a) UnexpectedEndOfArgs i = absurd i
      by (whole a) (InvalidUnicode w) i = record { item = a; left = rest; takes = refl; refused = i }
      by (whole a) (Other t) i = record { item = a; left = rest; takes = refl; refused = i }
      by (whole a) Memory i = tt
      by (awaits f k d) UnexpectedEndOfArgs i = absurd i
      by (awaits f k d) (InvalidUnicode w) i = none _ i.0
      by (awaits f k d) (Other t) i = none _ i
      by (awaits f k d) Memory i = tt
      by ends UnexpectedEndOfArgs i = absurd i
      by ends (InvalidUnicode w) i = none _ i.0
      by ends (Other t) i = none _ i
      by ends Memory i = tt

  module _ (g : Bor Bytes) (l : K) (e : ArgDisposition) (awaited : IsFirst values start (Awaits g l e)) where
    awaits-is : start ≡ awaits g.now l e
    awaits-is = by start awaited
      where
        by : (s : Start K) → IsFirst values s (Awaits g l e) → s ≡ awaits g.now l e
        by (whole a) i = absurd i
        by (awaits f k d) i = rw (i.0, i.1, i.2) refl
        by ends i = absurd i

    refused-by : (error : ArgParseError) (word : Bytes) (d : ArgDisposition) (left : List Bytes) → taken start rest ≡ Some (valued g.now l word d, left) → IsErrorOf (values.refusal l word) word error → FailsToTake values start rest error
    refused-by UnexpectedEndOfArgs word d left t h = absurd h
    refused-by (InvalidUnicode w) word d left t h = record { item = valued g.now l word d; left = left; takes = t; refused = h }
    refused-by (Other w) word d left t h = record { item = valued g.now l word d; left = left; takes = t; refused = h }
    refused-by Memory word d left t h = tt

    -- with the next word for its value
    module _ (value : Bytes) (left : List Bytes) (are : rest ≡ value ∷ left) where
      value-taken : taken start rest ≡ Some (valued g.now l value e, left)
      value-taken = ap (λ s. taken s rest) awaits-is ∙ ap (taken (awaits g.now l e)) are

      pub takes-value : (argument : Argument T) → IsOf values (valued g.now l value e) argument → values.refusal l value ≡ None → Takes values start rest argument left
      takes-value argument is accepted = record { item = valued g.now l value e; takes = value-taken; is = is; accepted = accepted }

      pub fails-value : (error : ArgParseError) → IsErrorOf (values.refusal l value) value error → FailsToTake values start rest error
      fails-value error h = refused-by error value e left value-taken h

    -- at the end of the words, where the value may be empty
    module _ (joins : e ≡ CanBeConcatenated None) (none : rest ≡ []) where
      empty-taken : taken start rest ≡ Some (valued g.now l [] (Concatenated None), [])
      empty-taken = ap (λ s. taken s rest) awaits-is ∙ ap (taken (awaits g.now l e)) none ∙ ap (λ d. taken (awaits g.now l d) []) joins

      pub takes-empty : (argument : Argument T) → IsOf values (valued g.now l [] (Concatenated None)) argument → values.refusal l [] ≡ None → Takes values start rest argument rest
      takes-empty argument is accepted = record { item = valued g.now l [] (Concatenated None); takes = empty-taken ∙ ap (λ (ws : List Bytes). Some (valued g.now l [] (Concatenated None), ws)) (sym none); is = is; accepted = accepted }

      pub fails-empty : (error : ArgParseError) → IsErrorOf (values.refusal l []) [] error → FailsToTake values start rest error
      fails-empty error h = refused-by error [] (Concatenated None) [] empty-taken h
