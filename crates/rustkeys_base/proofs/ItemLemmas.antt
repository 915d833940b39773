-- Arguments and the items that they are of.
use Rattle.std.proofs.Common.{◌≡◌, Bool, true, false, List, [], ◌∷◌, ◌++◌, refl, ap, sym, subst, ◌∙◌, append_assoc}
use Rattle.std.specs.List.{AllZip}
use Rattle.cmdlines_base.specs.Pieces.{normalized}
use Rattle.cmdlines_base.specs.Printing.{normalized_disposition}
use Rattle.cmdlines_base.specs.Reading.{Item, raw, unknown, flag, valued, after_dashes}
use Rattle.cmdlines_base.specs.declared.argument.Argument.{Argument}
use Rattle.cmdlines_base.specs.declared.argument.Argument.TheVariants as arguments
use Rattle.cmdlines_base.specs.declared.argument.NormalizedDisposition.TheVariants.{Separated}
use Rattle.rustc_options.specs.declared.data.ArgData.{ArgData}
use Rattle.rustc_options.specs.declared.kind.ArgKind.{ArgKind}
use Rattle.rustkeys_base.specs.Requests.{IsArgument, apart, is_color, kept_with, wanted}
use Rattle.rustkeys_base.specs.Saying.{loose, says, token_in, token_of}

-- both say the same
pub token_is : (item : Item ArgKind) (argument : Argument ArgData) → IsArgument item argument → token_in argument ≡ token_of item
token_is (raw w) (arguments.Raw v) h = ap loose h
token_is (raw w) (arguments.UnknownFlag v) h = absurd h
token_is (raw w) (arguments.Flag g t) h = absurd h
token_is (raw w) (arguments.WithValue g t e) h = absurd h
token_is (unknown w) (arguments.Raw v) h = absurd h
token_is (unknown w) (arguments.UnknownFlag v) h = refl
token_is (unknown w) (arguments.Flag g t) h = absurd h
token_is (unknown w) (arguments.WithValue g t e) h = absurd h
token_is (flag f k) (arguments.Raw v) h = absurd h
token_is (flag f k) (arguments.UnknownFlag v) h = absurd h
token_is (flag f k) (arguments.Flag g t) h = λ i. says (h.0 i) (h.1 i)
token_is (flag f k) (arguments.WithValue g t e) h = absurd h
token_is (valued f k w d) (arguments.Raw v) h = absurd h
token_is (valued f k w d) (arguments.UnknownFlag v) h = absurd h
token_is (valued f k w d) (arguments.Flag g t) h = absurd h
token_is (valued f k w d) (arguments.WithValue g t e) h = λ i. says (h.0 i) (h.1.0 i)
token_is (after_dashes w) (arguments.Raw v) h = ap loose h
token_is (after_dashes w) (arguments.UnknownFlag v) h = absurd h
token_is (after_dashes w) (arguments.Flag g t) h = absurd h
token_is (after_dashes w) (arguments.WithValue g t e) h = absurd h

-- each is separate from its value
pub apart_is : (item : Item ArgKind) (argument : Argument ArgData) → IsArgument item argument → IsArgument (apart item) (normalized Separated argument)
apart_is (raw w) (arguments.Raw v) h = h
apart_is (raw w) (arguments.UnknownFlag v) h = absurd h
apart_is (raw w) (arguments.Flag g t) h = absurd h
apart_is (raw w) (arguments.WithValue g t e) h = absurd h
apart_is (unknown w) (arguments.Raw v) h = absurd h
apart_is (unknown w) (arguments.UnknownFlag v) h = h
apart_is (unknown w) (arguments.Flag g t) h = absurd h
apart_is (unknown w) (arguments.WithValue g t e) h = absurd h
apart_is (flag f k) (arguments.Raw v) h = absurd h
apart_is (flag f k) (arguments.UnknownFlag v) h = absurd h
apart_is (flag f k) (arguments.Flag g t) h = h
apart_is (flag f k) (arguments.WithValue g t e) h = absurd h
apart_is (valued f k w d) (arguments.Raw v) h = absurd h
apart_is (valued f k w d) (arguments.UnknownFlag v) h = absurd h
apart_is (valued f k w d) (arguments.Flag g t) h = absurd h
apart_is (valued f k w d) (arguments.WithValue g t e) h = (h.0, h.1, ap (normalized_disposition Separated) h.2)
apart_is (after_dashes w) (arguments.Raw v) h = h
apart_is (after_dashes w) (arguments.UnknownFlag v) h = absurd h
apart_is (after_dashes w) (arguments.Flag g t) h = absurd h
apart_is (after_dashes w) (arguments.WithValue g t e) h = absurd h

module _ (items : List (Item ArgKind)) (item : Item ArgKind) (argument : Argument ArgData) (is : IsArgument item argument) where
  -- an argument on colours isn't wanted, and any other comes before those that are
  pub wanted-left_out : is_color (token_in argument) ≡ true → wanted (item ∷ items) ≡ wanted items
  wanted-left_out h = let c : is_color (token_of item) ≡ true = ap is_color (sym (token_is item argument is)) ∙ h in rw c refl

  pub wanted-kept : is_color (token_in argument) ≡ false → wanted (item ∷ items) ≡ apart item ∷ wanted items
  wanted-kept h = let c : is_color (token_of item) ≡ false = ap is_color (sym (token_is item argument is)) ∙ h in rw c refl

-- Arguments that represent the wanted ones of all items, once those for the items that are left come after them.
abbrev pub Continues : List (Item ArgKind) → List (Argument ArgData) → List (Item ArgKind) → Type 0
Continues left kept all = (rest : List (Argument ArgData)) → AllZip IsArgument (wanted left) rest → AllZip IsArgument (wanted all) (kept ++ rest)

pub continues-more : (item : Item ArgKind) (left all : List (Item ArgKind)) (argument : Argument ArgData) (kept new : List (Argument ArgData)) → IsArgument item argument
    → new ≡ kept_with kept argument
    → Continues (item ∷ left) kept all → Continues left new all
continues-more item left all argument kept new is made so_far rest is_rest = by (is_color (token_in argument)) refl
  where
    by : (b : Bool) → is_color (token_in argument) ≡ b → AllZip IsArgument (wanted all) (new ++ rest)
    by true q =
        let same : new ≡ kept = made ∙ rw q refl in
        subst (λ (l : List (Argument ArgData)). AllZip IsArgument (wanted all) (l ++ rest)) (sym same) (so_far rest (subst (λ (l : List (Item ArgKind)). AllZip IsArgument l rest) (sym (wanted-left_out left item argument is q)) is_rest))
    by false q =
        let same : new ≡ kept ++ normalized Separated argument ∷ [] = made ∙ rw q refl in
        subst (λ (l : List (Argument ArgData)). AllZip IsArgument (wanted all) (l ++ rest)) (sym same)
        (subst (λ (l : List (Argument ArgData)). AllZip IsArgument (wanted all) l) (sym (append_assoc kept (normalized Separated argument ∷ []) rest))
        (so_far (normalized Separated argument ∷ rest) (subst (λ (l : List (Item ArgKind)). AllZip IsArgument l (normalized Separated argument ∷ rest)) (sym (wanted-kept left item argument is q)) (apart_is item argument is, is_rest))))
