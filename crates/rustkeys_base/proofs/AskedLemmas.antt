-- Files that are asked for.
use Rattle.std.proofs.Common.{◌≡◌, List, [], ◌∷◌, Result, Ok, Err, IfErr, sym, subst}
use Rattle.std.specs.List.{Contains, flat_map}
use Rattle.std.specs.Result.{IsErrAnd}
use Rattle.std.proofs.lemmas.List.Concat.{flat_map-cons}
use Rattle.std.proofs.lemmas.List.Elements.{Contains-append_left, Contains-append_right, Contains-push}
use Rattle.base_files.specs.Bytes.{Bytes}
use Rattle.cmdlines_response_files.specs.Causes.{CauseOf}
use Rattle.cmdlines_response_files.specs.declared.fault.ParseFault.{ParseFault}
use Rattle.cmdlines_response_files.specs.declared.fault.ParseFault.TheVariants.{Memory, Read}

-- a file that is asked for in one way is asked for in the other
pub cause_by : (P Q : Bytes → Type 0) → ((name : Bytes) → P name → Q name) → (fault : ParseFault) → CauseOf P fault → CauseOf Q fault
cause_by P Q h Memory c = c
cause_by P Q h (Read name) c = h name c

-- and so it is where that fault is returned
pub exit_by : {A : Type 0} (P Q : Bytes → Type 0) → ((name : Bytes) → P name → Q name) → (result : Result A ParseFault) (fault : ParseFault) → IsErrAnd result (λ f. f ≡ fault) → CauseOf P fault → IfErr result (CauseOf Q)
exit_by P Q h (Ok x) fault is c = tt
exit_by P Q h (Err f) fault is c = subst (CauseOf Q) (sym is) (cause_by P Q h fault c)

-- the first, and those after it
pub first_in : {X : Type 0} (x : X) (xs : List X) → Contains (x ∷ xs) x
first_in x xs = Contains-append_left (x ∷ []) xs x (Contains-push [] x)

pub later_in : {X : Type 0} (x : X) (xs : List X) (y : X) → Contains xs y → Contains (x ∷ xs) y
later_in x xs y h = Contains-append_right (x ∷ []) xs y h

-- what the first gives, and what those after it give
pub first_gives : {X Y : Type 0} (f : X → List Y) (x : X) (xs : List X) (y : Y) → Contains (f x) y → Contains (flat_map f (x ∷ xs)) y
first_gives f x xs y h = subst (λ (l : List _). Contains l y) (sym (flat_map-cons f x xs)) (Contains-append_left (f x) (flat_map f xs) y h)

pub later_gives : {X Y : Type 0} (f : X → List Y) (x : X) (xs : List X) (y : Y) → Contains (flat_map f xs) y → Contains (flat_map f (x ∷ xs)) y
later_gives f x xs y h = subst (λ (l : List _). Contains l y) (sym (flat_map-cons f x xs)) (Contains-append_right (f x) (flat_map f xs) y h)
