-- Which item of a request's words decides.
use Rattle.std.specs.Prelude.{◌≡◌, List, ◌∷◌, ◌++◌, None}
use Rattle.base_files.specs.Bytes.{Bytes}
use Rattle.base_files.specs.Tree.{Tree}
use Rattle.cmdlines_base.specs.Reading.{Item}
use Rattle.rustc_options.specs.declared.kind.ArgKind.{ArgKind}
use Rattle.rustkeys_base.specs.Parsing.{decides_after}

-- none of them decides after those before it
abbrev pub NoneDecides : Bytes → Tree → List (Item ArgKind) → Type 0
NoneDecides dir files items =
    (earlier : List (Item ArgKind)) (item : Item ArgKind) (later : List (Item ArgKind))
    → items ≡ earlier ++ item ∷ later
    → decides_after dir files earlier item ≡ None
