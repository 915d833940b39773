-- Words without the byte that ends them.
use Rattle.std.proofs.Common.{◌≡◌, ℕ, Bool, true, false, ◌||◌, ◌==◌, List, [], ◌∷◌, refl}
use Rattle.std.specs.List.{AllByRecursion, list_any}
use Rattle.base_files.specs.Bytes.{Bytes}
use Rattle.ckeys_base.specs.FolderPlaces.{Places, argument_places}
use Rattle.ckeys_base.specs.FromTheLeft.{stripped_of}
use Rattle.ckeys_records.specs.Params.{stripped_words}
use Rattle.ckeys_records.specs.Records.{LacksEnd, hold_end, holds_end}

neither : (s t : Bool) → (s || t) ≡ false → (s ≡ false) × (t ≡ false)
neither true t h = cc
neither false t h = (refl, h)

pub none_ends : ((places : Places) (folders : List Bytes) (text : Bytes) (test : ℕ → Bool) → list_any test text ≡ false → list_any test (stripped_of places folders text) ≡ false)
    → (folders words : List Bytes) → hold_end words ≡ false → AllByRecursion LacksEnd (stripped_words folders words)
none_ends adds folders [] h = tt
none_ends adds folders (word ∷ words) h =
    let p = neither (holds_end word) (hold_end words) h in
    (adds argument_places folders word (λ b. b == 255) p.0, none_ends adds folders words p.1)
