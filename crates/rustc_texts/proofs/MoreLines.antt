-- What one more line adds.
use Rattle.std.proofs.Common.{◌≡◌, List, [], ◌∷◌, ◌++◌, Option, Some, None, map, refl, ap, ◌∙◌}
use Rattle.std.specs.Prelude.{filter_map}
use Rattle.std.proofs.lemmas.List.{append-nil, map_push}
use Rattle.std.proofs.lemmas.List.Elements.{filter_map-append}

module _ {X Y Z : Type 0} (view : X → Y) (h : Y → Option Z) (xs : List X) (x : X) where
  parted : filter_map h (map view (xs ++ x ∷ [])) ≡ filter_map h (map view xs) ++ filter_map h (view x ∷ [])
  parted = ap (filter_map h) (map_push view xs x) ∙ filter_map-append h (map view xs) (view x ∷ [])

  pub one_told : (z : Z) → h (view x) ≡ Some z → filter_map h (map view (xs ++ x ∷ [])) ≡ filter_map h (map view xs) ++ z ∷ []
  one_told z e = rw parted (rw e refl)

  pub none_told : h (view x) ≡ None → filter_map h (map view (xs ++ x ∷ [])) ≡ filter_map h (map view xs)
  none_told e = rw parted (rw e (append-nil (filter_map h (map view xs))))
