use Rattle.std.proofs.Common.{◌≡◌, ap, ◌∙◌, List, ◌++◌, ℕ, length, take}
use Rattle.std.specs.List.{flat_map}
use Rattle.ckeys_base.specs.FolderPlaces.{longest}
use Rattle.ckeys_base.specs.FromTheLeft.{places_of, start_after}
use Rattle.ckeys_base.specs.KeptParts.{slices_left, parts_from}
use Rattle.ckeys_base.specs.Stripping.{filled}
use Rattle.ckeys_base.proofs.Cuts.{stripped-first}
use Rattle.ckeys_base.proofs.FilledSlices.{joined-filled}
use Rattle.ckeys_base.proofs.strip.join_kept.Goals as goal

pub loop-slice-init : goal.loop-slice-init
loop-slice-init c =
    let text = c.args.text.now in
    let first = c.args.first in
    let width = longest (places_of c.args.kind) c.args.folders.now text in
    let after = c.into_iter-slice-iterator.result in
    let later = parts_from width text (start_after width (length text) first) in
    let start : slices_left after ≡ filled later =
    ap slices_left c.into_iter-slice-iterator.ensures.into_iter_gives ∙ ap (λ o. filled (parts_from width text o)) c.next_start.ensures.value in
    let items : c.extend_from_slice.new.self.items ≡ take first text =
    c.in_ok-extend_from_slice.ensures.items ∙ ap (λ (x : List ℕ). x ++ take first text) c.in_ok-kept.ensures.items in
    ap (λ (x : List ℕ). x ++ flat_map (λ slice. slice) (slices_left after)) items
    ∙ ap (λ (x : List (List ℕ)). take first text ++ flat_map (λ slice. slice) x) start
    ∙ ap (λ (x : List ℕ). take first text ++ x) (joined-filled later)
    ∙ stripped-first width text first c.requires.within c.requires.none_before c.requires.found
