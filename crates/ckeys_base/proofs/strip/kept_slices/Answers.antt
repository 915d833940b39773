use Rattle.std.proofs.Common.{ℕ, List, length, ap, sym, ◌∙◌}
use Rattle.ckeys_base.specs.FolderPlaces.{longest, text_places}
use Rattle.ckeys_base.specs.FromTheLeft.{kept_parts}
use Rattle.ckeys_base.specs.Stripping.{filled, left_by, parts}
use Rattle.ckeys_base.proofs.Cuts.{from_start, only_one}
use Rattle.ckeys_base.proofs.FilledSlices.{all_filled, joined-filled}
use Rattle.ckeys_base.proofs.strip.kept_slices.Goals as goal

pub returns-clause-slices : goal.returns-clause-slices
returns-clause-slices c = λ starts is.
    let text = c.args.text.now in
    let width = longest text_places c.args.folders.now text in
    ap (λ (x : List ℕ). filled (parts width text 0 x)) (from_start width (length text) ∙ sym (only_one width (length text) starts is))

pub returns-clause-joined : goal.returns-clause-joined
returns-clause-joined c =
    let text = c.args.text.now in
    let width = longest text_places c.args.folders.now text in
    joined-filled (kept_parts width text 0) ∙ ap (left_by width text) (from_start width (length text))

pub returns-clause-full : goal.returns-clause-full
returns-clause-full c = all_filled (kept_parts (longest text_places c.args.folders.now c.args.text.now) c.args.text.now 0)
