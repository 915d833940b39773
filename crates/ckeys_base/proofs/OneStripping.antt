-- The one stripping of a text, and what is left by it.
use Rattle.std.proofs.Common.{◌≡◌, ℕ, ◌<◌, List, [], length, ap, sym, ◌∙◌, arith}
use Rattle.base_files.specs.Bytes.{Bytes}
use Rattle.ckeys_base.specs.FolderPlaces.{Places, longest}
use Rattle.ckeys_base.specs.Stripping.{IsStripping, HasExactlyOne, left_by}
use Rattle.ckeys_base.specs.FromTheLeft.{cuts, stripped_of}
use Rattle.ckeys_base.proofs.Longest.{longest-fits}
use Rattle.ckeys_base.proofs.Cuts.{strips, only_one, none-cut, some-cut, left-whole}

module _ (places : Places) (folders : List Bytes) (text : Bytes) where
  pub has_exactly_one : HasExactlyOne (IsStripping (longest places folders text) 0 (length text))
  has_exactly_one = (
    cuts (longest places folders text) 0 0 (length text),
    strips (longest places folders text) (length text) (λ i lt. longest-fits places folders text i (omega arith)),
    only_one (longest places folders text) (length text),
  )

  -- what one gives is what any gives
  pub left-by_any : (starts : List ℕ) → IsStripping (longest places folders text) 0 (length text) starts → stripped_of places folders text ≡ left_by (longest places folders text) text starts
  left-by_any starts is = ap (left_by (longest places folders text) text) (sym (only_one (longest places folders text) (length text) starts is))

  -- where nothing counts, nothing goes
  pub none-goes : ((k : ℕ) → k < length text → longest places folders text k ≡ 0) → (starts : List ℕ) → IsStripping (longest places folders text) 0 (length text) starts → starts ≡ []
  none-goes none starts is = only_one (longest places folders text) (length text) starts is ∙ none-cut (longest places folders text) (length text) none

  pub all-left : ((k : ℕ) → k < length text → longest places folders text k ≡ 0) → text ≡ stripped_of places folders text
  all-left none = left-whole (longest places folders text) text (none-cut (longest places folders text) (length text) none)

  -- and where something counts, something goes
  pub some-goes : (first : ℕ) → first < length text → ((k : ℕ) → k < first → longest places folders text k ≡ 0) → 0 < longest places folders text first
      → (starts : List ℕ) → IsStripping (longest places folders text) 0 (length text) starts → starts ≡ [] → ⊥
  some-goes first lt none pos starts is empty =
      some-cut (longest places folders text) (length text) first lt none pos (sym (only_one (longest places folders text) (length text) starts is) ∙ empty)
