-- Texts, cut at their line ends.
use Rattle.std.proofs.Common.{◌≡◌, ◌+◌, ℕ, Bool, true, false, not, take, List, [], ◌∷◌, Some, None, length, refl, ap, sym, ◌∙◌, arith, inl, inr}
use Rattle.std.proofs.lemmas.Bool.{cases_lt}
use Rattle.std.proofs.lemmas.List.{drop_all, take_all}
use Rattle.std.proofs.lemmas.List.Splits.{slice_split_first, slice_split_none}
use Rattle.std.proofs.lemmas.List.Sums.{fails_before_first, position_or_len_is, prefix_len-le-length}
use Rattle.std.specs.List.{cons_option, position_or_len, slice_split, filter_map}
use Rattle.memchr.specs.Find.{IsFirstByte, is_byte}
use Rattle.ckeys_marker_walk.specs.Lines.{is_line_end, line_of, after_line}
use Rattle.ckeys_marker_walk.specs.Scanning.{sight_in, sights}

untrue : (b : Bool) → (b ≡ true → ⊥) → b ≡ false
untrue true h = absurd (h refl)
untrue false h = refl

-- the place that a search for the line end gives
pub end_found : (text : List ℕ) (end : ℕ) → IsFirstByte (is_byte 10) text (Some end) → position_or_len is_line_end text ≡ end
end_found text end h = position_or_len_is is_line_end text end 0 (omega (arith, h.0.high)) (λ k lt. untrue _ (h.0.before k (omega arith) lt)) (λ _. h.1)

pub none_found : (text : List ℕ) → IsFirstByte (is_byte 10) text None → position_or_len is_line_end text ≡ length text
none_found text h = position_or_len_is is_line_end text (length text) 0 (omega arith) (λ k lt. untrue _ (h k (omega arith) lt)) (λ lt. absurd (omega arith))

-- what no line end is in is one line
one_line : (text : List ℕ) → position_or_len is_line_end text ≡ length text → slice_split is_line_end text ≡ text ∷ []
one_line text none = slice_split_none is_line_end text (λ k d lt. fails_before_first is_line_end text k d (omega (arith, none)))

-- what a text says is what its first line says and then what the text after it says
pub sights-cut : (text : List ℕ) → sights text ≡ cons_option (sight_in (line_of text)) (sights (after_line text))
sights-cut text = elim (cases_lt (position_or_len is_line_end text) (length text)) [
  | inl found ↦ ap (filter_map sight_in) (slice_split_first is_line_end text 0 found)
  | inr not_found ↦
      let none : position_or_len is_line_end text ≡ length text = omega (arith, prefix_len-le-length (λ x. not (is_line_end x)) text) in
      let line : line_of text ≡ text = ap (λ (n : ℕ). take n text) none ∙ take_all (length text) text (omega arith) in
      let after : after_line text ≡ [] = drop_all (position_or_len is_line_end text + 1) text (omega (arith, none)) in
      ap (filter_map sight_in) (one_line text none) ∙ sym (ap (λ (l : List ℕ). cons_option (sight_in l) (sights (after_line text))) line ∙ ap (λ (l : List ℕ). cons_option (sight_in text) (sights l)) after)
]
