-- The first line of a text, as it's yielded.
use Rattle.std.proofs.Common.{◌≡◌, List, [], ◌∷◌, Option, Some, None, refl, ap, sym}
use Rattle.std.specs.Borrow.{Bor}
use Rattle.std.specs.Iterator.{AlwaysYields}
use Rattle.std.specs.Str.Iter.{lines_rest, lines_steps}
use Rattle.std.specs.declared.str.Lines.{Lines}
use Rattle.std.specs.Str.Lines.{lines}
use Rattle.std.proofs.lemmas.Iterator.Splits.{YieldsList-from_lines}
use Rattle.base_files.specs.Bytes.{Bytes}
use Rattle.rustc_texts.specs.DepInfo.{first_of}

module _ {S A B : Type 0} (steps : S → Option A → S → Type 0) (v : A → B) (s : S) where
  first_yielded : (ys : List B) → AlwaysYields steps v s ys → (x : A) (j : S) → steps s (Some x) j → first_of ys ≡ Some (v x)
  first_yielded [] h x j p = absurd (h x j p)
  first_yielded (y ∷ ys) h x j p = ap Some (sym (h.1 x j p).0)

  none_yielded : (ys : List B) → AlwaysYields steps v s ys → (j : S) → steps s None j → first_of ys ≡ None
  none_yielded [] h j p = refl
  none_yielded (y ∷ ys) h j p = absurd (h.0 j p)

pub first_line : (text : Bytes) (s : Lines) → lines_rest s ≡ text → (x : Bor Bytes) (j : Lines) → lines_steps s (Some x) j → first_of (lines text) ≡ Some x.now
first_line text s e = first_yielded lines_steps (λ x. x.now) s (lines text) (YieldsList-from_lines {s = s} text e).runs

pub no_line : (text : Bytes) (s : Lines) → lines_rest s ≡ text → (j : Lines) → lines_steps s None j → first_of (lines text) ≡ None
no_line text s e = none_yielded lines_steps (λ x. x.now) s (lines text) (YieldsList-from_lines {s = s} text e).runs
