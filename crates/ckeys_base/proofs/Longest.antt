-- The longest folder at a place.
use Rattle.std.proofs.Common.{◌≡◌, ℕ, ◌+◌, ◌<◌, ◌≤◌, max, Bool, true, false, cond, ◌&&◌, List, [], ◌∷◌, ◌++◌, length, get_or, drop, nat_eq, refl, sym, ap, ◌∙◌, arith}
use Rattle.std.specs.List.{starts_with}
use Rattle.std.proofs.lemmas.Bool.{and_parts}
use Rattle.std.proofs.lemmas.List.{drop_more, drop_all, length-drop, length-append}
use Rattle.std.proofs.lemmas.Slice.Eq.{starts_is}
use Rattle.std.proofs.lemmas.Bool.Decides.{Decides-eqb}
use Rattle.base_files.specs.Bytes.{Bytes}
use Rattle.ckeys_base.specs.FolderPlaces.{Places, counts, counted_len, longest}

-- a folder that counts lies within the text
pub counts-fits : (places : Places) (text : Bytes) (i : ℕ) (f : Bytes) → i ≤ length text → counts places text i f ≡ true → i + length f ≤ length text
unfolding counts
counts-fits places text i f le h =
    let outer = and_parts (places.may_begin text i && starts_with nat_eq (drop i text) f) (places.may_end text (i + length f)) h in
    let inner = and_parts (places.may_begin text i) (starts_with nat_eq (drop i text) f) outer.0 in
    let whole : drop i text ≡ f ++ drop (length f) (drop i text) = (starts_is Decides-eqb (drop i text) f (starts_with nat_eq (drop i text) f) refl).0 inner.1 in
    omega (arith, length-drop i text, ap length whole, length-append f (drop (length f) (drop i text)))

fits_by : (b : Bool) (i n m : ℕ) → i ≤ m → (b ≡ true → i + n ≤ m) → i + cond b n 0 ≤ m
fits_by true i n m le h = h refl
fits_by false i n m le h = omega arith

pub counted_len-fits : (places : Places) (text : Bytes) (i : ℕ) (f : Bytes) → i ≤ length text → i + counted_len places text i f ≤ length text
unfolding counted_len
counted_len-fits places text i f le = fits_by (counts places text i f) i (length f) (length text) le (counts-fits places text i f le)

-- the longest lies within the text
pub longest-fits : (places : Places) (fs : List Bytes) (text : Bytes) (i : ℕ) → i ≤ length text → i + longest places fs text i ≤ length text
unfolding longest
longest-fits places [] text i le = omega arith
longest-fits places (f ∷ fs) text i le =
    let rest = longest-fits places fs text i le in
    let here = counted_len-fits places text i f le in
    omega (arith, rest, here)

-- one more folder looked at
pub longest-step : (places : Places) (folders : List Bytes) (k : ℕ) (f : Bytes) (text : Bytes) (at : ℕ) (best next all : ℕ) → k < length folders → f ≡ get_or folders k f
    → max best (longest places (drop k folders) text at) ≡ all → next ≡ max best (counted_len places text at f)
    → max next (longest places (drop (k + 1) folders) text at) ≡ all
unfolding longest
longest-step places folders k f text at best next all lt is so_far made =
    let cut : drop k folders ≡ f ∷ drop (k + 1) folders = drop_more folders k f lt ∙ ap (λ (x : Bytes). x ∷ drop (k + 1) folders) (sym is) in
    let opened : longest places (drop k folders) text at ≡ max (counted_len places text at f) (longest places (drop (k + 1) folders) text at) = ap (λ (x : List Bytes). longest places x text at) cut in
    omega (arith, opened, so_far, made)

-- no folder is left
pub longest-done : (places : Places) (folders : List Bytes) (k : ℕ) (text : Bytes) (at best all : ℕ) → length folders ≤ k → max best (longest places (drop k folders) text at) ≡ all → best ≡ all
unfolding longest
longest-done places folders k text at best all le so_far =
    let none : longest places (drop k folders) text at ≡ 0 = ap (λ (x : List Bytes). longest places x text at) (drop_all k folders le) in
    omega (arith, none, so_far)
