-- Words of blocks, and the vector of a state.
use Rattle.std.proofs.Common.{◌≡◌, ℕ, ◌+◌, ◌*◌, ◌/◌, ◌%◌, ◌^◌, ◌<◌, ◌≤◌, Bool, List, [], ◌∷◌, ◌++◌, IsTrue, nat_lt, length, get_or, take, drop, bit_xor, slice_index, refl, sym, ap, subst, ◌∙◌, arith}
use Rattle.std.specs.Int.{w64, to_le_bytes}
use Rattle.std.specs.List.{flat_map, list_all}
use Rattle.std.proofs.lemmas.List.{drop_more, take_all, take_more}
use Rattle.std.proofs.lemmas.List.Concat.{flat_map-append}
use Rattle.std.proofs.lemmas.Slice.{take-put_mid}
use Rattle.base_blake2.specs.Blake2b.{compress, iv, mark, vector}
use Rattle.std.proofs.lemmas.List.Sums.{AllPass-from_list_all}
use borrow.Author.Tests.{ltb-true}
use borrow.Rule.Slice.PartMut.{put_mid}

-- one element of what is left, and the rest
next : (b : List ℕ) (i j : ℕ) → j ≡ i + 1 → i < length b → drop i b ≡ get_or b i 0 ∷ drop j b
next b i j e lt = rw e (drop_more b i 0 lt)

-- eight bytes from a place on, one by one
pub eight_from : (b : List ℕ) (i : ℕ) → i + 8 ≤ length b
    → take 8 (drop i b) ≡ get_or b i 0 ∷ get_or b (i + 1) 0 ∷ get_or b (i + 2) 0 ∷ get_or b (i + 3) 0 ∷ get_or b (i + 4) 0
    ∷ get_or b (i + 5) 0 ∷ get_or b (i + 6) 0 ∷ get_or b (i + 7) 0 ∷ []
eight_from b i fits = rw (
  next b i (i + 1) refl (omega arith),
  next b (i + 1) (i + 2) (omega arith) (omega arith),
  next b (i + 2) (i + 3) (omega arith) (omega arith),
  next b (i + 3) (i + 4) (omega arith) (omega arith),
  next b (i + 4) (i + 5) (omega arith) (omega arith),
  next b (i + 5) (i + 6) (omega arith) (omega arith),
  next b (i + 6) (i + 7) (omega arith) (omega arith),
  next b (i + 7) (i + 8) (omega arith) (omega arith),
) refl

-- a list of eight, one by one
pub eight : (h : List ℕ) → length h ≡ 8
    → h ≡ get_or h 0 0 ∷ get_or h 1 0 ∷ get_or h 2 0 ∷ get_or h 3 0 ∷ get_or h 4 0 ∷ get_or h 5 0 ∷ get_or h 6 0 ∷ get_or h 7 0 ∷ []
eight h e = sym (take_all 8 h (omega arith)) ∙ eight_from h 0 (omega arith)

-- of a list that passes the test each element does
pub below_16 : (s : List ℕ) (k : ℕ) → IsTrue (list_all (λ (i : ℕ). nat_lt i 16) s) → k < length s → get_or s k 0 < 16
below_16 s k h lt = ltb-true _ 16 (AllPass-from_list_all (λ (i : ℕ). nat_lt i 16) s h k 0 lt)

-- the high half of a count that fits
high_half : (count : ℕ) → count < 2 ^ 128 → count / 2 ^ 64 % 2 ^ 64 ≡ count / 2 ^ 64
high_half count fits = omega arith

-- the vector word by word
pub vector_is : (h : List ℕ) (count : ℕ) (last : Bool) → length h ≡ 8 → count < 2 ^ 128
    → get_or h 0 0 ∷ get_or h 1 0 ∷ get_or h 2 0 ∷ get_or h 3 0 ∷ get_or h 4 0 ∷ get_or h 5 0 ∷ get_or h 6 0 ∷ get_or h 7 0
    ∷ slice_index iv 0 ∷ slice_index iv 1 ∷ slice_index iv 2 ∷ slice_index iv 3
    ∷ bit_xor (slice_index iv 4) (count % 2 ^ 64) ∷ bit_xor (slice_index iv 5) (count / 2 ^ 64)
    ∷ bit_xor (slice_index iv 6) (mark last) ∷ slice_index iv 7 ∷ [] ≡ vector h count last
unfolding vector
vector_is h count last len fits =
    let after : List ℕ = bit_xor (slice_index iv 4) (count % 2 ^ 64) ∷ bit_xor (slice_index iv 5) (count / 2 ^ 64)
    ∷ bit_xor (slice_index iv 6) (mark last) ∷ slice_index iv 7 ∷ [] in
    rw (high_half count fits) (ap (λ (x : List ℕ). x ++ take 4 iv ++ after) (sym (eight h len)))

-- the vector reads a count modulo 2 ^ 128
vector-mod : (h : List ℕ) (count : ℕ) (last : Bool) → vector h (count % 2 ^ 128) last ≡ vector h count last
unfolding vector
vector-mod h count last =
    let low : count % 2 ^ 128 % 2 ^ 64 ≡ count % 2 ^ 64 = omega arith in
    let high : count % 2 ^ 128 / 2 ^ 64 % 2 ^ 64 ≡ count / 2 ^ 64 % 2 ^ 64 = omega arith in
    rw (low, high) refl

pub compress-mod : (h b : List ℕ) (count : ℕ) (last : Bool) → compress h b (count % 2 ^ 128) last ≡ compress h b count last
unfolding compress
compress-mod h b count last = rw (vector-mod h count last) refl

-- one word more as bytes
pub bytes_more : (out h ys : List ℕ) (i k : ℕ) → take (8 * i) out ≡ flat_map (to_le_bytes w64) (take i h) → 8 * i ≤ length out → i < length h
    → ys ≡ to_le_bytes w64 (get_or h i 0) → take (8 * (i + 1)) (put_mid (8 * i) k out ys) ≡ flat_map (to_le_bytes w64) (take (i + 1) h)
bytes_more out h ys i k before fits lt e =
    let eight_more : length ys ≡ 8 = ap length e in
    let front : take (8 * (i + 1)) (put_mid (8 * i) k out ys) ≡ take (8 * i) out ++ ys = take-put_mid (8 * i) k out ys (8 * (i + 1)) (omega arith) fits in
    let last : take (i + 1) h ≡ take i h ++ get_or h i 0 ∷ [] = take_more h i 0 lt in
    rw (front, before, e, last, flat_map-append (to_le_bytes w64) (take i h) (get_or h i 0 ∷ [])) refl

four_words : (a b c d e f g h : ℕ) → flat_map (to_le_bytes w64) (take 4 (a ∷ b ∷ c ∷ d ∷ e ∷ f ∷ g ∷ h ∷ []))
    ≡ take 32 (flat_map (to_le_bytes w64) (a ∷ b ∷ c ∷ d ∷ e ∷ f ∷ g ∷ h ∷ []))
four_words a b c d e f g h = refl

-- the bytes of the first four of eight words
pub first_four : (h : List ℕ) → length h ≡ 8 → flat_map (to_le_bytes w64) (take 4 h) ≡ take 32 (flat_map (to_le_bytes w64) h)
first_four h e = subst (λ (x : List ℕ). flat_map (to_le_bytes w64) (take 4 x) ≡ take 32 (flat_map (to_le_bytes w64) x)) (sym (eight h e))
    (four_words (get_or h 0 0) (get_or h 1 0) (get_or h 2 0) (get_or h 3 0) (get_or h 4 0) (get_or h 5 0) (get_or h 6 0) (get_or h 7 0))
