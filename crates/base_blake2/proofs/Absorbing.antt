-- How a state follows its message.
use Rattle.std.proofs.Common.{◌≡◌, ℕ, zero, suc, ◌+◌, ◌-◌, ◌*◌, ◌/◌, ◌%◌, ◌^◌, ◌<◌, ◌≤◌, false, true, List, [], ◌++◌, length, take, drop, replicate, refl, sym, ap, ◌∙◌, arith, length-append, length-drop, add-one}
use Rattle.std.proofs.lemmas.List.{append_assoc, append-nil, drop-append-le, drop-take, drop_all, length-take-le, take-append-drop, take-append-le, take-take, take_all}
use Rattle.std.proofs.lemmas.Slice.{take-put_mid}
use Rattle.base_blake2.specs.Blake2b.{blocks_before_last, compress, final_state, padded, state_after}
use Rattle.base_blake2.specs.Hashers.{Absorbed, Holds}
use Rattle.base_blake2.specs.declared.Blake2b256.{Blake2b256}
use Rattle.base_blake2.proofs.Words.{compress-mod}
use borrow.Rule.Slice.PartMut.{put_mid, post_of}

-- the state after n blocks reads no more of the message
state_after-append : (m d : List ℕ) (n : ℕ) → n * 128 ≤ length m → state_after 32 (m ++ d) n ≡ state_after 32 m n
unfolding state_after
state_after-append m d zero h = refl
state_after-append m d (suc n) h =
    let whole : 128 ≤ length (drop (n * 128) m) = omega (arith, length-drop (n * 128) m) in
    let block : take 128 (drop (n * 128) (m ++ d)) ≡ take 128 (drop (n * 128) m) =
    rw (drop-append-le (n * 128) m d (omega arith)) (take-append-le 128 (drop (n * 128) m) d whole) in
    rw (block, state_after-append m d n (omega arith)) refl

state_after_next : (m : List ℕ) (n : ℕ) → state_after 32 m (n + 1) ≡ compress (state_after 32 m n) (take 128 (drop (n * 128) m)) ((n + 1) * 128) false
unfolding state_after
state_after_next m n =
    let more : n + 1 ≡ suc n = add-one n in
    ap (λ (k : ℕ). state_after 32 m k) more

-- bytes that wait after those that do
pub kept : (s t : Blake2b256) (m d : List ℕ) (n : ℕ) → Absorbed s m n → t.h ≡ s.h → t.count ≡ s.count → t.waiting ≡ s.waiting + length d
    → take t.waiting t.buffer ≡ take s.waiting s.buffer ++ d → Absorbed t (m ++ d) n
kept s t m d n a eh ec ew eb =
    let fits : n * 128 ≤ length m = omega (arith, a.bytes) in record {
      bytes = omega (arith, a.bytes, length-append m d);
      count = ec ∙ a.count;
      state = eh ∙ a.state ∙ sym (state_after-append m d n fits);
      rest = eb ∙ ap (λ (x : List ℕ). x ++ d) a.rest ∙ sym (drop-append-le (n * 128) m d fits);
    }

-- the buffer after a write that follows the bytes that wait
pub written : (s : Blake2b256) (d ys : List ℕ) (k e : ℕ) → length s.buffer ≡ 128 → s.waiting ≤ 128 → e ≡ s.waiting + length d → ys ≡ d
    → take e (put_mid s.waiting k s.buffer ys) ≡ take s.waiting s.buffer ++ d
written s d ys k e len fits ee ey =
    take-put_mid s.waiting k s.buffer ys e (omega (arith, ap length ey)) (omega arith) ∙ ap (λ (x : List ℕ). take s.waiting s.buffer ++ x) ey

-- a whole block of the message is taken in, after which nothing waits
next_block : (s t : Blake2b256) (m b : List ℕ) (n : ℕ) → s.h ≡ state_after 32 m n → s.count ≡ n * 128 % 2 ^ 128 → length m ≡ n * 128 + 128
    → drop (n * 128) m ≡ b → t.waiting ≡ 0 → t.count ≡ (s.count + 128) % 2 ^ 128 → t.h ≡ compress s.h b t.count false → Absorbed t m (n + 1)
next_block s t m b n eh ec len eb ew et state =
    let grown : t.count ≡ (n + 1) * 128 % 2 ^ 128 = omega arith in
    let end : length m ≡ (n + 1) * 128 = omega arith in
    let block : take 128 (drop (n * 128) m) ≡ b = take_all 128 (drop (n * 128) m) (omega (arith, length-drop (n * 128) m)) ∙ eb in
    let taken : t.h ≡ compress (state_after 32 m n) b ((n + 1) * 128) false =
    state ∙ rw (eh, grown) (compress-mod (state_after 32 m n) b ((n + 1) * 128) false) in record {
      bytes = omega arith;
      count = grown;
      state = taken ∙ sym (rw (state_after_next m n, block) refl);
      rest = rw ew (sym (drop_all ((n + 1) * 128) m (omega arith)));
    }

-- the block that waits
pub taken_in : (s t : Blake2b256) (m : List ℕ) (n : ℕ) → Absorbed s m n → length s.buffer ≡ 128 → s.waiting ≡ 128
    → t.waiting ≡ 0 → t.count ≡ (s.count + 128) % 2 ^ 128 → t.h ≡ compress s.h s.buffer t.count false → Absorbed t m (n + 1)
taken_in s t m n a len full ew et state =
    let whole : take s.waiting s.buffer ≡ s.buffer = take_all s.waiting s.buffer (omega arith) in
    next_block s t m s.buffer n a.state a.count (omega (arith, a.bytes)) (sym a.rest ∙ whole) ew et state

-- a block from where it lies, where nothing waits
taken_at : (s t : Blake2b256) (m x : List ℕ) (n : ℕ) → Absorbed s m n → s.waiting ≡ 0 → length x ≡ 128
    → t.waiting ≡ 0 → t.count ≡ (s.count + 128) % 2 ^ 128 → t.h ≡ compress s.h x t.count false → Absorbed t (m ++ x) (n + 1)
taken_at s t m x n a empty len ew et state =
    let fits : n * 128 ≤ length m = omega (arith, a.bytes) in
    let none : drop (n * 128) m ≡ [] = drop_all (n * 128) m (omega (arith, a.bytes)) in
    next_block s t (m ++ x) x n (a.state ∙ sym (state_after-append m x n fits)) a.count (omega (arith, a.bytes, length-append m x))
    (drop-append-le (n * 128) m x fits ∙ ap (λ (y : List ℕ). y ++ x) none) ew et state

-- 128 bytes more of d
take_block : (d : List ℕ) (i : ℕ) → take (128 * (i + 1)) d ≡ take (128 * i) d ++ take 128 (drop (128 * i) d)
take_block d i =
    let more : 128 * (i + 1) ≡ 128 * i + 128 = omega arith in
    let parts = take-append-drop (128 * i) (take (128 * i + 128) d) in
    let front = take-take (128 * i) (128 * i + 128) d (omega arith) in
    ap (λ (k : ℕ). take k d) more ∙ sym parts
    ∙ (λ j. front j ++ drop-take (128 * i) 128 d j)

-- one block more of those that are handed in
pub next_of : (s t : Blake2b256) (m d x : List ℕ) (n i : ℕ) → Absorbed s (m ++ take (128 * i) d) (n + i) → s.waiting ≡ 0 → 128 * i + 128 ≤ length d
    → x ≡ take 128 (drop (128 * i) d) → t.waiting ≡ 0 → t.count ≡ (s.count + 128) % 2 ^ 128 → t.h ≡ compress s.h x t.count false
    → Absorbed t (m ++ take (128 * (i + 1)) d) (n + (i + 1))
next_of s t m d x n i a empty fits ex ew et state =
    let len : length x ≡ 128 = ap length ex ∙ length-take-le 128 (drop (128 * i) d) (omega (arith, length-drop (128 * i) d)) in
    let r : Absorbed t ((m ++ take (128 * i) d) ++ x) (n + i + 1) = taken_at s t (m ++ take (128 * i) d) x (n + i) a empty len ew et state in
    let message : m ++ take (128 * (i + 1)) d ≡ (m ++ take (128 * i) d) ++ x =
    ap (λ (y : List ℕ). m ++ y) (take_block d i ∙ ap (λ (y : List ℕ). take (128 * i) d ++ y) (sym ex)) ∙ sym (append_assoc m (take (128 * i) d) x) in
    let count : n + (i + 1) ≡ n + i + 1 = omega arith in
    rw (message, count) r

-- nothing of d yet
pub none_of : (s : Blake2b256) (m d : List ℕ) (n : ℕ) → Absorbed s m n → Absorbed s (m ++ take 0 d) (n + 0)
none_of s m d n a =
    let same : n + 0 ≡ n = omega arith in
    rw (append-nil m, same) a

-- the last block waits, so the state holds the message
pub held : (s : Blake2b256) (m : List ℕ) (n : ℕ) → Absorbed s m n → n ≡ blocks_before_last (length m) → Holds s m
held s m n a e = rw (← e) a

-- after the bytes that follow the last block that was taken in
pub held_after : (s : Blake2b256) (m d y : List ℕ) (n i : ℕ) → length m ≡ n * 128 → 0 < length d → i ≡ (length d - 1) / 128
    → y ≡ drop (128 * i) d → Absorbed s ((m ++ take (128 * i) d) ++ y) (n + i) → Holds s (m ++ d)
held_after s m d y n i len more ei ey a =
    let message : (m ++ take (128 * i) d) ++ y ≡ m ++ d =
    append_assoc m (take (128 * i) d) y ∙ ap (λ (x : List ℕ). m ++ (take (128 * i) d ++ x)) ey ∙ ap (λ (x : List ℕ). m ++ x) (take-append-drop (128 * i) d) in
    held s (m ++ d) (n + i) (rw message at a) (omega (arith, length-append m d))

-- zeros after the bytes that wait
pub zeros_after : (s : Blake2b256) (m ys : List ℕ) (n k j : ℕ) → Absorbed s m n → length s.buffer ≡ 128 → s.waiting ≤ 128 → k ≡ 128 - s.waiting
    → j ≡ 128 - s.waiting → ys ≡ replicate j 0 → put_mid s.waiting k s.buffer ys ≡ padded (drop (n * 128) m)
zeros_after s m ys n k j a len fits ek ej ey =
    let none : post_of s.waiting k s.buffer ≡ [] = drop_all k (drop s.waiting s.buffer) (omega (arith, length-drop s.waiting s.buffer)) in
    let left : length (drop (n * 128) m) ≡ s.waiting = omega (arith, a.bytes, length-drop (n * 128) m) in
    let room : j ≡ 128 - length (drop (n * 128) m) = omega arith in
    rw (none, append-nil ys, ey, a.rest, room) refl

-- the state after the last block
pub finished : (s : Blake2b256) (m b h : List ℕ) (count : ℕ) → Holds s m → b ≡ padded (drop (blocks_before_last (length m) * 128) m)
    → count ≡ (s.count + s.waiting) % 2 ^ 128 → h ≡ compress s.h b count true → h ≡ final_state 32 m
unfolding final_state
finished s m b h count a eb ec eh =
    let n : ℕ = blocks_before_last (length m) in
    let all : count ≡ length m % 2 ^ 128 = omega (arith, a.bytes, a.count) in
    eh ∙ rw (eb, all, a.state) (compress-mod (state_after 32 m n) (padded (drop (n * 128) m)) (length m) true)
