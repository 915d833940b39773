-- A word of at most thirteen bytes in two joined texts is in one of them, or across the seam.
use Rattle.std.proofs.Common.{◌≡◌, ℕ, ◌+◌, ◌-◌, ◌<◌, ◌≤◌, ◌++◌, length, get_or, take, drop, refl, sym, ap, ◌∙◌, arith, inl, inr, ◌⊎◌, Bool, true, false}
use Rattle.std.specs.Prelude.{◌||◌}
use Rattle.std.proofs.lemmas.Bool.{cases_lt}
use Rattle.std.proofs.lemmas.List.{length-append, length-take, length-drop, get_or_append_left, get_or-append_right, get_or-append-add, get_or-take, get_or-drop, drop-append-le, drop-drop}
use Rattle.memchr.specs.Find.{OccursAt}
use Rattle.base_files.specs.Bytes.{Bytes}
use Rattle.ckeys_time_macros.specs.Macros.{holds}
use Rattle.ckeys_time_macros.specs.Seen.{end_of}
use Rattle.ckeys_time_macros.proofs.Holding.{Occurs, Occurs-holds}

-- where the same bytes are, the word is
moved : (a b word : Bytes) (i j : ℕ) → OccursAt a word i → j + length word ≤ length b → ((n : ℕ) → n < length word → get_or b (j + n) 0 ≡ get_or a (i + n) 0) → OccursAt b word j
moved a b word i j o fits same = record { fits = fits; reads = λ n lt. same n lt ∙ o.reads n lt }

-- the texts joined, up to twelve bytes of the second
get_front : (m p : Bytes) (i : ℕ) → i < length m + 12 → get_or (m ++ take 12 p) i 0 ≡ get_or (m ++ p) i 0
get_front m p i lt = elim (cases_lt i (length m)) [
  | inl l ↦ get_or_append_left m (take 12 p) 0 i l ∙ sym (get_or_append_left m p 0 i l)
  | inr g ↦ get_or-append_right m (take 12 p) (length m) i 0 refl g ∙ get_or-take 12 p (i - length m) 0 (omega arith) ∙ sym (get_or-append_right m p (length m) i 0 refl g)
]

-- the window round the seam
get_window : (m p : Bytes) (i : ℕ) → (length m - 12) + i < length m + 12 → get_or (end_of m ++ take 12 p) i 0 ≡ get_or (m ++ p) ((length m - 12) + i) 0
get_window m p i lt =
    ap (λ (x : Bytes). get_or x i 0) (sym (drop-append-le (length m - 12) m (take 12 p) (omega arith))) ∙ get_or-drop (length m - 12) (m ++ take 12 p) i 0 ∙ get_front m p ((length m - 12) + i) lt

length_window : (m p : Bytes) → length (end_of m ++ take 12 p) ≡ (length m - (length m - 12)) + length (take 12 p)
length_window m p = length-append (end_of m) (take 12 p) ∙ ap (λ (n : ℕ). n + length (take 12 p)) (length-drop (length m - 12) m)

Occurs-left : (m p word : Bytes) → Occurs m word → Occurs (m ++ p) word
Occurs-left m p word o = (o.0, moved m (m ++ p) word o.0 o.0 o.1 (omega (arith, length-append m p, o.1.fits)) (λ n lt. get_or_append_left m p 0 (o.0 + n) (omega (arith, o.1.fits))))

Occurs-right : (m p word : Bytes) → Occurs p word → Occurs (m ++ p) word
Occurs-right m p word o = (length m + o.0, moved p (m ++ p) word o.0 (length m + o.0) o.1 (omega (arith, length-append m p, o.1.fits)) (λ n lt. let e : (length m + o.0) + n ≡ length m + (o.0 + n) = omega arith in rw e (get_or-append-add m p (o.0 + n) 0)))

Occurs-seam : (m p word : Bytes) → Occurs (end_of m ++ take 12 p) word → Occurs (m ++ p) word
Occurs-seam m p word o = (
  (length m - 12) + o.0,
  moved (end_of m ++ take 12 p) (m ++ p) word o.0 ((length m - 12) + o.0) o.1 (omega (arith, length-append m p, o.1.fits, length_window m p, length-take 12 p))
      (λ n lt. let e : ((length m - 12) + o.0) + n ≡ (length m - 12) + (o.0 + n) = omega arith in rw e (sym (get_window m p (o.0 + n) (omega (arith, o.1.fits, length_window m p, length-take 12 p))))),
)

Occurs-append : (m p word : Bytes) → length word ≤ 13 → Occurs (m ++ p) word → Occurs m word ⊎ (Occurs (end_of m ++ take 12 p) word ⊎ Occurs p word)
Occurs-append m p word short o =
    elim (cases_lt (length m) (o.0 + length word)) [
      | inr le ↦ inl (o.0, moved (m ++ p) m word o.0 o.0 o.1 le (λ n lt. sym (get_or_append_left m p 0 (o.0 + n) (omega arith))))
      | inl gt ↦ elim (cases_lt o.0 (length m)) [
        | inr past ↦ inr (inr (o.0 - length m, moved (m ++ p) p word o.0 (o.0 - length m) o.1 (omega (arith, length-append m p, o.1.fits)) (λ n lt. let e : (o.0 - length m) + n ≡ (o.0 + n) - length m = omega arith in rw e (sym (get_or-append_right m p (length m) (o.0 + n) 0 refl (omega arith))))))
        | inl across ↦ inr (inl (
          o.0 - (length m - 12),
          moved (m ++ p) (end_of m ++ take 12 p) word o.0 (o.0 - (length m - 12)) o.1 (omega (arith, length-append m p, o.1.fits, length_window m p, length-take 12 p))
              (λ n lt. let e : o.0 + n ≡ (length m - 12) + ((o.0 - (length m - 12)) + n) = omega arith in rw e (get_window m p ((o.0 - (length m - 12)) + n) (omega arith))),
        ))
      ]
    ]

or_left : (a b : Bool) → a ≡ true → (a || b) ≡ true
or_left a b is = ap (λ (x : Bool). x || b) is

or_right : (a b : Bool) → b ≡ true → (a || b) ≡ true
or_right true b is = refl
or_right false b is = is

or_cases : (a b : Bool) → (a || b) ≡ true → (a ≡ true) ⊎ (b ≡ true)
or_cases true b is = inl refl
or_cases false b is = inr is

both_ways : (a b : Bool) → (a ≡ true → b ≡ true) → (b ≡ true → a ≡ true) → a ≡ b
both_ways true b there back = sym (there refl)
both_ways false true there back = back refl
both_ways false false there back = refl

-- what two joined texts hold
pub holds-append : (m p word : Bytes) → length word ≤ 13 → holds (m ++ p) word ≡ (holds m word || (holds (end_of m ++ take 12 p) word || holds p word))
holds-append m p word short = both_ways _ _
    (λ all. elim (Occurs-append m p word short ((Occurs-holds (m ++ p) word).0 all)) [
      | inl o ↦ or_left _ _ ((Occurs-holds m word).1 o)
      | inr (inl o) ↦ or_right _ _ (or_left _ _ ((Occurs-holds (end_of m ++ take 12 p) word).1 o))
      | inr (inr o) ↦ or_right _ _ (or_right _ _ ((Occurs-holds p word).1 o))
    ])
    (λ some. (Occurs-holds (m ++ p) word).1 (elim (or_cases _ _ some) [
      | inl h ↦ Occurs-left m p word ((Occurs-holds m word).0 h)
      | inr h ↦ elim (or_cases _ _ h) [
        | inl s ↦ Occurs-seam m p word ((Occurs-holds (end_of m ++ take 12 p) word).0 s)
        | inr r ↦ Occurs-right m p word ((Occurs-holds p word).0 r)
      ]
    ]))

-- a flag after one more piece
pub flag-more : (before after : Bool) (m p word seam : Bytes) → length word ≤ 13 → seam ≡ end_of m ++ take 12 p → before ≡ holds m word → after ≡ (before || (holds seam word || holds p word)) → after ≡ holds (m ++ p) word
flag-more before after m p word seam short is was now =
    now ∙ ap (λ (x : Bool). x || (holds seam word || holds p word)) was
    ∙ ap (λ (x : Bytes). holds m word || (holds x word || holds p word)) is
    ∙ sym (holds-append m p word short)

-- the end of the end and more is the end of all
pub end_of-end : (m p : Bytes) → end_of (end_of m ++ p) ≡ end_of (m ++ p)
end_of-end m p =
    let a = length m - 12 in
    let back : end_of m ++ p ≡ drop a (m ++ p) = sym (drop-append-le a m p (omega arith)) in
    let len : length (drop a (m ++ p)) ≡ (length m + length p) - a = length-drop a (m ++ p) ∙ ap (λ (n : ℕ). n - a) (length-append m p) in
    let at : a + (length (drop a (m ++ p)) - 12) ≡ length (m ++ p) - 12 = omega (arith, len, length-append m p) in
    ap end_of back ∙ drop-drop (length (drop a (m ++ p)) - 12) a (m ++ p) ∙ ap (λ (n : ℕ). drop n (m ++ p)) at
