-- What is read was written, and what was written is read: for fields, and for what is made of fields.
use Rattle.std.proofs.Common.{◌≡◌, ℕ, ℤ, pos, negsuc, zero, suc, ◌+◌, ◌^◌, ◌<◌, ◌≤◌, Bool, true, false, cond, ltb, List, [], ◌∷◌, ◌++◌, length, take, drop, Option, Some, None, refl, sym, ap, subst, ◌∙◌, append_assoc, arith, inl, inr}
use Rattle.std.specs.Int.{w64, from_le_bytes, to_le_bytes, cast_signed, cast_unsigned}
use Rattle.std.specs.List.{flat_map, AllByRecursion}
use Rattle.std.specs.Str.{is_utf8}
use Rattle.std.proofs.lemmas.Bool.{cases_lt, ltb-false, le-ltb, lt-ltb}
use Rattle.std.proofs.lemmas.Int.{of_z-to_z, to_z-of_z}
use Rattle.std.proofs.lemmas.List.{take_at, drop_at, take-append-drop, length-append, length-take, get_or-drop, get_or-take, get_or_past}
use Rattle.std.proofs.lemmas.List.Concat.{flat_map-cons}
use Rattle.std.proofs.lemmas.Nat.{le_bytes_8, from_le_bytes-to_le_bytes_8}
use Rattle.std.proofs.lemmas.Str.{IsUtf8-from_is_utf8, is_utf8-from_IsUtf8}
use Rattle.base_formats.specs.Formats.{IsBytes, IsFormat, Takes}
use Rattle.base_formats.specs.Spelling.{number, signed, framed, both, optional, counted, FitsNumber, FitsWord, FitsFrame, IsText, BothFit, IfFits, CountFits}
use Rattle.base_formats.specs.Reading.{Read, ◌>>=◌, number_at, signed_at, taken_at, framed_at, text_at, both_at, made_at, optional_at, times_at, counted_at}

IsBytes-drop : (n : ℕ) (bytes : List ℕ) → IsBytes bytes → IsBytes (drop n bytes)
IsBytes-drop n bytes h i = rw get_or-drop (h (n + i))

IsBytes-take : (n : ℕ) (bytes : List ℕ) → IsBytes bytes → IsBytes (take n bytes)
IsBytes-take n bytes h i =
    elim (cases_lt i n) [
      | inl lt ↦ rw (get_or-take n bytes i 0 lt) (h i)
      | inr le ↦ rw (get_or_past (take n bytes) i 0 (omega (arith, length-take n bytes))) (omega arith)
    ]

-- the value of a step that read something
pub bind_some : {A B : Type 0} (r : Option A) (f : A → Option B) (y : B) → (r >>= f) ≡ Some y → (x : A) × (r ≡ Some x) × (f x ≡ Some y)
bind_some (Some x) f y e = (x, refl, e)
bind_some None f y e = absurd cc

-- tests that let through
pub unless_some : {A : Type 0} (b : Bool) (r : Option A) (y : A) → cond b None r ≡ Some y → (b ≡ false) × (r ≡ Some y)
unless_some true r y e = absurd cc
unless_some false r y e = (refl, e)

pub if_some : {A : Type 0} (b : Bool) (r : Option A) (y : A) → cond b r None ≡ Some y → (b ≡ true) × (r ≡ Some y)
if_some true r y e = (refl, e)
if_some false r y e = absurd cc

abbrev some : {A : Type 0} → A → Option A
some x = Some x

pub some_is : {A : Type 0} (x y : A) → some x ≡ some y → x ≡ y
some_is x y e = cc

pub Takes-then : (a x b y c : List ℕ) → Takes a x b → Takes b y c → Takes a (x ++ y) c
Takes-then a x b y c p q = record { parts = p.parts ∙ ap (λ (t : List ℕ). x ++ t) q.parts ∙ sym (append_assoc x y c); rest_is = q.rest_is }

-- ---- numbers

-- eight bytes that encode a number, whatever they are: as variables, so that they don't compute to cells
pub record IsEncoding (enc : ℕ → List ℕ) (dec : List ℕ → ℕ) : Type 0 where
  pub len : (n : ℕ) → length (enc n) ≡ 8
  pub back : (bytes : List ℕ) → length bytes ≡ 8 → IsBytes bytes → enc (dec bytes) ≡ bytes
  pub again : (n : ℕ) → n < 2 ^ 64 → dec (enc n) ≡ n
  pub below : (bytes : List ℕ) → IsBytes bytes → dec bytes < 2 ^ 64

words64 : IsEncoding (to_le_bytes w64) (from_le_bytes w64)
words64 = record {
  len = λ n. refl;
  back = λ bytes len fits. le_bytes_8 bytes _ len fits refl;
  again = λ n lt. from_le_bytes-to_le_bytes_8 n lt;
  below = λ bytes f. omega (arith, f 0, f 1, f 2, f 3, f 4, f 5, f 6, f 7);
}

abbrev reads_by : (List ℕ → ℕ) → List ℕ → Read ℕ
reads_by dec bytes = cond (ltb (length bytes) 8) None (Some (dec (take 8 bytes), drop 8 bytes))

encoded_takes : (enc : ℕ → List ℕ) (dec : List ℕ → ℕ) → IsEncoding enc dec → (bytes : List ℕ) (x : ℕ × List ℕ) → IsBytes bytes → reads_by dec bytes ≡ Some x → Takes bytes (enc x.0) x.1 × (x.0 < 2 ^ 64)
encoded_takes enc dec is bytes x fits e =
    let g = unless_some (ltb (length bytes) 8) (Some (dec (take 8 bytes), drop 8 bytes)) x e in
    let long : 8 ≤ length bytes = ltb-false _ _ g.0 in
    let f = IsBytes-take 8 bytes fits in
    let front : enc (dec (take 8 bytes)) ≡ take 8 bytes = is.back (take 8 bytes) (omega (arith, length-take 8 bytes)) f in
    subst (λ (y : ℕ × List ℕ). Takes bytes (enc y.0) y.1 × (y.0 < 2 ^ 64)) (some_is (dec (take 8 bytes), drop 8 bytes) x g.1)
    (record { parts = rw front (sym (take-append-drop 8 bytes)); rest_is = IsBytes-drop 8 bytes fits }, is.below (take 8 bytes) f)

encoded_again : (enc : ℕ → List ℕ) (dec : List ℕ → ℕ) → IsEncoding enc dec → (n : ℕ) (rest : List ℕ) → n < 2 ^ 64 → reads_by dec (enc n ++ rest) ≡ Some (n, rest)
encoded_again enc dec is n rest lt =
    let len : length (enc n) ≡ 8 = is.len n in
    let long : ltb (length (enc n ++ rest)) 8 ≡ false = le-ltb _ _ (omega (arith, length-append (enc n) rest)) in
    rw (long, take_at (enc n) rest 8 len, drop_at (enc n) rest 8 len, is.again n lt) refl

pub number_takes : (bytes : List ℕ) (x : ℕ × List ℕ) → IsBytes bytes → number_at bytes ≡ Some x → Takes bytes (to_le_bytes w64 x.0) x.1 × (x.0 < 2 ^ 64)
unfolding number_at
number_takes bytes x fits e = encoded_takes (to_le_bytes w64) (from_le_bytes w64) words64 bytes x fits e

pub number_again : (n : ℕ) (rest : List ℕ) → n < 2 ^ 64 → number_at (to_le_bytes w64 n ++ rest) ≡ Some (n, rest)
unfolding number_at
number_again n rest lt = encoded_again (to_le_bytes w64) (from_le_bytes w64) words64 n rest lt

pub number_format : IsFormat number_at (to_le_bytes w64) FitsNumber
number_format = record { takes = number_takes; again = number_again }

-- ---- signed numbers

unsigned-fits : (z : ℤ) → FitsWord z → cast_unsigned w64 z < 2 ^ 64
unsigned-fits (pos n) fits = omega (arith, fits.sfits)
unsigned-fits (negsuc n) fits = omega arith

signed-fits : (n : ℕ) → n < 2 ^ 64 → FitsWord (cast_signed w64 n)
signed-fits n lt = elim (cases_lt n (2 ^ 63)) [
  | inl low ↦ rw (lt-ltb n (2 ^ 63) low) (record { sfits = low })
  | inr high ↦ rw (le-ltb n (2 ^ 63) high) (record { sfits = omega arith })
]

signed_takes : (bytes : List ℕ) (x : ℤ × List ℕ) → IsBytes bytes → signed_at bytes ≡ Some x → Takes bytes (signed x.0) x.1 × FitsWord x.0
unfolding signed_at
signed_takes bytes x fits e =
    let b = bind_some (number_at bytes) (λ n. Some (cast_signed w64 n.0, n.1)) x e in
    let t = number_takes bytes b.0 fits b.1 in
    let bits : cast_unsigned w64 (cast_signed w64 b.0.0) ≡ b.0.0 = of_z-to_z w64 b.0.0 t.1 in
    subst (λ (y : ℤ × List ℕ). Takes bytes (signed y.0) y.1 × FitsWord y.0) (some_is (cast_signed w64 b.0.0, b.0.1) x b.2)
    (subst (λ (n : ℕ). Takes bytes (number n) b.0.1) (sym bits) t.0, signed-fits b.0.0 t.1)

signed_again : (z : ℤ) (rest : List ℕ) → FitsWord z → signed_at (signed z ++ rest) ≡ Some (z, rest)
unfolding signed_at
signed_again z rest fits = rw (number_again (cast_unsigned w64 z) rest (unsigned-fits z fits), to_z-of_z w64 z fits) refl

pub signed_format : IsFormat signed_at signed FitsWord
signed_format = record { takes = signed_takes; again = signed_again }

-- ---- length-prefixed bytes

framed_takes : (bytes : List ℕ) (x : List ℕ × List ℕ) → IsBytes bytes → framed_at bytes ≡ Some x → Takes bytes (framed x.0) x.1 × FitsFrame x.0
unfolding framed_at taken_at
framed_takes bytes x fits e =
    let b = bind_some (number_at bytes) (λ n. taken_at n.0 n.1) x e in
    let n = b.0 in
    let t = number_takes bytes n fits b.1 in
    let g = unless_some (ltb (length n.1) n.0) (Some (take n.0 n.1, drop n.0 n.1)) x b.2 in
    let long : n.0 ≤ length n.1 = ltb-false _ _ g.0 in
    let len : length (take n.0 n.1) ≡ n.0 = omega (arith, length-take n.0 n.1) in
    let second : Takes n.1 (take n.0 n.1) (drop n.0 n.1) = record { parts = sym (take-append-drop n.0 n.1); rest_is = IsBytes-drop n.0 n.1 t.0.rest_is } in
    let both = Takes-then bytes (to_le_bytes w64 n.0) n.1 (take n.0 n.1) (drop n.0 n.1) t.0 second in
    let whole : Takes bytes (framed (take n.0 n.1)) (drop n.0 n.1) = subst (λ (k : ℕ). Takes bytes (to_le_bytes w64 k ++ take n.0 n.1) (drop n.0 n.1)) (sym len) both in
    subst (λ (p : List ℕ × List ℕ). Takes bytes (framed p.0) p.1 × FitsFrame p.0) (some_is (take n.0 n.1, drop n.0 n.1) x g.1) (whole, omega (arith, len, t.1))

framed_again : (t rest : List ℕ) → FitsFrame t → framed_at (framed t ++ rest) ≡ Some (t, rest)
unfolding framed_at taken_at
framed_again t rest fits =
    let long : ltb (length (t ++ rest)) (length t) ≡ false = le-ltb _ _ (omega (arith, length-append t rest)) in
    ap framed_at (append_assoc (to_le_bytes w64 (length t)) t rest) ∙ rw (number_again (length t) (t ++ rest) fits, long, take_at t rest (length t) refl, drop_at t rest (length t) refl) refl

pub framed_format : IsFormat framed_at framed FitsFrame
framed_format = record { takes = framed_takes; again = framed_again }

-- ---- UTF-8

text_takes : (bytes : List ℕ) (x : List ℕ × List ℕ) → IsBytes bytes → text_at bytes ≡ Some x → Takes bytes (framed x.0) x.1 × IsText x.0
unfolding text_at
text_takes bytes x fits e =
    let b = bind_some (framed_at bytes) (λ text. cond (is_utf8 text.0) (Some text) None) x e in
    let g = if_some (is_utf8 b.0.0) (Some b.0) x b.2 in
    let t = framed_takes bytes b.0 fits b.1 in
    subst (λ (y : List ℕ × List ℕ). Takes bytes (framed y.0) y.1 × IsText y.0) (some_is b.0 x g.1) (t.0, (IsUtf8-from_is_utf8 b.0.0 g.0, t.1))

text_again : (t rest : List ℕ) → IsText t → text_at (framed t ++ rest) ≡ Some (t, rest)
unfolding text_at
text_again t rest fits = rw (framed_again t rest fits.1, is_utf8-from_IsUtf8 t fits.0) refl

pub text_format : IsFormat text_at framed IsText
text_format = record { takes = text_takes; again = text_again }

-- ---- what is made of fields

module _ {X Y : Type 0} (one : List ℕ → Read X) (other : List ℕ → Read Y) (f : X → List ℕ) (g : Y → List ℕ) (P : X → Type 0) (Q : Y → Type 0) (first : IsFormat one f P) (second : IsFormat other g Q) where
  both_takes : (bytes : List ℕ) (x : (X × Y) × List ℕ) → IsBytes bytes → both_at one other bytes ≡ Some x → Takes bytes (both f g x.0) x.1 × BothFit P Q x.0
  unfolding both_at
  both_takes bytes x fits e =
      let a = bind_some (one bytes) (λ p. other p.1 >>= λ q. Some ((p.0, q.0), q.1)) x e in
      let b = bind_some (other a.0.1) (λ q. Some ((a.0.0, q.0), q.1)) x a.2 in
      let ta = first.takes bytes a.0 fits a.1 in
      let tb = second.takes a.0.1 b.0 ta.0.rest_is b.1 in
      let made : (X × Y) × List ℕ = ((a.0.0, b.0.0), b.0.1) in
      subst (λ (y : (X × Y) × List ℕ). Takes bytes (both f g y.0) y.1 × BothFit P Q y.0) (some_is made x b.2) (Takes-then bytes (f a.0.0) a.0.1 (g b.0.0) b.0.1 ta.0 tb.0, (ta.1, tb.1))

  both_again : (x : X × Y) (rest : List ℕ) → BothFit P Q x → both_at one other (both f g x ++ rest) ≡ Some (x, rest)
  unfolding both_at
  both_again x rest fits = ap (both_at one other) (append_assoc (f x.0) (g x.1) rest) ∙ rw (first.again x.0 (g x.1 ++ rest) fits.0, second.again x.1 rest fits.1) refl

  pub both_format : IsFormat (both_at one other) (both f g) (BothFit P Q)
  both_format = record { takes = both_takes; again = both_again }

-- what is made of a field and determines it
module _ {X Y : Type 0} (make : X → Y) (view : Y → X) (one : List ℕ → Read X) (f : X → List ℕ) (P : X → Type 0) (back : (x : X) → view (make x) ≡ x) (whole : (y : Y) → make (view y) ≡ y) (first : IsFormat one f P) where
  made_takes : (bytes : List ℕ) (y : Y × List ℕ) → IsBytes bytes → made_at make one bytes ≡ Some y → Takes bytes (f (view y.0)) y.1 × P (view y.0)
  unfolding made_at
  made_takes bytes y fits e =
      let b = bind_some (one bytes) (λ p. Some (make p.0, p.1)) y e in
      let t = first.takes bytes b.0 fits b.1 in
      let whole_taken = subst (λ (x : X). Takes bytes (f x) b.0.1 × P x) (sym (back b.0.0)) t in
      subst (λ (q : Y × List ℕ). Takes bytes (f (view q.0)) q.1 × P (view q.0)) (some_is (make b.0.0, b.0.1) y b.2) whole_taken

  made_again : (y : Y) (rest : List ℕ) → P (view y) → made_at make one (f (view y) ++ rest) ≡ Some (y, rest)
  unfolding made_at
  made_again y rest fits = rw (first.again (view y) rest fits, whole y) refl

  pub made_format : IsFormat (made_at make one) (λ y. f (view y)) (λ y. P (view y))
  made_format = record { takes = made_takes; again = made_again }

IsBytes-rest : (b : ℕ) (bytes : List ℕ) → IsBytes (b ∷ bytes) → IsBytes bytes
IsBytes-rest b bytes h i = h (suc i)

module _ {X : Type 0} (one : List ℕ → Read X) (f : X → List ℕ) (P : X → Type 0) (single : IsFormat one f P) where
  optional_takes : (bytes : List ℕ) (x : Option X × List ℕ) → IsBytes bytes → optional_at one bytes ≡ Some x → Takes bytes (optional f x.0) x.1 × IfFits P x.0
  unfolding optional_at
  optional_takes [] x fits e = absurd cc
  optional_takes (zero ∷ bytes) x fits e =
      subst (λ (y : Option X × List ℕ). Takes (0 ∷ bytes) (optional f y.0) y.1 × IfFits P y.0) (some_is (None, bytes) x e) (record { parts = refl; rest_is = IsBytes-rest 0 bytes fits }, tt)
  optional_takes (suc zero ∷ bytes) x fits e =
      let b = bind_some (one bytes) (λ p. Some (Some p.0, p.1)) x e in
      let t = single.takes bytes b.0 (IsBytes-rest 1 bytes fits) b.1 in
      subst (λ (y : Option X × List ℕ). Takes (1 ∷ bytes) (optional f y.0) y.1 × IfFits P y.0) (some_is (Some b.0.0, b.0.1) x b.2) (record { parts = ap (λ (w : List ℕ). 1 ∷ w) t.0.parts; rest_is = t.0.rest_is }, t.1)
  optional_takes (suc (suc b) ∷ bytes) x fits e = absurd cc

  optional_again : (o : Option X) (rest : List ℕ) → IfFits P o → optional_at one (optional f o ++ rest) ≡ Some (o, rest)
  unfolding optional_at
  optional_again None rest fits = refl
  optional_again (Some x) rest fits = rw (single.again x rest fits) refl

  pub optional_format : IsFormat (optional_at one) (optional f) (IfFits P)
  optional_format = record { takes = optional_takes; again = optional_again }

-- so many
module _ {X : Type 0} (one : List ℕ → Read X) (spells : X → List ℕ) (Fits : X → Type 0) (single : IsFormat one spells Fits) where
  pub times_takes : (n : ℕ) (bytes : List ℕ) (x : List X × List ℕ) → IsBytes bytes → times_at one n bytes ≡ Some x → Takes bytes (flat_map spells x.0) x.1 × AllByRecursion Fits x.0 × (length x.0 ≡ n)
  unfolding times_at
  times_takes zero bytes x fits e =
      subst (λ (y : List X × List ℕ). Takes bytes (flat_map spells y.0) y.1 × AllByRecursion Fits y.0 × (length y.0 ≡ 0)) (some_is ([], bytes) x e) (record { parts = refl; rest_is = fits }, tt, refl)
  times_takes (suc n) bytes x fits e =
      let p = bind_some (one bytes) (λ first. times_at one n first.1 >>= λ others. Some (first.0 ∷ others.0, others.1)) x e in
      let q = bind_some (times_at one n p.0.1) (λ others. Some (p.0.0 ∷ others.0, others.1)) x p.2 in
      let first = single.takes bytes p.0 fits p.1 in
      let second = times_takes n p.0.1 q.0 first.0.rest_is q.1 in
      let both = Takes-then bytes (spells p.0.0) p.0.1 (flat_map spells q.0.0) q.0.1 first.0 second.0 in
      let made : List X × List ℕ = (p.0.0 ∷ q.0.0, q.0.1) in
      subst (λ (y : List X × List ℕ). Takes bytes (flat_map spells y.0) y.1 × AllByRecursion Fits y.0 × (length y.0 ≡ suc n)) (some_is made x q.2) (rw flat_map-cons both, (first.1, second.1), ap suc second.2)

  pub times_again : (xs : List X) (rest : List ℕ) → AllByRecursion Fits xs → times_at one (length xs) (flat_map spells xs ++ rest) ≡ Some (xs, rest)
  unfolding times_at
  times_again [] rest fits = refl
  times_again (x ∷ xs) rest fits =
      let regrouped : flat_map spells (x ∷ xs) ++ rest ≡ spells x ++ (flat_map spells xs ++ rest) = ap (λ (t : List ℕ). t ++ rest) (flat_map-cons spells x xs) ∙ append_assoc (spells x) (flat_map spells xs) rest in
      ap (times_at one (suc (length xs))) regrouped ∙ rw (single.again x (flat_map spells xs ++ rest) fits.0, times_again xs rest fits.1) refl

module _ {X : Type 0} (one : List ℕ → Read X) (f : X → List ℕ) (P : X → Type 0) (single : IsFormat one f P) where
  counted_takes : (bytes : List ℕ) (x : List X × List ℕ) → IsBytes bytes → counted_at one bytes ≡ Some x → Takes bytes (counted f x.0) x.1 × CountFits P x.0
  unfolding counted_at
  counted_takes bytes x fits e =
      let b = bind_some (number_at bytes) (λ n. times_at one n.0 n.1) x e in
      let n = number_takes bytes b.0 fits b.1 in
      let ts = times_takes one f P single b.0.0 b.0.1 x n.0.rest_is b.2 in
      let both = Takes-then bytes (to_le_bytes w64 b.0.0) b.0.1 (flat_map f x.0) x.1 n.0 ts.0 in
      (subst (λ (k : ℕ). Takes bytes (to_le_bytes w64 k ++ flat_map f x.0) x.1) (sym ts.2) both, (omega (arith, ts.2, n.1), ts.1))

  counted_again : (xs : List X) (rest : List ℕ) → CountFits P xs → counted_at one (counted f xs ++ rest) ≡ Some (xs, rest)
  unfolding counted_at
  counted_again xs rest fits = ap (counted_at one) (append_assoc (to_le_bytes w64 (length xs)) (flat_map f xs) rest) ∙ rw (number_again (length xs) (flat_map f xs ++ rest) fits.0) (times_again one f P single xs rest fits.1)

  pub counted_format : IsFormat (counted_at one) (counted f) (CountFits P)
  counted_format = record { takes = counted_takes; again = counted_again }
