-- What is read of a key's pieces is what was written, and what was written is read.
use Rattle.std.proofs.Common.{◌≡◌, ℕ, zero, suc, ◌+◌, ◌≤◌, Bool, true, false, cond, ltb, eqb, List, [], ◌∷◌, ◌++◌, length, take, drop, map, Option, Some, None, refl, sym, ap, subst, ◌∙◌, append_assoc, arith}
use Rattle.std.specs.Prelude.{is_some, unwrap_or}
use Rattle.std.specs.List.{flat_map, list_all, AllByRecursion}
use Rattle.std.proofs.lemmas.Bool.{and_parts, eqb-true, eq-eqb, ltb-false, le-ltb}
use Rattle.std.proofs.lemmas.List.{append-nil, drop_at, get_or-drop, length-append, length-take, nil_from_length, take-append-drop, take_at}
use Rattle.std.proofs.lemmas.List.Concat.{flat_map-cons}
use Rattle.base_files.specs.Bytes.{Bytes}
use Rattle.base_formats.specs.FieldFormats.{bind_some, both_format, framed_format, if_some, some_is, Takes-then, times_again, times_takes, unless_some}
use Rattle.base_formats.specs.Formats.{IsBytes, IsFormat, Takes}
use Rattle.base_formats.specs.Reading.{Read, ◌>>=◌, framed_at, taken_at, times_at}
use Rattle.base_formats.specs.Spelling.{BothFit, FitsFrame, IfFits, framed, number}
use Rattle.rustc_parts.specs.Formed.{IsDigest, is_digit}
use Rattle.rustc_parts.specs.Material.{env_dep_bytes, joined, pair_bytes}
use Rattle.rustc_parts.specs.Reading.{after_at, byte_at, digest_at, each_at, env_dep_at, pair_at, optional_digest_at, valued, words_at}
use Rattle.rustc_parts.specs.declared.parts.EnvDep.{EnvDep}

IsBytes-drop : (n : ℕ) (bytes : Bytes) → IsBytes bytes → IsBytes (drop n bytes)
IsBytes-drop n bytes h i = rw get_or-drop (h (n + i))

IsBytes-rest : (b : ℕ) (bytes : Bytes) → IsBytes (b ∷ bytes) → IsBytes bytes
IsBytes-rest b bytes h i = h (suc i)

-- ---- so many bytes

taken_takes : (n : ℕ) (bytes : Bytes) (x : Bytes × Bytes) → IsBytes bytes → taken_at n bytes ≡ Some x → Takes bytes x.0 x.1 × (length x.0 ≡ n)
unfolding taken_at
taken_takes n bytes x fits e =
    let g = unless_some (ltb (length bytes) n) (Some (take n bytes, drop n bytes)) x e in
    let long : n ≤ length bytes = ltb-false _ _ g.0 in
    subst (λ (y : Bytes × Bytes). Takes bytes y.0 y.1 × (length y.0 ≡ n)) (some_is (take n bytes, drop n bytes) x g.1)
    (record { parts = sym (take-append-drop n bytes); rest_is = IsBytes-drop n bytes fits }, omega (arith, length-take n bytes))

taken_again : (n : ℕ) (t rest : Bytes) → length t ≡ n → taken_at n (t ++ rest) ≡ Some (t, rest)
unfolding taken_at
taken_again n t rest is =
    let long : ltb (length (t ++ rest)) n ≡ false = le-ltb _ _ (omega (arith, length-append t rest, is)) in
    rw (long, take_at t rest n is, drop_at t rest n is) refl

-- ---- digests

digest_takes : (width : ℕ) (bytes : Bytes) (x : Bytes × Bytes) → IsBytes bytes → digest_at width bytes ≡ Some x → Takes bytes x.0 x.1 × IsDigest width x.0
unfolding digest_at
digest_takes width bytes x fits e =
    let b = bind_some (taken_at width bytes) (λ digest. cond (list_all is_digit digest.0) (Some digest) None) x e in
    let g = if_some (list_all is_digit b.0.0) (Some b.0) x b.2 in
    let t = taken_takes width bytes b.0 fits b.1 in
    let whole : IsDigest width b.0.0 = rw (eq-eqb (length b.0.0) width t.1, g.0) refl in
    subst (λ (y : Bytes × Bytes). Takes bytes y.0 y.1 × IsDigest width y.0) (some_is b.0 x g.1) (t.0, whole)

digest_again : (width : ℕ) (t rest : Bytes) → IsDigest width t → digest_at width (t ++ rest) ≡ Some (t, rest)
unfolding digest_at
digest_again width t rest is =
    let tests = and_parts (eqb (length t) width) (list_all is_digit t) is in
    rw (taken_again width t rest (eqb-true _ _ tests.0), tests.1) refl

pub digest_format : (width : ℕ) → IsFormat (digest_at width) (λ t. t) (IsDigest width)
digest_format width = record { takes = digest_takes width; again = digest_again width }

-- ---- so many in a row

module _ {X : Type 0} (one : Bytes → Read X) (f : X → Bytes) (P : X → Type 0) (single : IsFormat one f P) where
  pub row_format : (n : ℕ) → IsFormat (times_at one n) (flat_map f) (λ xs. AllByRecursion P xs × (length xs ≡ n))
  row_format n = record {
    takes = λ bytes x fits e. let t = times_takes one f P single n bytes x fits e in (t.0, (t.1, t.2));
    again = λ xs rest fits. subst (λ (k : ℕ). times_at one k (flat_map f xs ++ rest) ≡ Some (xs, rest)) fits.1 (times_again one f P single xs rest fits.0);
  }

-- ---- one for each, by what is known of it

module _ {A X : Type 0} (one : A → Bytes → Read X) (f : X → Bytes) (known : X → A) (P : X → Type 0) (single : (a : A) → IsFormat (one a) f (λ x. P x × (known x ≡ a))) where
  each_takes : (all : List A) (bytes : Bytes) (x : List X × Bytes) → IsBytes bytes → each_at one all bytes ≡ Some x → Takes bytes (flat_map f x.0) x.1 × (AllByRecursion P x.0 × (map known x.0 ≡ all))
  unfolding each_at
  each_takes [] bytes x fits e =
      subst (λ (y : List X × Bytes). Takes bytes (flat_map f y.0) y.1 × (AllByRecursion P y.0 × (map known y.0 ≡ []))) (some_is ([], bytes) x e) (record { parts = refl; rest_is = fits }, (tt, refl))
  each_takes (a ∷ all) bytes x fits e =
      let p = bind_some (one a bytes) (λ first. each_at one all first.1 >>= λ others. Some (first.0 ∷ others.0, others.1)) x e in
      let q = bind_some (each_at one all p.0.1) (λ others. Some (p.0.0 ∷ others.0, others.1)) x p.2 in
      let first = (single a).takes bytes p.0 fits p.1 in
      let second = each_takes all p.0.1 q.0 first.0.rest_is q.1 in
      let both = Takes-then bytes (f p.0.0) p.0.1 (flat_map f q.0.0) q.0.1 first.0 second.0 in
      let made : List X × Bytes = (p.0.0 ∷ q.0.0, q.0.1) in
      let heads : known p.0.0 ∷ map known q.0.0 ≡ a ∷ all = ap (λ (k : A). k ∷ map known q.0.0) first.1.1 ∙ ap (λ (ks : List A). a ∷ ks) second.1.1 in
      subst (λ (y : List X × Bytes). Takes bytes (flat_map f y.0) y.1 × (AllByRecursion P y.0 × (map known y.0 ≡ a ∷ all))) (some_is made x q.2) (rw flat_map-cons both, ((first.1.0, second.1.0), heads))

  each_again : (xs : List X) (rest : Bytes) → AllByRecursion P xs → each_at one (map known xs) (flat_map f xs ++ rest) ≡ Some (xs, rest)
  unfolding each_at
  each_again [] rest fits = refl
  each_again (x ∷ xs) rest fits =
      let regrouped : flat_map f (x ∷ xs) ++ rest ≡ f x ++ (flat_map f xs ++ rest) = ap (λ (t : Bytes). t ++ rest) (flat_map-cons f x xs) ∙ append_assoc (f x) (flat_map f xs) rest in
      ap (each_at one (known x ∷ map known xs)) regrouped ∙ rw ((single (known x)).again x (flat_map f xs ++ rest) (fits.0, refl), each_again xs rest fits.1) refl

  pub each_format : (all : List A) → IsFormat (each_at one all) (flat_map f) (λ xs. AllByRecursion P xs × (map known xs ≡ all))
  each_format all = record {
    takes = each_takes all;
    again = λ xs rest fits. subst (λ (known_all : List A). each_at one known_all (flat_map f xs ++ rest) ≡ Some (xs, rest)) fits.1 (each_again xs rest fits.0);
  }

-- ---- a byte, and what comes after it

byte_takes : (b : ℕ) (bytes rest : Bytes) → IsBytes bytes → byte_at b bytes ≡ Some rest → Takes bytes (b ∷ []) rest
unfolding byte_at
byte_takes b [] rest fits e = absurd cc
byte_takes b (x ∷ bytes) rest fits e =
    let g = if_some (eqb x b) (Some bytes) rest e in
    let same : x ≡ b = eqb-true _ _ g.0 in
    subst (λ (r : Bytes). Takes (x ∷ bytes) (b ∷ []) r) (some_is bytes rest g.1) (record { parts = ap (λ (y : ℕ). y ∷ bytes) same; rest_is = IsBytes-rest x bytes fits })

byte_again : (b : ℕ) (rest : Bytes) → byte_at b (b ∷ rest) ≡ Some rest
unfolding byte_at
byte_again b rest = rw (eq-eqb b b refl) refl

module _ {X : Type 0} (b : ℕ) (one : Bytes → Read X) (f : X → Bytes) (P : X → Type 0) (single : IsFormat one f P) where
  after_takes : (bytes : Bytes) (x : X × Bytes) → IsBytes bytes → after_at b one bytes ≡ Some x → Takes bytes (b ∷ f x.0) x.1 × P x.0
  unfolding after_at
  after_takes bytes x fits e =
      let first = bind_some (byte_at b bytes) one x e in
      let ta = byte_takes b bytes first.0 fits first.1 in
      let tb = single.takes first.0 x ta.rest_is first.2 in
      (Takes-then bytes (b ∷ []) first.0 (f x.0) x.1 ta tb.0, tb.1)

  after_again : (x : X) (rest : Bytes) → P x → after_at b one ((b ∷ f x) ++ rest) ≡ Some (x, rest)
  unfolding after_at
  after_again x rest fits = rw (byte_again b (f x ++ rest)) (single.again x rest fits)

  pub after_format : IsFormat (after_at b one) (λ x. b ∷ f x) P
  after_format = record { takes = after_takes; again = after_again }

-- ---- a digest where there is one

abbrev pub IsOptionalDigest : ℕ → Bool → Option Bytes → Type 0
IsOptionalDigest width is_there digest = IfFits (IsDigest width) digest × (is_some digest ≡ is_there)

optional_digest_takes : (width : ℕ) (is_there : Bool) (bytes : Bytes) (x : Option Bytes × Bytes) → IsBytes bytes → optional_digest_at width is_there bytes ≡ Some x → Takes bytes (unwrap_or x.0 []) x.1 × IsOptionalDigest width is_there x.0
unfolding optional_digest_at
optional_digest_takes width false bytes x fits e =
    subst (λ (y : Option Bytes × Bytes). Takes bytes (unwrap_or y.0 []) y.1 × IsOptionalDigest width false y.0) (some_is (None, bytes) x e) (record { parts = refl; rest_is = fits }, (tt, refl))
optional_digest_takes width true bytes x fits e =
    let b = bind_some (digest_at width bytes) (λ digest. Some (Some digest.0, digest.1)) x e in
    let t = digest_takes width bytes b.0 fits b.1 in
    subst (λ (y : Option Bytes × Bytes). Takes bytes (unwrap_or y.0 []) y.1 × IsOptionalDigest width true y.0) (some_is (Some b.0.0, b.0.1) x b.2) (t.0, (t.1, refl))

optional_digest_again : (width : ℕ) (digest : Option Bytes) (rest : Bytes) → IfFits (IsDigest width) digest → optional_digest_at width (is_some digest) (unwrap_or digest [] ++ rest) ≡ Some (digest, rest)
unfolding optional_digest_at
optional_digest_again width None rest fits = refl
optional_digest_again width (Some t) rest fits = rw (digest_again width t rest fits) refl

pub optional_digest_format : (width : ℕ) (is_there : Bool) → IsFormat (optional_digest_at width is_there) (λ digest. unwrap_or digest []) (IsOptionalDigest width is_there)
optional_digest_format width is_there = record {
  takes = optional_digest_takes width is_there;
  again = λ digest rest fits. subst (λ (has : Bool). optional_digest_at width has (unwrap_or digest [] ++ rest) ≡ Some (digest, rest)) fits.1 (optional_digest_again width digest rest fits.0);
}

-- ---- words

pub words_in_row : (lengths : List ℕ) → IsFormat (each_at taken_at lengths) joined (λ ws. AllByRecursion (λ w. Unit {0}) ws × (map length ws ≡ lengths))
words_in_row lengths = each_format taken_at (λ t. t) length (λ w. Unit {0}) (λ n. record {
  takes = λ bytes x fits e. let t = taken_takes n bytes x fits e in (t.0, (tt, t.1));
  again = λ t rest fits. taken_again n t rest fits.1;
}) lengths

anything : (ws : List Bytes) → AllByRecursion (λ w. Unit {0}) ws
anything [] = tt
anything (w ∷ ws) = (tt, anything ws)

front_is_bytes : (a rest : Bytes) → IsBytes (a ++ rest) → IsBytes a
front_is_bytes [] rest fits i = omega arith
front_is_bytes (x ∷ a) rest fits zero = fits 0
front_is_bytes (x ∷ a) rest fits (suc i) = front_is_bytes a rest (λ j. fits (suc j)) i

after_is_bytes : (a rest : Bytes) → IsBytes (a ++ rest) → IsBytes rest
after_is_bytes [] rest fits i = fits i
after_is_bytes (x ∷ a) rest fits i = after_is_bytes a rest (λ j. fits (suc j)) i

abbrev pub AreWords : List ℕ → List Bytes → Type 0
AreWords lengths ws = FitsFrame (joined ws) × (map length ws ≡ lengths)

words_takes : (lengths : List ℕ) (bytes : Bytes) (x : List Bytes × Bytes) → IsBytes bytes → words_at lengths bytes ≡ Some x → Takes bytes (framed (joined x.0)) x.1 × AreWords lengths x.0
unfolding words_at
words_takes lengths bytes x fits e =
    let a = bind_some (framed_at bytes) (λ block. each_at taken_at lengths block.0 >>= λ words. cond (eqb (length words.1) 0) (Some (words.0, block.1)) None) x e in
    let b = bind_some (each_at taken_at lengths a.0.0) (λ words. cond (eqb (length words.1) 0) (Some (words.0, a.0.1)) None) x a.2 in
    let g = if_some (eqb (length b.0.1) 0) (Some (b.0.0, a.0.1)) x b.2 in
    let ta = framed_format.takes bytes a.0 fits a.1 in
    let block_fits : IsBytes a.0.0 = front_is_bytes a.0.0 a.0.1 (after_is_bytes (number (length a.0.0)) (a.0.0 ++ a.0.1) (subst IsBytes (ta.0.parts ∙ append_assoc (number (length a.0.0)) a.0.0 a.0.1) fits)) in
    let tb = (words_in_row lengths).takes a.0.0 b.0 block_fits b.1 in
    let none : b.0.1 ≡ [] = nil_from_length b.0.1 (eqb-true _ _ g.0) in
    let block : a.0.0 ≡ joined b.0.0 = tb.0.parts ∙ ap (λ (r : Bytes). joined b.0.0 ++ r) none ∙ append-nil (joined b.0.0) in
    subst (λ (y : List Bytes × Bytes). Takes bytes (framed (joined y.0)) y.1 × AreWords lengths y.0) (some_is (b.0.0, a.0.1) x g.1)
    (subst (λ (t : Bytes). Takes bytes (framed t) a.0.1 × (FitsFrame t × (map length b.0.0 ≡ lengths))) block (ta.0, (ta.1, tb.1.1)))

words_again : (ws : List Bytes) (rest : Bytes) → FitsFrame (joined ws) → words_at (map length ws) (framed (joined ws) ++ rest) ≡ Some (ws, rest)
unfolding words_at
words_again ws rest fits =
    let inner : each_at taken_at (map length ws) (joined ws) ≡ Some (ws, []) = ap (each_at taken_at (map length ws)) (sym (append-nil (joined ws))) ∙ (words_in_row (map length ws)).again ws [] (anything ws, refl) in
    rw (framed_format.again (joined ws) rest fits, inner) refl

pub words_format : (lengths : List ℕ) → IsFormat (words_at lengths) (λ ws. framed (joined ws)) (AreWords lengths)
words_format lengths = record {
  takes = words_takes lengths;
  again = λ ws rest fits. subst (λ (ns : List ℕ). words_at ns (framed (joined ws) ++ rest) ≡ Some (ws, rest)) fits.1 (words_again ws rest fits.0);
}

-- ---- variables

abbrev pub PairFits : Bytes × Bytes → Type 0
PairFits pair = BothFit FitsFrame FitsFrame pair

pub pair_format : IsFormat pair_at pair_bytes PairFits
unfolding pair_at
pair_format = both_format _ _ _ _ _ _ framed_format (after_format 61 _ _ _ framed_format)

abbrev pub EnvDepFits : EnvDep → Type 0
EnvDepFits dep = PairFits (dep.name, unwrap_or dep.value [])

valued_is : (is_set : Bool) (value : Bytes) (o : Option Bytes) → valued is_set value ≡ Some o → (value ≡ unwrap_or o []) × (is_some o ≡ is_set)
valued_is true value o e = subst (λ (y : Option Bytes). (value ≡ unwrap_or y []) × (is_some y ≡ true)) (some_is (Some value) o e) (refl, refl)
valued_is false [] o e = subst (λ (y : Option Bytes). ([] ≡ unwrap_or y []) × (is_some y ≡ false)) (some_is None o e) (refl, refl)
valued_is false (b ∷ value) o e = absurd cc

valued_again : (o : Option Bytes) → valued (is_some o) (unwrap_or o []) ≡ Some o
valued_again None = refl
valued_again (Some value) = refl

abbrev pub IsEnvDep : Bool → EnvDep → Type 0
IsEnvDep is_set dep = EnvDepFits dep × (is_some dep.value ≡ is_set)

env_dep_takes : (is_set : Bool) (bytes : Bytes) (x : EnvDep × Bytes) → IsBytes bytes → env_dep_at is_set bytes ≡ Some x → Takes bytes (env_dep_bytes x.0) x.1 × IsEnvDep is_set x.0
unfolding env_dep_at
env_dep_takes is_set bytes x fits e =
    let a = bind_some (pair_at bytes) (λ pair. valued is_set pair.0.1 >>= λ value. Some (record { name = pair.0.0; value = value }, pair.1)) x e in
    let b = bind_some (valued is_set a.0.0.1) (λ value. Some (record { name = a.0.0.0; value = value }, a.0.1)) x a.2 in
    let t = pair_format.takes bytes a.0 fits a.1 in
    let v = valued_is is_set a.0.0.1 b.0 b.1 in
    let made : EnvDep × Bytes = (record { name = a.0.0.0; value = b.0 }, a.0.1) in
    subst (λ (y : EnvDep × Bytes). Takes bytes (env_dep_bytes y.0) y.1 × IsEnvDep is_set y.0) (some_is made x b.2)
    (subst (λ (value : Bytes). Takes bytes (pair_bytes (a.0.0.0, value)) a.0.1 × (PairFits (a.0.0.0, value) × (is_some b.0 ≡ is_set))) v.0 (t.0, (t.1, v.1)))

env_dep_again : (dep : EnvDep) (rest : Bytes) → EnvDepFits dep → env_dep_at (is_some dep.value) (env_dep_bytes dep ++ rest) ≡ Some (dep, rest)
unfolding env_dep_at
env_dep_again dep rest fits = rw (pair_format.again (dep.name, unwrap_or dep.value []) rest fits, valued_again dep.value) refl

pub env_dep_format : (is_set : Bool) → IsFormat (env_dep_at is_set) env_dep_bytes (IsEnvDep is_set)
env_dep_format is_set = record {
  takes = env_dep_takes is_set;
  again = λ dep rest fits. subst (λ (set : Bool). env_dep_at set (env_dep_bytes dep ++ rest) ≡ Some (dep, rest)) fits.1 (env_dep_again dep rest fits.0);
}
