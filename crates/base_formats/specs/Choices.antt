-- Choices that are spelled as one byte.
use Rattle.std.proofs.Common.{◌≡◌, ℕ, suc, ◌==◌, Bool, true, false, [], ◌∷◌, ◌++◌, Option, None, Some, refl, sym, ap, subst, ◌∙◌, if◌then◌else◌}
use Rattle.std.proofs.lemmas.Bool.{eqb-true}
use Rattle.base_files.specs.Bytes.{Bytes}
use Rattle.base_formats.specs.FieldFormats.{bind_some, some_is}
use Rattle.base_formats.specs.Formats.{IsBytes, IsFormat, Takes}
use Rattle.base_formats.specs.Reading.{Read, ◌>>=◌}

-- a choice by its byte, and what comes after it
unfoldable pub coded_at : {X : Type 0} → (ℕ → Option X) → Bytes → Read X
coded_at of [] = None
coded_at of (b ∷ rest) = do
  x ← of b
  Some (x, rest)

abbrev pub coded : {X : Type 0} → (X → ℕ) → X → Bytes
coded code x = code x ∷ []

-- each choice has its byte
abbrev pub AnyFits : {X : Type 0} → X → Type 0
AnyFits x = Unit {0}

module _ {X : Type 0} (of : ℕ → Option X) (code : X → ℕ) (back : (x : X) → of (code x) ≡ Some x) (one_way : (b : ℕ) (x : X) → of b ≡ Some x → code x ≡ b) where
  coded_takes : (bytes : Bytes) (x : X × Bytes) → IsBytes bytes → coded_at of bytes ≡ Some x → Takes bytes (coded code x.0) x.1 × AnyFits x.0
  unfolding coded_at
  coded_takes [] x fits e = absurd cc
  coded_takes (b ∷ bytes) x fits e =
      let p = bind_some (of b) (λ y. Some (y, bytes)) x e in
      let is = one_way b p.0 p.1 in
      subst (λ (y : X × Bytes). Takes (b ∷ bytes) (coded code y.0) y.1 × AnyFits y.0) (some_is (p.0, bytes) x p.2) (record { parts = ap (λ (k : ℕ). k ∷ bytes) (sym is); rest_is = λ i. fits (suc i) }, tt)

  coded_again : (x : X) (rest : Bytes) → AnyFits x → coded_at of (coded code x ++ rest) ≡ Some (x, rest)
  unfolding coded_at
  coded_again x rest fits = rw (back x) refl

  pub coded_format : IsFormat (coded_at of) (coded code) AnyFits
  coded_format = record { takes = coded_takes; again = coded_again }

-- a choice by a test of its byte, or by the tests after it
chosen_by : {X : Type 0} (code : X → ℕ) (b n : ℕ) (own x : X) (rest : Option X) → (rest ≡ Some x → code x ≡ b) → code own ≡ n → (t : Bool) → (b == n) ≡ t → (if t then Some own else rest) ≡ Some x → code x ≡ b
chosen_by code b n own x rest others is true same e = ap code (sym (some_is own x e)) ∙ is ∙ sym (eqb-true b n same)
chosen_by code b n own x rest others is false same e = others e

pub chosen : {X : Type 0} (code : X → ℕ) (b n : ℕ) (own x : X) (rest : Option X) → (rest ≡ Some x → code x ≡ b) → code own ≡ n → (if b == n then Some own else rest) ≡ Some x → code x ≡ b
chosen code b n own x rest others is e = chosen_by code b n own x rest others is (b == n) refl e

-- the byte of a flag, and the flag of a byte
abbrev pub flag_code : Bool → ℕ
flag_code false = 0
flag_code true = 1

abbrev pub flag_of : ℕ → Option Bool
flag_of b = if b == 0 then Some false else (if b == 1 then Some true else None)

flag_back : (x : Bool) → flag_of (flag_code x) ≡ Some x
flag_back false = refl
flag_back true = refl

flag_one_way : (b : ℕ) (x : Bool) → flag_of b ≡ Some x → flag_code x ≡ b
flag_one_way b x e = chosen flag_code b 0 false x _ (λ f. chosen flag_code b 1 true x _ (λ g. absurd cc) refl f) refl e

pub flag_format : IsFormat (coded_at flag_of) (coded flag_code) AnyFits
flag_format = coded_format flag_of flag_code flag_back flag_one_way
