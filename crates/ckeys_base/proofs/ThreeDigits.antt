-- A number below a thousand, printed with three digits.
use Rattle.std.proofs.Common.{◌≡◌, ℕ, ◌+◌, ◌/◌, ◌%◌, ◌<◌, ◌≤◌, false, List, [], ◌∷◌, ◌++◌, ap, ◌∙◌, inl, inr, arith}
use Rattle.std.proofs.lemmas.Bool.{cases_lt}
use Rattle.std.proofs.lemmas.Fmt.{decimal_digit, decimal_step}
use Rattle.std.specs.Fmt.{decimal, padded_integral, format_spec, char_count}
use Rattle.ckeys_base.specs.Seconds.{three_digits}

decimal-two : (n : ℕ) → 10 ≤ n → n < 100 → decimal n ≡ (48 + n / 10) ∷ (48 + n % 10) ∷ []
decimal-two n lo hi = decimal_step n lo (omega arith) ∙ ap (λ (x : List ℕ). x ++ ((48 + n % 10) ∷ [])) (decimal_digit (n / 10) (omega arith))

decimal-three : (n : ℕ) → 100 ≤ n → n < 1000 → decimal n ≡ (48 + n / 10 / 10) ∷ (48 + n / 10 % 10) ∷ (48 + n % 10) ∷ []
decimal-three n lo hi = decimal_step n (omega arith) (omega arith) ∙ ap (λ (x : List ℕ). x ++ ((48 + n % 10) ∷ [])) (decimal-two (n / 10) (omega arith) (omega arith))

pub padded-three : (n : ℕ) → n < 1000 → padded_integral (format_spec 32 0 4 3 18446744073709551615) false [] (decimal n) ≡ three_digits n
unfolding padded_integral char_count
padded-three n small = elim (cases_lt n 10) [
  | inl one ↦ let a : n / 100 ≡ 0 = omega arith in let b : n / 10 % 10 ≡ 0 = omega arith in let d : n % 10 ≡ n = omega arith in rw (decimal_digit n one, a, b, d)
  | inr more ↦ elim (cases_lt n 100) [
    | inl two ↦ let a : n / 100 ≡ 0 = omega arith in let b : n / 10 % 10 ≡ n / 10 = omega arith in rw (decimal-two n more two, a, b)
    | inr three ↦ let a : n / 100 ≡ n / 10 / 10 = omega arith in rw (decimal-three n three small, a)
  ]
]
