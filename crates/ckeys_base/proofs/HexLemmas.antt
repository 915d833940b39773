-- The hexadecimal text of some bytes, and the bytes that it determines.
use Rattle.std.proofs.Common.{◌≡◌, ℕ, suc, ◌*◌, ◌<◌, ◌%◌, ◌/◌, List, [], ◌∷◌, length, Result, Ok, Err, IfOk, refl, ap, ◌∙◌, arith}
use Rattle.std.proofs.lemmas.Bool.Decides.{nat_tests}
use Rattle.ckeys_base.specs.Hex.{AreBytes, digit_of, hex_of}

pub length-hex_of : (bytes : List ℕ) → length (hex_of bytes) ≡ 2 * length bytes
length-hex_of [] = refl
length-hex_of (b ∷ bytes) = omega (arith, length-hex_of bytes)

-- what is made of a digest of so many bytes, where it says the text
pub IfOk-length : {T E : Type 0} (says : T → List ℕ) (made : Result T E) (bytes : List ℕ) (count : ℕ) → length bytes ≡ count
    → IfOk made (λ t. says t ≡ hex_of bytes) → IfOk made (λ t. length (says t) ≡ 2 * count)
IfOk-length says (Ok t) bytes count many is = ap length is ∙ length-hex_of bytes ∙ ap (λ n. 2 * n) many
IfOk-length says (Err e) bytes count many is = tt

digit_tells : (m n : ℕ) → m < 16 → n < 16 → digit_of m ≡ digit_of n → m ≡ n
digit_tells m n low also same = grind (arith, nat_tests)

byte_tells : (a b : ℕ) → a < 256 → b < 256 → digit_of (a % 16) ≡ digit_of (b % 16) → digit_of (a / 16) ≡ digit_of (b / 16) → a ≡ b
byte_tells a b small also lower upper =
    let low : a % 16 ≡ b % 16 = digit_tells (a % 16) (b % 16) (omega arith) (omega arith) lower in
    let high : a / 16 ≡ b / 16 = digit_tells (a / 16) (b / 16) (omega arith) (omega arith) upper in
    omega arith

pub hex_tells : (one other : List ℕ) → AreBytes one → AreBytes other → hex_of one ≡ hex_of other → one ≡ other
hex_tells [] [] are also same = refl
hex_tells [] (b ∷ other) are also same = cc
hex_tells (a ∷ one) [] are also same = cc
hex_tells (a ∷ one) (b ∷ other) are also same =
    let lower : digit_of (a % 16) ≡ digit_of (b % 16) = cc in
    let upper : digit_of (a / 16) ≡ digit_of (b / 16) = cc in
    let rest : hex_of one ≡ hex_of other = cc in
    let first : a ≡ b = byte_tells a b (are 0 a (omega arith)) (also 0 b (omega arith)) lower upper in
    let others : one ≡ other = hex_tells one other (λ k d h. are (suc k) d (omega arith)) (λ k d h. also (suc k) d (omega arith)) rest in
    cc
