-- What a text in units of 16 bits ends with, and texts that are no UTF-8.
use Rattle.std.proofs.Common.{◌≡◌, ℕ, ◌<◌, Bool, true, false, List, [], ◌∷◌, ◌++◌, length, refl, sym, ap, ◌∙◌, arith, append-nil}
use Rattle.std.proofs.lemmas.Str.{IsUtf8-from_is_utf8, encodes-append}
use Rattle.std.specs.Char.{encode_utf8}
use Rattle.std.specs.Char.Utf16.{utf16_lossy_chars}
use Rattle.std.specs.Str.{IsUtf8, encode_utf8_all, is_utf8}
use Rattle.base_files.specs.Bytes.{Bytes}
use Rattle.cmdlines_response_files.specs.Decoding.{odd_byte, units, utf16_text}

pub no_utf8 : (bytes : Bytes) → (IsUtf8 bytes → ⊥) → is_utf8 bytes ≡ false
no_utf8 bytes h = by (is_utf8 bytes) refl
  where
    by : (b : Bool) → is_utf8 bytes ≡ b → b ≡ false
    by true q = absurd (h (IsUtf8-from_is_utf8 bytes q))
    by false q = refl

module _ (high : Bool) (so_far : List ℕ) (bytes : Bytes) where
  -- with no byte left
  pub even_end : (rest : Bytes) → rest ≡ [] → so_far ++ units high rest ≡ units high bytes → odd_byte rest ≡ odd_byte bytes → encode_utf8_all (utf16_lossy_chars so_far) ≡ utf16_text high bytes
  even_end rest none read odd =
      let all : so_far ≡ units high bytes = sym (append-nil so_far) ∙ ap (λ r. so_far ++ units high r) (sym none) ∙ read in
      let no_odd : odd_byte bytes ≡ [] = sym odd ∙ ap odd_byte none in
      rw (no_odd, sym all, append-nil (utf16_lossy_chars so_far)) refl

  -- with one
  pub odd_end : (rest : Bytes) → length rest < 2 → (rest ≡ [] → ⊥) → so_far ++ units high rest ≡ units high bytes → odd_byte rest ≡ odd_byte bytes → encode_utf8_all (utf16_lossy_chars so_far) ++ encode_utf8 0xfffd ≡ utf16_text high bytes
  odd_end [] short some read odd = absurd (some refl)
  odd_end (b ∷ []) short some read odd =
      let all : so_far ≡ units high bytes = sym (append-nil so_far) ∙ read in
      rw (sym odd, sym all) (ap (λ bytes. encode_utf8_all (utf16_lossy_chars so_far) ++ bytes) (sym (append-nil (encode_utf8 0xfffd))) ∙ sym (encodes-append (utf16_lossy_chars so_far) (0xfffd ∷ [])))
  odd_end (b ∷ c ∷ rest) short some read odd = absurd (omega (arith, short))
