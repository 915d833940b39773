-- Bytes that are UTF-8, and others.
use Rattle.std.proofs.Common.{◌≡◌, Bool, true, false, refl, sym}
use Rattle.std.specs.Str.{IsUtf8, is_utf8}
use Rattle.std.proofs.lemmas.Str.{IsUtf8-from_is_utf8, is_utf8-from_IsUtf8}
use Rattle.base_files.specs.Bytes.{Bytes}

pub text_is : (text : Bytes) → IsUtf8 text → true ≡ is_utf8 text
text_is text h = sym (is_utf8-from_IsUtf8 text h)

pub text_is_not : (text : Bytes) → (IsUtf8 text → ⊥) → false ≡ is_utf8 text
text_is_not text h = by (is_utf8 text) refl
  where
    by : (b : Bool) → is_utf8 text ≡ b → false ≡ is_utf8 text
    by true e = absurd (h (IsUtf8-from_is_utf8 text e))
    by false e = sym e
