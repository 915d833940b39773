-- Texts that are UTF-8, and others.
use Rattle.std.proofs.Common.{◌≡◌, true, false, Bool, None, Some, refl}
use Rattle.std.specs.Str.{IsUtf8, is_utf8}
use Rattle.std.proofs.lemmas.Str.{IsUtf8-from_is_utf8, is_utf8-from_IsUtf8}
use Rattle.base_files.specs.Bytes.{Bytes}
use Rattle.rustkeys_base.specs.Expansion.{words_of_text}
use Rattle.rustkeys_base.specs.Lines.{rustc_lines}

pub words_of_utf8 : (text : Bytes) → IsUtf8 text → words_of_text text ≡ Some (rustc_lines text)
words_of_utf8 text h = rw (is_utf8-from_IsUtf8 text h) refl

pub words_of_other : (text : Bytes) → (IsUtf8 text → ⊥) → words_of_text text ≡ None
words_of_other text h = by (is_utf8 text) refl
  where
    by : (b : Bool) → is_utf8 text ≡ b → words_of_text text ≡ None
    by true e = absurd (h (IsUtf8-from_is_utf8 text e))
    by false e = rw e refl
