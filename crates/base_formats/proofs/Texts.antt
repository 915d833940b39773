-- Texts that are read.
use Rattle.std.proofs.Common.{◌≡◌, Bool, true, false, List, ℕ, Some, None, refl}
use Rattle.std.specs.Str.{IsUtf8, is_utf8}
use Rattle.std.proofs.lemmas.Str.{IsUtf8-from_is_utf8, is_utf8-from_IsUtf8}
use Rattle.base_formats.specs.Reading.{Fails, framed_at, text_at}
use Rattle.base_formats.specs.declared.fault.ReadFault.{ReadFault}
use Rattle.base_formats.specs.declared.fault.ReadFault.TheVariants as faults

pub text-read : (bytes : List ℕ) (text : List ℕ × List ℕ) → framed_at bytes ≡ Some text → IsUtf8 text.0 → text_at bytes ≡ Some text
unfolding text_at
text-read bytes text framed utf8 = rw (framed, is_utf8-from_IsUtf8 text.0 utf8) refl

not_utf8 : (b : Bool) (bytes : List ℕ) → is_utf8 bytes ≡ b → (IsUtf8 bytes → ⊥) → b ≡ false
not_utf8 true bytes e h = absurd (h (IsUtf8-from_is_utf8 bytes e))
not_utf8 false bytes e h = refl

pub text-refused : (bytes : List ℕ) (text : List ℕ × List ℕ) → framed_at bytes ≡ Some text → (IsUtf8 text.0 → ⊥) → text_at bytes ≡ None
unfolding text_at
text-refused bytes text framed bad = rw (framed, not_utf8 (is_utf8 text.0) text.0 refl bad) refl

pub unframed : (bytes : List ℕ) (fault : ReadFault) → Fails fault (framed_at bytes) → Fails fault (text_at bytes)
unfolding text_at
unframed bytes faults.Memory none = tt
unframed bytes faults.Unfit none = rw none refl
