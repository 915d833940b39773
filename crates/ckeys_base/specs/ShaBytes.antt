-- Numbers as bytes, and so a digest under SHA-256, are byte strings.
use Rattle.std.specs.Prelude.{ℕ, ◌<◌, zero, suc, List}
use Rattle.std.specs.Int.{byte_at, bytes_high_first}
use Rattle.std.proofs.Common.{arith}
use Rattle.std.proofs.lemmas.List.Elements.{All-append, All-cons, All-nil}
use Rattle.sha2.specs.Sha256.{digest_bytes, sha256}
use Rattle.ckeys_base.specs.Hex.{AreBytes}

byte_at-lt : (i n : ℕ) → byte_at i n < 256
byte_at-lt zero n = omega arith
byte_at-lt (suc i) n = omega arith

pub AreBytes-high_first : (count n : ℕ) → AreBytes (bytes_high_first count n)
AreBytes-high_first zero n = All-nil _
AreBytes-high_first (suc count) n = All-cons (λ b. b < 256) (byte_at count n) _ (byte_at-lt count n) (AreBytes-high_first count n)

AreBytes-digest_bytes : (h : List ℕ) (count : ℕ) → AreBytes (digest_bytes h count)
unfolding digest_bytes
AreBytes-digest_bytes h zero = All-nil _
AreBytes-digest_bytes h (suc count) = All-append (λ b. b < 256) (digest_bytes h count) _ (AreBytes-digest_bytes h count) (AreBytes-high_first 4 _)

pub AreBytes-sha256 : (message : List ℕ) → AreBytes (sha256 message)
unfolding sha256
AreBytes-sha256 message = AreBytes-digest_bytes _ 8
