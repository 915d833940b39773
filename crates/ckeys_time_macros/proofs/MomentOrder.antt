-- Moments are ordered as their nanoseconds are.
use Rattle.std.proofs.Common.{◌≡◌, ℕ, ◌<◌, ℤ, pos, ◌+ℤ◌, ◌*ℤ◌, ◌<ℤ◌, arith, true, ap}
use Rattle.std.specs.Prelude.{◌&&◌, ◌↔◌, ◌==◌}
use Rattle.std.specs.Ordering.{MatchOrdering, ordering_then, int_cmp, nat_cmp, int_eq}
use Rattle.std.specs.Cmp.{int_ranks, ranks, int_cmp_is}
use Rattle.std.specs.declared.cmp.Ordering.{Ordering}
use Rattle.std.specs.declared.cmp.Ordering.TheVariants.{Less, Equal, Greater}
use Rattle.std.proofs.lemmas.Bool.{and_from, and_parts, eqb-true, eq-eqb}
use Rattle.std.proofs.lemmas.Bool.Decides.{Decides-int_eq}
use Rattle.std.proofs.Math.Path.{PathP, to_path_p}
use Rattle.std.proofs.Math.Bridge.{le_prop}
use Rattle.jiff.proofs.SpanFacts.{signed_arith}
use Rattle.ckeys_time_macros.specs.declared.timestamp.Timestamp.{Timestamp}

-- that many nanoseconds
abbrev joined : ℤ → ℕ → ℤ
joined seconds rest = seconds *ℤ pos 1_000_000_000 +ℤ pos rest

-- the seconds decide, and where they are equal the rest
decided : (s t : ℤ) (m n : ℕ) (first second : Ordering) → m < 1_000_000_000 → n < 1_000_000_000
    → MatchOrdering first (s <ℤ t) (s ≡ t) (t <ℤ s) → MatchOrdering second (m < n) (m ≡ n) (n < m)
    → MatchOrdering (ordering_then first second) (joined s m <ℤ joined t n) (joined s m ≡ joined t n) (joined t n <ℤ joined s m)
decided s t m n Less second small little h k = omega (arith, signed_arith)
decided s t m n Greater second small little h k = omega (arith, signed_arith)
decided s t m n Equal Less small little h k = omega (arith, signed_arith)
decided s t m n Equal Greater small little h k = omega (arith, signed_arith)
decided s t m n Equal Equal small little h k = omega (arith, signed_arith)

pub ordered_by_parts : (s t : ℤ) (m n : ℕ) → m < 1_000_000_000 → n < 1_000_000_000 → ordering_then (int_cmp s t) (nat_cmp m n) ≡ int_cmp (joined s m) (joined t n)
ordered_by_parts s t m n small little = int_cmp_is (joined s m) (joined t n) _ (decided s t m n (int_cmp s t) (nat_cmp m n) small little (int_ranks s t) (ranks m n))

same_parts : (one other : Timestamp) → one.seconds ≡ other.seconds → one.nanoseconds ≡ other.nanoseconds → one ≡ other
same_parts one other seconds rest =
    let small : PathP (λ i. rest i < 1_000_000_000) one.below_a_second other.below_a_second = to_path_p (λ i. rest i < 1_000_000_000) (le_prop _ _) in
    λ i. record { seconds = seconds i; nanoseconds = rest i; below_a_second = small i }

pub equal_by_parts : (one other : Timestamp) → ((int_eq one.seconds other.seconds && (one.nanoseconds == other.nanoseconds)) ≡ true) ↔ (one ≡ other)
equal_by_parts one other = (
  λ h. let parts = and_parts (int_eq one.seconds other.seconds) (one.nanoseconds == other.nanoseconds) h in
      same_parts one other ((Decides-int_eq one.seconds other.seconds).0 parts.0) (eqb-true one.nanoseconds other.nanoseconds parts.1),
  λ e. and_from (int_eq one.seconds other.seconds) (one.nanoseconds == other.nanoseconds)
      ((Decides-int_eq one.seconds other.seconds).1 (ap (λ (t : Timestamp). t.seconds) e))
      (eq-eqb one.nanoseconds other.nanoseconds (ap (λ (t : Timestamp). t.nanoseconds) e)),
)
