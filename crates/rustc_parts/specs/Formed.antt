-- Pieces of the right form: digests are digits, and variables are in order.
use Rattle.std.specs.Prelude.{◌≡◌, ℕ, Bool, true, ◌==◌, ◌&&◌, ◌||◌, nat_le, length}
use Rattle.std.specs.List.{list_all, AllByRecursion}
use Rattle.std.specs.List.Sorted.{IsSorted}
use Rattle.std.specs.Str.{byte}
use Rattle.base_files.specs.Bytes.{Bytes}
use Rattle.base_formats.specs.Spelling.{IfFits}
use Rattle.rustc_parts.specs.Orders.{env_dep_cmp, pair_cmp}
use Rattle.rustc_parts.specs.declared.parts.Parts.{Parts}

-- `0` to `9`, and `a` to `f`
abbrev pub is_digit : ℕ → Bool
is_digit b = (nat_le (byte "0") b && nat_le b (byte "9")) || (nat_le (byte "a") b && nat_le b (byte "f"))

-- so many digits
abbrev pub is_digest : ℕ → Bytes → Bool
is_digest width text = (length text == width) && list_all is_digit text

abbrev pub IsDigest : ℕ → Bytes → Type 0
IsDigest width text = is_digest width text ≡ true

-- the digits of a digest of 32 bytes
abbrev pub digest_digits : ℕ
digest_digits = 64

-- Each digest has as many digits as the hash of this width gives; those of the toolchain and of static libraries have 64, whatever the hash.
pub record HasDigests (width : ℕ) (p : Parts) : Type 0 where
  pub toolchain : AllByRecursion (IsDigest digest_digits) p.toolchain
  pub sources : AllByRecursion (IsDigest width) p.sources
  pub externs : AllByRecursion (IsDigest width) p.externs
  pub archives : AllByRecursion (IsDigest digest_digits) p.archives
  pub target : IfFits (IsDigest width) p.target
  pub profile : IfFits (IsDigest width) p.profile

-- variables are in order; one may be repeated
pub record IsSortedByNames (p : Parts) : Type 0 where
  pub env_deps : IsSorted env_dep_cmp p.env_deps
  pub variables : IsSorted pair_cmp p.variables

pub record AreFormed (width : ℕ) (p : Parts) : Type 0 where
  pub digests : HasDigests width p
  pub sorted : IsSortedByNames p
