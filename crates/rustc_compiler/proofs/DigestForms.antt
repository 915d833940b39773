-- The text of some bytes is digits.
use Rattle.std.proofs.Common.{◌≡◌, ℕ, suc, ◌<◌, ◌%◌, ◌/◌, true, List, [], ◌∷◌, length, refl, arith, subst, Option, None, Some}
use Rattle.std.specs.Prelude.{option_and_then}
use Rattle.std.specs.Option.{option_map}
use Rattle.std.specs.List.{list_all, AllByRecursion}
use Rattle.std.proofs.lemmas.Bool.{eq-eqb}
use Rattle.std.proofs.lemmas.Bool.Decides.{nat_tests}
use Rattle.base_files.specs.Bytes.{Bytes}
use Rattle.base_files.specs.Tree.{Tree, contents_at}
use Rattle.ckeys_base.specs.FileDigests.{file_digests}
use Rattle.ckeys_base.specs.Hex.{AreBytes, digit_of, hex_of}
use Rattle.rustc_parts.specs.Formed.{IsDigest, is_digit}

digit_is : (n : ℕ) → n < 16 → is_digit (digit_of n) ≡ true
digit_is n low = grind (arith, nat_tests)

digits_are : (bytes : List ℕ) → AreBytes bytes → list_all is_digit (hex_of bytes) ≡ true
digits_are [] are = refl
digits_are (b ∷ bytes) are =
    let small : b < 256 = are 0 b (omega arith) in
    rw (digit_is (b % 16) (omega arith), digit_is (b / 16) (omega arith)) (digits_are bytes (λ k d h. are (suc k) d (omega arith)))

-- the text of some bytes has the form of a digest of that width
pub hex_is_digest : (width : ℕ) (bytes : List ℕ) → AreBytes bytes → length (hex_of bytes) ≡ width → IsDigest width (hex_of bytes)
hex_is_digest width bytes are long = rw (eq-eqb (length (hex_of bytes)) width long, digits_are bytes are) refl

module _ (digest_of : Bytes → Bytes) (width : ℕ) (formed : (bytes : Bytes) → IsDigest width (hex_of (digest_of bytes))) where
  each_is_formed : (found : Option Bytes) (others : Option (List Bytes)) (digests : List Bytes)
      → ((later : List Bytes) → Some later ≡ others → AllByRecursion (IsDigest width) later)
      → Some digests ≡ option_and_then (λ digest. option_map (λ later. digest ∷ later) others) (option_map (λ contents. hex_of (digest_of contents)) found)
      → AllByRecursion (IsDigest width) digests
  each_is_formed None others digests rest e = cc
  each_is_formed (Some contents) None digests rest e = cc
  each_is_formed (Some contents) (Some later) digests rest e =
      let is : hex_of (digest_of contents) ∷ later ≡ digests = cc in
      subst (λ ds. AllByRecursion (IsDigest width) ds) is (formed contents, rest later refl)

  -- the digests of files have the form that all digests have
  pub files_are_formed : (tree : Tree) (paths digests : List Bytes) → Some digests ≡ file_digests digest_of tree paths → AllByRecursion (IsDigest width) digests
  files_are_formed tree [] digests e =
      let is : [] ≡ digests = cc in
      subst (λ ds. AllByRecursion (IsDigest width) ds) is tt
  files_are_formed tree (path ∷ paths) digests e =
      each_is_formed (contents_at tree path) (file_digests digest_of tree paths) digests (λ later h. files_are_formed tree paths later h) e
