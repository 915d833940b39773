-- Keys determine records where digests are distinct.
use Rattle.std.proofs.Common.{◌≡◌, inl, inr, suc, List, [], ◌∷◌, map, refl, ap, arith}
use Rattle.std.specs.List.{Contains}
use Rattle.base_files.specs.Bytes.{Bytes}
use Rattle.ckeys_base.specs.Hex.{hex_of}
use Rattle.ckeys_records.specs.Records.{CRecord, HashedParts, parts_of, AreTold}
use Rattle.ckeys_records.specs.Keys.{AreDistinct, key_of, record_material, record_shape}
use Rattle.ckeys_records.proofs.MaterialLemmas.{told}

here : (x : Bytes) (xs : List Bytes) → Contains (x ∷ xs) x
here x xs = (0, omega (arith), refl)

further : (x : Bytes) (xs : List Bytes) (y : Bytes) → Contains xs y → Contains (x ∷ xs) y
further x xs y (k, below, is) = (suc k, omega (arith, below), is)

module _ (digest_of : Bytes → Bytes) (tells : (one other : Bytes) → hex_of (digest_of one) ≡ hex_of (digest_of other) → digest_of one ≡ digest_of other) where
  abbrev pub hash_of : Bytes → Bytes
  hash_of contents = hex_of (digest_of contents)

  pub contents_told : (xs ys : List Bytes) → ((x y : Bytes) → Contains xs x → Contains ys y → digest_of x ≡ digest_of y → x ≡ y) → map hash_of xs ≡ map hash_of ys → xs ≡ ys
  contents_told [] [] distinct h = refl
  contents_told [] (y ∷ ys) distinct h = cc
  contents_told (x ∷ xs) [] distinct h = cc
  contents_told (x ∷ xs) (y ∷ ys) distinct h =
      let first : hash_of x ≡ hash_of y = cc in
      let others : map hash_of xs ≡ map hash_of ys = cc in
      let head : x ≡ y = distinct x y (here x xs) (here y ys) (tells x y first) in
      let tail : xs ≡ ys = contents_told xs ys (λ u v p q. distinct u v (further x xs u p) (further y ys v q)) others in
      rw (head, tail) refl

  pub record_told : (a b : CRecord) → AreTold a.words a.variables → AreTold b.words b.variables → AreDistinct digest_of a b → key_of digest_of a ≡ key_of digest_of b → record_shape digest_of a ≡ record_shape digest_of b → a ≡ b
  record_told a b p q distinct same shape =
      let material : record_material digest_of a ≡ record_material digest_of b = distinct _ _ (inl (inr refl)) (inr (inr refl)) (tells _ _ same) in
      let parts : parts_of digest_of a ≡ parts_of digest_of b = told (parts_of digest_of a) (parts_of digest_of b) p q material shape in
      let contents : a.extra_contents ≡ b.extra_contents = contents_told a.extra_contents b.extra_contents (λ x y u v. distinct x y (inl (inl u)) (inr (inl v))) (ap (λ (h : HashedParts). h.extra_hashes) parts) in
      λ i. record {
        compiler_digest = ap (λ (h : HashedParts). h.compiler_digest) parts i;
        plusplus = ap (λ (h : HashedParts). h.plusplus) parts i;
        language = ap (λ (h : HashedParts). h.language) parts i;
        words = ap (λ (h : HashedParts). h.words) parts i;
        variables = ap (λ (h : HashedParts). h.variables) parts i;
        extra_contents = contents i;
        assembler_digest = ap (λ (h : HashedParts). h.assembler_digest) parts i;
        text = ap (λ (h : HashedParts). h.text) parts i;
      }
