-- Keys determine records where digests are distinct.
use Rattle.std.proofs.Common.{◌≡◌, ℕ, inl, inr, List, [], ◌∷◌, Option, Some, None, map, refl, ap, arith}
use Rattle.std.specs.List.{AllByRecursion, Contains}
use Rattle.std.specs.Option.{option_map, option_to_list}
use Rattle.base_files.specs.Bytes.{Bytes}
use Rattle.base_formats.specs.Spelling.{FitsFrame, IfFits}
use Rattle.ckeys_records.proofs.KeyLemmas.{contents_told}
use Rattle.ckeys_base.specs.Hex.{hex_of}
use Rattle.rustc_parts.specs.Formed.{HasDigests, IsDigest}
use Rattle.rustc_parts.specs.Material.{material_of}
use Rattle.rustc_parts.specs.Shapes.{shape_of}
use Rattle.rustc_parts.specs.declared.parts.Parts.{Parts}
use Rattle.rustkeys.specs.Records.{AreDistinct, IsTold, RustRecord, digest_text, key_of, parts_of, record_material, record_shape}

only_one : (x : Bytes) → Contains (x ∷ []) x
only_one x = (0, omega (arith), refl)

module _ (digest_of : Bytes → Bytes) (tells : (one other : Bytes) → hex_of (digest_of one) ≡ hex_of (digest_of other) → digest_of one ≡ digest_of other) where
  pub optional_told : (s t : Option Bytes) → ((x y : Bytes) → Contains (option_to_list s) x → Contains (option_to_list t) y → digest_of x ≡ digest_of y → x ≡ y) → option_map (digest_text digest_of) s ≡ option_map (digest_text digest_of) t → s ≡ t
  optional_told None None distinct h = refl
  optional_told None (Some y) distinct h = cc
  optional_told (Some x) None distinct h = cc
  optional_told (Some x) (Some y) distinct h =
      let same : digest_text digest_of x ≡ digest_text digest_of y = cc in
      ap Some (distinct x y (only_one x) (only_one y) (tells x y same))

  module _ (width : ℕ) (formed : (bytes : Bytes) → IsDigest width (hex_of (digest_of bytes))) where
    all_formed : (xs : List Bytes) → AllByRecursion (IsDigest width) (map (digest_text digest_of) xs)
    all_formed [] = tt
    all_formed (x ∷ xs) = (formed x, all_formed xs)

    optional_formed : (t : Option Bytes) → IfFits (IsDigest width) (option_map (digest_text digest_of) t)
    optional_formed None = tt
    optional_formed (Some x) = formed x

    has_digests : (r : RustRecord) → IsTold digest_of r → HasDigests width (parts_of digest_of r)
    has_digests r told = record {
      toolchain = told.toolchain;
      sources = all_formed r.sources;
      externs = all_formed r.externs;
      archives = told.archives;
      target = optional_formed r.target;
      profile = optional_formed r.profile;
    }

    module _ (parts_told : (one other : Parts) → HasDigests width one → HasDigests width other → FitsFrame (material_of one) → material_of one ≡ material_of other → shape_of one ≡ shape_of other → one ≡ other) where
      pub record_told : (a b : RustRecord) → IsTold digest_of a → IsTold digest_of b → AreDistinct digest_of a b → key_of digest_of a ≡ key_of digest_of b → record_shape digest_of a ≡ record_shape digest_of b → a ≡ b
      record_told a b p q distinct same shape =
          let material : record_material digest_of a ≡ record_material digest_of b = distinct _ _ (inl (inr (inr (inr (inr refl))))) (inr (inr (inr (inr (inr refl))))) (tells _ _ same) in
          let parts : parts_of digest_of a ≡ parts_of digest_of b = parts_told (parts_of digest_of a) (parts_of digest_of b) (has_digests a p) (has_digests b q) p.fits material shape in
          let sources : a.sources ≡ b.sources = contents_told digest_of tells a.sources b.sources (λ x y u v. distinct x y (inl (inl u)) (inr (inl v))) (ap (λ (h : Parts). h.sources) parts) in
          let externs : a.externs ≡ b.externs = contents_told digest_of tells a.externs b.externs (λ x y u v. distinct x y (inl (inr (inl u))) (inr (inr (inl v)))) (ap (λ (h : Parts). h.externs) parts) in
          let target : a.target ≡ b.target = optional_told a.target b.target (λ x y u v. distinct x y (inl (inr (inr (inl u)))) (inr (inr (inr (inl v))))) (ap (λ (h : Parts). h.target) parts) in
          let profile : a.profile ≡ b.profile = optional_told a.profile b.profile (λ x y u v. distinct x y (inl (inr (inr (inr (inl u))))) (inr (inr (inr (inr (inl v)))))) (ap (λ (h : Parts). h.profile) parts) in
          λ i. record {
            toolchain = ap (λ (h : Parts). h.toolchain) parts i;
            version = ap (λ (h : Parts). h.version) parts i;
            words = ap (λ (h : Parts). h.words) parts i;
            sources = sources i;
            externs = externs i;
            archives = ap (λ (h : Parts). h.archives) parts i;
            target = target i;
            profile = profile i;
            env_deps = ap (λ (h : Parts). h.env_deps) parts i;
            variables = ap (λ (h : Parts). h.variables) parts i;
            dir = ap (λ (h : Parts). h.dir) parts i;
          }
