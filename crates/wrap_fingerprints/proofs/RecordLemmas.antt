-- Fingerprints determine records where digests are distinct.
use Rattle.std.proofs.Common.{◌≡◌, ◌↔◌, inl, inr, List, ap}
use Rattle.base_files.specs.Bytes.{Bytes}
use Rattle.ckeys_base.specs.Hex.{hex_of}
use Rattle.ckeys_records.specs.Meaning.{names_of}
use Rattle.ckeys_records.specs.Records.{CRecord}
use Rattle.ckeys_records.specs.Keys as c
use Rattle.ckeys_records.specs.declared.output_name.OutputName.{OutputName}
use Rattle.ckeys_records.proofs.KeyLemmas.{contents_told}
use Rattle.rustc_parts.specs.declared.parts.Parts.{Parts}
use Rattle.rustkeys.specs.Records as rustc
use Rattle.rustkeys.specs.Records.{RustRecord}
use Rattle.rustkeys.proofs.KeyLemmas.{optional_told}
use Rattle.wrap_keys.specs.Account.{Work}
use Rattle.wrap_keys.specs.CallRecords.{AreDistinct, CallRecord, of_c, of_rustc}
use Rattle.wrap_keys.specs.StoreKeys.{SameRecord}
use Rattle.wrap_fingerprints.specs.Fingerprints.{c_parts_of, fingerprint_by, fingerprint_of}
use Rattle.wrap_fingerprints.specs.declared.c_parts.CParts.{CParts}
use Rattle.wrap_fingerprints.specs.declared.fingerprint.Fingerprint.TheVariants.{C, Rustc}

module _ (digest_of : Bytes → Bytes) (tells : (one other : Bytes) → hex_of (digest_of one) ≡ hex_of (digest_of other) → digest_of one ≡ digest_of other) where
  c_told : (a b : CRecord) (names others : List OutputName) → c.AreDistinct digest_of a b → c_parts_of digest_of a names ≡ c_parts_of digest_of b others → (a ≡ b) × (names ≡ others)
  c_told a b names others distinct parts =
      let contents : a.extra_contents ≡ b.extra_contents = contents_told digest_of tells a.extra_contents b.extra_contents (λ x y u v. distinct x y (inl (inl u)) (inr (inl v))) (ap (λ (p : CParts). p.extra_hashes) parts) in (
        (λ i. record {
          compiler_digest = (parts i).compiler;
          plusplus = (parts i).plusplus;
          language = (parts i).language;
          words = (parts i).words;
          variables = (parts i).variables;
          extra_contents = contents i;
          assembler_digest = (parts i).assembler;
          text = (parts i).text;
        }),
        ap (λ (p : CParts). p.names) parts,
      )

  rustc_told : (a b : RustRecord) → rustc.AreDistinct digest_of a b → rustc.parts_of digest_of a ≡ rustc.parts_of digest_of b → a ≡ b
  rustc_told a b distinct parts =
      let sources : a.sources ≡ b.sources = contents_told digest_of tells a.sources b.sources (λ x y u v. distinct x y (inl (inl u)) (inr (inl v))) (ap (λ (h : Parts). h.sources) parts) in
      let externs : a.externs ≡ b.externs = contents_told digest_of tells a.externs b.externs (λ x y u v. distinct x y (inl (inr (inl u))) (inr (inr (inl v)))) (ap (λ (h : Parts). h.externs) parts) in
      let target : a.target ≡ b.target = optional_told digest_of tells a.target b.target (λ x y u v. distinct x y (inl (inr (inr (inl u)))) (inr (inr (inr (inl v))))) (ap (λ (h : Parts). h.target) parts) in
      let profile : a.profile ≡ b.profile = optional_told digest_of tells a.profile b.profile (λ x y u v. distinct x y (inl (inr (inr (inr (inl u))))) (inr (inr (inr (inr (inl v)))))) (ap (λ (h : Parts). h.profile) parts) in
      λ i. record {
        toolchain = (parts i).toolchain;
        version = (parts i).version;
        words = (parts i).words;
        sources = sources i;
        externs = externs i;
        archives = (parts i).archives;
        target = target i;
        profile = profile i;
        env_deps = (parts i).env_deps;
        variables = (parts i).variables;
        dir = (parts i).dir;
      }

  told : (a b : CallRecord) (names others : List OutputName) → AreDistinct digest_of a b → fingerprint_by digest_of a names ≡ fingerprint_by digest_of b others → (a ≡ b) × (names ≡ others)
  told (of_c a) (of_c b) names others distinct h =
      let alike : C (c_parts_of digest_of a names) ≡ C (c_parts_of digest_of b others) = h in
      let made = c_told a b names others distinct cc in
      (ap of_c made.0, made.1)
  told (of_c a) (of_rustc b) names others distinct h =
      let alike : C (c_parts_of digest_of a names) ≡ Rustc (rustc.parts_of digest_of b) others = h in absurd cc
  told (of_rustc a) (of_c b) names others distinct h =
      let alike : Rustc (rustc.parts_of digest_of a) names ≡ C (c_parts_of digest_of b others) = h in absurd cc
  told (of_rustc a) (of_rustc b) names others distinct h =
      let alike : Rustc (rustc.parts_of digest_of a) names ≡ Rustc (rustc.parts_of digest_of b) others = h in
      (ap of_rustc (rustc_told a b distinct cc), cc)

  pub tell : (one other : Work) → AreDistinct digest_of one.rec other.rec → (fingerprint_of digest_of one ≡ fingerprint_of digest_of other) ↔ SameRecord one other
  tell one other distinct = (
    (λ same. let both = told one.rec other.rec (names_of one.outputs) (names_of other.outputs) distinct same in record { parts = both.0; names = both.1 }),
    (λ same i. fingerprint_by digest_of (same.parts i) (same.names i)),
  )
