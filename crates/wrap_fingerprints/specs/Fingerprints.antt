-- The fingerprint of a call: its record's parts, with digests for files' contents, and the names of its outputs.
use Rattle.std.specs.Prelude.{◌≡◌, List}
use Rattle.base_files.specs.Bytes.{Bytes}
use Rattle.ckeys_records.specs.Meaning.{names_of}
use Rattle.ckeys_records.specs.Records.{CRecord, parts_of}
use Rattle.ckeys_records.specs.declared.output_name.OutputName.{OutputName}
use Rattle.rustkeys.specs.Records as rustc
use Rattle.wrap_keys.specs.Account.{Work}
use Rattle.wrap_keys.specs.CallRecords.{CallRecord, IsTold, of_c, of_rustc}
use Rattle.wrap_keys.specs.StoreKeys.{HasRecord}
use Rattle.wrap_fingerprints.specs.declared.c_parts.CParts.{CParts}
use Rattle.wrap_fingerprints.specs.declared.fingerprint.Fingerprint.{Fingerprint}
use Rattle.wrap_fingerprints.specs.declared.fingerprint.Fingerprint.TheVariants.{C, Rustc}

-- the parts of a C record, under a digest
abbrev pub c_parts_of : (Bytes → Bytes) → CRecord → List OutputName → CParts
c_parts_of digest_of r names =
    let parts = parts_of digest_of r in
    record {
      compiler = parts.compiler_digest;
      plusplus = parts.plusplus;
      language = parts.language;
      words = parts.words;
      variables = parts.variables;
      extra_hashes = parts.extra_hashes;
      assembler = parts.assembler_digest;
      text = parts.text;
      names = names;
    }

abbrev pub fingerprint_by : (Bytes → Bytes) → CallRecord → List OutputName → Fingerprint
fingerprint_by digest_of (of_c r) names = C (c_parts_of digest_of r names)
fingerprint_by digest_of (of_rustc r) names = Rustc (rustc.parts_of digest_of r) names

-- the fingerprint of a call
abbrev pub fingerprint_of : (Bytes → Bytes) → Work → Fingerprint
fingerprint_of digest_of w = fingerprint_by digest_of w.rec (names_of w.outputs)

-- A fingerprint is the call's, which has no fault before the store is asked; and its record is determined by its key.
pub record IsFingerprintOf (digest_of : Bytes → Bytes) (w : Work) (made : Fingerprint) : Type 0 where
  pub is : made ≡ fingerprint_of digest_of w
  pub fine : HasRecord w
  pub told : IsTold digest_of w.rec
