-- The digest that represents a compiler.
use Rattle.std.specs.Prelude.{◌≡◌, ◌++◌, [], ◌∷◌, Option, Some, None}
use Rattle.base_files.specs.Bytes.{Bytes}
use Rattle.base_files.specs.Tree.{Tree}
use Rattle.ckeys_base.specs.Hex.{hex_of}
use Rattle.ckeys_records.specs.Faults.{FileCause, first_missing}
use Rattle.ckeys_records.specs.declared.fault.Fault.{Fault}

-- the text of a digest, or that of the digest of this text followed by a version
abbrev pub with_version : (Bytes → Bytes) → Option Bytes → Bytes → Bytes
with_version digest_of None text = text
with_version digest_of (Some version) text = hex_of (digest_of (text ++ version))

-- the digest of a compiler with that version, whose executable has these contents
abbrev pub compiler_digest_of : (Bytes → Bytes) → Option Bytes → Bytes → Bytes
compiler_digest_of digest_of version contents = with_version digest_of version (hex_of (digest_of contents))

-- Why there is no compiler: out of memory; or its executable isn't there, or an I/O error occurred on it.
abbrev pub ExecutableCause : Tree → Bytes → (Bytes → Type 0) → Fault → Type 0
ExecutableCause tree executable on_file fault = FileCause (first_missing tree (executable ∷ [])) (λ name. (name ≡ executable) × on_file name) fault
