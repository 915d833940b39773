-- The call that a key is made of.
use Rattle.std.specs.Prelude.{ℤ}
use Rattle.std.specs.Option.{option_copied}
use Rattle.base_files.specs.Bytes.{Bytes}
use Rattle.base_files.specs.Tree.{Tree}
use Rattle.ckeys_records.specs.Meaning.{Variables, scene_with}
use Rattle.rustc_compiler.specs.Compiler.{Rustc}
use Rattle.rustc_options.specs.Asks.{asks_in}
use Rattle.rustkeys.specs.Calls.{RustCall, RustKnown}
use Rattle.rustkeys.specs.Questions.{question_of}
use Rattle.rustkeys.specs.declared.hasher.RustHasher.{RustHasher}
use Rattle.rustkeys.specs.declared.place.KnownRust.{KnownRust}
use Rattle.rustkeys.specs.declared.place.RustPlace.{RustPlace}

-- what is known of a compiler that counts
abbrev pub known_of : Rustc → RustKnown
known_of rust = record { toolchain = rust.toolchain; version = rust.version; archive = rust.archive }

-- the same, as it is lent
abbrev pub known_in : KnownRust → RustKnown
known_in known = record { toolchain = known.toolchain.now; version = known.version.now; archive = option_copied known.archive }

-- the call of a request at its place, on these files, at that moment
abbrev pub call_at : KnownRust → RustPlace → Tree → ℤ → RustCall
call_at known place files moment = record { known = known_in known; question = question_of place files moment }

-- what the hasher's compiler is and its request asks for, in that directory, under these variables, on these files, at that moment
abbrev pub call_of : RustHasher → Bytes → Variables → Tree → ℤ → RustCall
call_of hasher dir env files moment = record {
  known = known_of hasher.compiler.now;
  question = record {
    asks = asks_in hasher.parsed.now;
    scene = scene_with hasher.compiler.now.executable dir env files moment;
  };
}
