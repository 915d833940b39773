-- The call that a key is made of.
use Rattle.std.specs.Prelude.{◌≡◌, ℤ, List}
use Rattle.base_files.specs.Bytes.{Bytes}
use Rattle.base_files.specs.Tree.{Tree}
use Rattle.cmdlines.specs.Compilers.{Traits}
use Rattle.cmdlines_tables.specs.declared.compiler.CCompilerKind.{CCompilerKind}
use Rattle.ckeys_records.specs.Meaning.{Variables, scene_with}
use Rattle.ckeys_include_records.specs.Surroundings.{Place, place_with}
use Rattle.ckeys_time_macros.specs.Days.{local_day}
use Rattle.ckeys.specs.Calls.{KeyCall}
use Rattle.ckeys.specs.Entries.{extra_digests}
use Rattle.ckeys_records.specs.Folders.{Settings}
use Rattle.ckeys_records.specs.Params.{Handed}
use Rattle.ckeys.specs.declared.hasher.CCompilerHasher.{CCompilerHasher}
use Rattle.ckeys.specs.declared.place.CallPlace.{CallPlace}

-- what the hasher's compiler is and its request asks for, in that directory, under these variables, at that moment, under this configuration, on these files
abbrev pub call_of : {I : Type 0} → (I → CCompilerKind) → (I → Traits) → CCompilerHasher I → Bytes → Variables → ℤ → Settings → Tree → KeyCall
call_of kind_of traits hasher dir env moment settings files = record {
  kind = kind_of hasher.compiler.now;
  traits = traits hasher.compiler.now;
  compiler_digest = hasher.executable_digest.now;
  parsed = hasher.parsed.now;
  scene = scene_with hasher.executable.now dir env files moment;
  settings = settings;
}

-- what is handed in for its key: these variables, the folders that don't count, these digests of extra files, and this text
abbrev pub handed_by : {I : Type 0} → (I → Traits) → CCompilerHasher I → Variables → List Bytes → List Bytes → Bytes → Handed
handed_by traits hasher env folders extra text = record {
  compiler_digest = hasher.executable_digest.now;
  language = hasher.parsed.now.language;
  arguments = hasher.parsed.now.common_args;
  arch_args = hasher.parsed.now.arch_args;
  preprocessor_output = text;
  extra_hashes = extra;
  env_vars = env;
  plusplus = (traits hasher.compiler.now).plusplus;
  basedirs = folders;
  assembler_digest = (traits hasher.compiler.now).assembler_digest;
}

-- the same at a place
abbrev pub call_by : {I : Type 0} → (I → CCompilerKind) → (I → Traits) → CCompilerHasher I → CallPlace → Tree → KeyCall
call_by kind_of traits hasher place files = call_of kind_of traits hasher place.dir.now place.env.now place.moment place.config.now files

-- whatever is handed in as digests of extra files is that of the call's
abbrev pub AreExtra : (Bytes → Bytes) → KeyCall → List Bytes → Type 0
AreExtra digest_of c extra = extra ≡ extra_digests digest_of c

-- where names are looked up
abbrev pub looked_at : CallPlace → Tree → Place
looked_at place files = place_with place.dir.now files (local_day place.config.now.zone place.moment)
