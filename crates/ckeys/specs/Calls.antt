-- A call of which a key is made: its record, and its first fault.
use Rattle.std.specs.Prelude.{Bool, true, false, ◌&&◌, if◌then◌else◌, List, [], ◌∷◌, ◌++◌, map, filter, Option, None, is_none}
use Rattle.std.specs.Option.{option_map}
use Rattle.base_files.specs.Bytes.{Bytes}
use Rattle.base_files.specs.Path.{join}
use Rattle.cmdlines.specs.Commands.{preprocess_words}
use Rattle.cmdlines.specs.Compilers.{Traits}
use Rattle.cmdlines_tables.specs.declared.parsed.ParsedArguments.{ParsedArguments}
use Rattle.cmdlines_tables.specs.declared.compiler.CCompilerKind.{CCompilerKind}
use Rattle.cmdlines_tables.specs.declared.language.Language.{Language}
use Rattle.cmdlines_tables.specs.declared.language.Language.TheVariants as languages
use Rattle.ckeys_base.specs.FolderPlaces.{text_places}
use Rattle.ckeys_base.specs.FromTheLeft.{stripped_of}
use Rattle.ckeys_include_records.specs.Surroundings.{contents_in}
use Rattle.ckeys_records.specs.Faults.{first_missing, or_else, preprocess_fault_of, read_fault_of}
use Rattle.ckeys_records.specs.Folders.{Settings}
use Rattle.ckeys_records.specs.Meaning.{Scene, Made, Meaning, asked_of, text_in}
use Rattle.ckeys_records.specs.Records.{CRecord}
use Rattle.ckeys_records.specs.Params.{is_cached, stripped_words}
use Rattle.ckeys_records.specs.declared.fault.Fault.{Fault}
use Rattle.ckeys_records.specs.declared.fault.Fault.TheVariants.{Read}
use Rattle.ckeys_records.specs.declared.step.Step.TheVariants.{Preprocess}

-- the compiler's kind, what is known of it and its digest, what its words ask for, where and when its commands run, and what the configuration fixes
pub record KeyCall : Type 0 where
  pub kind : CCompilerKind
  pub traits : Traits
  pub compiler_digest : Bytes
  pub parsed : ParsedArguments
  pub scene : Scene
  pub settings : Settings

-- whether an input in this language goes through the preprocessor
abbrev pub needs_preprocessing : Language → Bool
needs_preprocessing languages.C = true
needs_preprocessing languages.Cxx = true
needs_preprocessing languages.AssemblerToPreprocess = true
needs_preprocessing languages.CPreprocessed = false
needs_preprocessing languages.CxxPreprocessed = false
needs_preprocessing languages.Assembler = false
needs_preprocessing languages.Rust = false

-- Names in a request are read from its directory.
abbrev pub input_path : KeyCall → Bytes
input_path c = join c.scene.dir c.parsed.input

abbrev pub extra_paths : KeyCall → List Bytes
extra_paths c = map (join c.scene.dir) c.parsed.extra_hash_files

-- what the preprocessor gives for what the compiler's tables read of its command
abbrev pub printed_of : Meaning → KeyCall → Made
printed_of meaning c = meaning Preprocess (asked_of c.kind (preprocess_words c.kind c.parsed)) [] c.scene

-- a call with what its preprocessor prints: all that its key depends on, as plain values
pub record PrintedCall : Type 0 where
  pub call : KeyCall
  pub printed : Made

abbrev pub printed_call : Meaning → KeyCall → PrintedCall
printed_call meaning c = record { call = c; printed = printed_of meaning c }

-- The text of a call: what the preprocessor prints, or the input's bytes where its language isn't preprocessed.
abbrev pub text_by : PrintedCall → Bytes
text_by p = if needs_preprocessing p.call.parsed.language then text_in p.printed.contents else contents_in p.call.scene.files (input_path p.call)

abbrev pub text_of : Meaning → KeyCall → Bytes
text_of meaning c = text_by (printed_call meaning c)

-- the record of a call whose text is this
abbrev pub record_with : KeyCall → Bytes → CRecord
record_with c text = record {
  compiler_digest = c.compiler_digest;
  plusplus = c.traits.plusplus;
  language = c.parsed.language;
  words = stripped_words c.settings.basedirs (c.parsed.common_args ++ c.parsed.arch_args);
  variables = filter is_cached c.scene.env;
  extra_contents = map (contents_in c.scene.files) (extra_paths c);
  assembler_digest = c.traits.assembler_digest;
  text = stripped_of text_places c.settings.basedirs text;
}

-- the record of a call
abbrev pub record_by : PrintedCall → CRecord
record_by p = record_with p.call (text_by p)

abbrev pub record_of : Meaning → KeyCall → CRecord
record_of meaning c = record_by (printed_call meaning c)

abbrev pub text_fault_by : PrintedCall → Option Fault
text_fault_by p = if needs_preprocessing p.call.parsed.language then preprocess_fault_of p.printed else read_fault_of p.call.scene.files (input_path p.call ∷ [])

abbrev pub text_fault_of : Meaning → KeyCall → Option Fault
text_fault_of meaning c = text_fault_by (printed_call meaning c)

-- whether include records are asked for: they are kept, the language is preprocessed, and no option prevents it
abbrev pub asks_records : KeyCall → Bool
asks_records c = c.settings.direct && (needs_preprocessing c.parsed.language && is_none c.parsed.too_hard_for_preprocessor_cache_mode)

-- the input, where it is needed for an include record and isn't there
abbrev pub missing_input : KeyCall → Option Bytes
missing_input c = if asks_records c then first_missing c.scene.files (input_path c ∷ []) else None

-- the first fault before there is a text: an extra file that isn't there, then the input where an include record is asked for
abbrev pub early_fault_of : KeyCall → Option Fault
early_fault_of c = or_else (read_fault_of c.scene.files (extra_paths c)) (option_map Read (missing_input c))

-- The first fault in the order of the steps, without out of memory and I/O errors: an extra file that isn't there, then the input where an include record is asked for, and then the text's.
abbrev pub key_fault_by : PrintedCall → Option Fault
key_fault_by p = or_else (read_fault_of p.call.scene.files (extra_paths p.call)) (or_else (option_map Read (missing_input p.call)) (text_fault_by p))

abbrev pub key_fault_of : Meaning → KeyCall → Option Fault
key_fault_of meaning c = key_fault_by (printed_call meaning c)
