-- A run over include records that meets the premises: one call at two moments, whose preprocessor names a header.
use Rattle.std.specs.Prelude.{ℤ, pos, true, false, List, [], ◌∷◌, ◌++◌, None, Some, codes, get_or}
use Rattle.std.specs.List.{repeat}
use Rattle.base_files.specs.Bytes.{Bytes}
use Rattle.base_files.specs.Tree.{Node, Tree}
use Rattle.base_files.specs.declared.files.Metadata.{Metadata}
use Rattle.cmdlines_tables.specs.declared.parsed.ParsedArguments.{ParsedArguments}
use Rattle.cmdlines_tables.specs.declared.compiler.CCompilerKind.TheVariants.{Gcc}
use Rattle.cmdlines_base.specs.declared.color_mode.ColorMode.TheVariants.{Auto}
use Rattle.cmdlines_tables.specs.declared.language.Language.TheVariants.{C}
use Rattle.ckeys_base.specs.Hex.{hex_of}
use Rattle.ckeys_time_macros.specs.Days.{ZoneRule}
use Rattle.ckeys_include_records.specs.Records.{Record, record_of, result_with}
use Rattle.ckeys_include_records.specs.declared.entry.IncludeEntry.{IncludeEntry}
use Rattle.ckeys.specs.Calls.{KeyCall, PrintedCall, printed_call, record_by}
use Rattle.ckeys_records.specs.Folders.{settings_with}
use Rattle.ckeys_records.specs.Keys.{key_of}
use Rattle.ckeys_records.specs.Meaning.{Meaning, made_of, scene_with}
use Rattle.ckeys_records.specs.declared.step.Step.TheVariants.{Preprocess}
use Rattle.wrap_keys.specs.Account.{Account, Work, work_at, worked}

-- Each digest has 32 bytes, which determine the first byte.
abbrev pub first_byte_digest : Bytes → Bytes
first_byte_digest bytes = repeat 32 (get_or bytes 0 0 ∷ [])

abbrev pub source : Bytes
source = codes "int x;"

abbrev pub header : Bytes
header = codes "A"

-- a marker of the header, and its line: 34 is '"', and 10 ends a line
abbrev pub printed_text : Bytes
printed_text = codes "# 1 " ++ 34 ∷ codes "h.h" ++ 34 ∷ 10 ∷ header

-- a compiler that prints this whatever it is asked, and makes this object
abbrev pub one_meaning : Meaning
one_meaning Preprocess asked outputs scene = made_of (pos 0) (Some printed_text ∷ [])
one_meaning _ asked outputs scene = made_of (pos 0) (Some (codes "object") ∷ [])

abbrev pub asked_words : ParsedArguments
asked_words = record {
  input = codes "m.c";
  double_dash_input = false;
  language = C;
  outputs = (codes "obj", record { path = codes "m.o"; optional = false }) ∷ [];
  preprocessor_args = [];
  dependency_args = [];
  unhashed_args = [];
  common_args = [];
  arch_args = [];
  extra_hash_files = [];
  color_mode = Auto;
  too_hard_for_preprocessor_cache_mode = None;
  empty_value = false;
  has_color_option = false;
  dependencies = record { asked = false; path = false; target = false };
}

module _ (about : Metadata) (zone : ZoneRule) where
  abbrev pub file_with : Bytes → Bytes → Node
  file_with name contents = record { contents = Some contents; canonical = name; metadata = about }

  abbrev pub two_files : Tree
  two_files = (codes "/w/m.c", file_with (codes "/w/m.c") source) ∷ (codes "/w/h.h", file_with (codes "/w/h.h") header) ∷ []

  -- the call at a moment
  abbrev pub call_on : ℤ → KeyCall
  call_on moment = record {
    kind = Gcc;
    traits = record { plusplus = false; version = None; assembler_digest = None };
    compiler_digest = codes "d";
    parsed = asked_words;
    scene = scene_with (codes "gcc") (codes "/w") [] two_files moment;
    settings = settings_with [] zone true;
  }

  abbrev pub printed_on : ℤ → PrintedCall
  printed_on moment = printed_call one_meaning (call_on moment)

  abbrev pub work_on : ℤ → Work
  work_on moment = work_at one_meaning (call_on moment)

  -- two calls of a run
  abbrev pub two_moments : ℤ → ℤ → List Account
  two_moments one other = worked (work_on one) ∷ worked (work_on other) ∷ []

  -- what is recorded of the header
  abbrev pub header_include : IncludeEntry
  header_include = record { path = codes "h.h"; size = 1; digest = hex_of (first_byte_digest header); day = None; second = None }

  -- the key of the call's text
  abbrev pub text_key_on : ℤ → Bytes
  text_key_on moment = key_of first_byte_digest (record_by (printed_on moment))

  -- the record with the result of that call alone
  abbrev pub record_on : ℤ → Record
  record_on moment = record_of (result_with (text_key_on moment) (header_include ∷ []) ∷ [])
