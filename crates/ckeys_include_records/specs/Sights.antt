-- What the preprocessor would be given, and the input that it would read first.
use Rattle.std.specs.Prelude.{ℤ, Bool, not, ◌||◌, if◌then◌else◌, List, [], ◌∷◌, ◌++◌, Option, None, Some, IfSome, codes}
use Rattle.std.specs.Fmt.{signed_decimal}
use Rattle.std.specs.Option.{option_to_list}
use Rattle.base_files.specs.Bytes.{Bytes}
use Rattle.base_files.specs.Path.{join}
use Rattle.cmdlines_tables.specs.Languages.{name_of}
use Rattle.cmdlines_tables.specs.declared.language.Language.{Language}
use Rattle.ckeys_base.specs.Hex.{hex_of}
use Rattle.base_formats.specs.Spelling.{FitsWord, framed_all}
use Rattle.ckeys_time_macros.specs.Macros.{holds_time}
use Rattle.ckeys_include_records.specs.Surroundings.{dated, lacks_day, stamped}
use Rattle.ckeys_include_records.specs.Framing.{FitFrames, Pairs, flag, pair_parts}
use Rattle.ckeys_include_records.specs.Identity.{Identity}
use Rattle.ckeys_include_records.specs.declared.sights.SeenInput.{SeenInput}

-- an input's contents, the day of the call where the calendar has it, and the second in which the input was last changed
pub record Seen : Type 0 where
  pub contents : Bytes
  pub day : Option ℤ
  pub second : ℤ

abbrev pub seen_by : SeenInput → Seen
seen_by input = record { contents = input.contents.now; day = input.day; second = input.second }

-- the day, where the contents ask for one, and the second, where they ask for that
abbrev pub day_of : Seen → Option ℤ
day_of seen = dated seen.contents seen.day

abbrev pub second_of : Seen → Option ℤ
second_of seen = stamped seen.contents seen.second

-- whether an input has a preprocessor key: it doesn't ask for the time, and a day that it asks for exists
abbrev pub can_be_told : Seen → Bool
can_be_told seen = not (holds_time seen.contents || lacks_day seen.contents seen.day)

-- what the preprocessor would be given, as plain values
pub record Sights : Type 0 where
  pub compiler_digest : Bytes
  pub plusplus : Bool
  pub language : Language
  pub words : List Bytes
  pub extra : List Bytes
  pub assembler_digest : Option Bytes
  pub env : Pairs
  pub path : Bytes
  pub input : Bytes
  pub day : Option ℤ
  pub second : Option ℤ

-- of who asks, with these digests of extra files, over this input
abbrev pub sights_of : (Bytes → Bytes) → Identity → List Bytes → Seen → Sights
sights_of digest_of i extra seen = record {
  compiler_digest = i.compiler_digest;
  plusplus = i.plusplus;
  language = i.language;
  words = i.preprocessor_args ++ (i.common_args ++ i.arch_args);
  extra = extra;
  assembler_digest = i.assembler_digest;
  env = i.env;
  path = join i.dir i.input;
  input = hex_of (digest_of seen.contents);
  day = day_of seen;
  second = second_of seen;
}

-- 68 is 'D', and 84 is 'T'
abbrev pub day_part : Option ℤ → Bytes
day_part None = []
day_part (Some day) = 68 ∷ signed_decimal day

abbrev pub second_part : Option ℤ → Bytes
second_part None = []
second_part (Some second) = 84 ∷ signed_decimal second

-- the parts that are hashed of it, in order
abbrev pub sight_parts : Sights → List Bytes
sight_parts s =
    codes "p1"
    ∷ s.compiler_digest
    ∷ flag s.plusplus
    ∷ name_of s.language
    ∷ framed_all s.words
    ∷ framed_all s.extra
    ∷ framed_all (option_to_list s.assembler_digest)
    ∷ framed_all (pair_parts s.env)
    ∷ s.path
    ∷ s.input
    ∷ day_part s.day
    ∷ second_part s.second
    ∷ []

abbrev pub sight_material : Sights → Bytes
sight_material s = framed_all (sight_parts s)

-- each length that is written fits eight bytes, and so do day and second, with a sign
pub record SightsFit (s : Sights) : Type 0 where
  pub parts : FitFrames (sight_parts s)
  pub words : FitFrames s.words
  pub extra : FitFrames s.extra
  pub assembler_digest : FitFrames (option_to_list s.assembler_digest)
  pub env : FitFrames (pair_parts s.env)
  pub day : IfSome s.day FitsWord
  pub second : IfSome s.second FitsWord

-- the preprocessor key of who asks, with these digests of extra files, over this input, if it has one
abbrev pub preprocessor_key_of : (Bytes → Bytes) → Identity → List Bytes → Seen → Option Bytes
preprocessor_key_of digest_of i extra seen =
    if can_be_told seen
    then Some (hex_of (digest_of (sight_material (sights_of digest_of i extra seen))))
    else None
