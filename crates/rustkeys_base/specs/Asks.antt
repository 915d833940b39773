-- What the words of a request to rustc ask for, as plain values.
use Rattle.std.specs.Prelude.{◌≡◌, Bool, List, [], ◌∷◌, Option, None, Some, map, unwrap_or}
use Rattle.base_files.specs.Bytes.{Bytes}
use Rattle.base_files.specs.Path.{path_cmp}
use Rattle.base_files.specs.Tree.{Tree}
use Rattle.cmdlines_base.specs.Printing.{printed_as}
use Rattle.cmdlines_base.specs.Reading.{Item, raw, unknown, flag, valued, after_dashes}
use Rattle.cmdlines_base.specs.declared.compiler_arguments.CompilerArguments.{CompilerArguments}
use Rattle.cmdlines_base.specs.declared.compiler_arguments.CompilerArguments.TheVariants as answers
use Rattle.rustc_options.specs.Data.{data_of, word_of}
use Rattle.rustc_options.specs.Sets.{in_order}
use Rattle.rustc_options.specs.declared.kind.ArgKind.{ArgKind}
use Rattle.rustc_options.specs.Asks.{RustAsks, Said, asks_in}
use Rattle.rustkeys_base.specs.Facts.{facts_of}
use Rattle.rustkeys_base.specs.Requests.{dep_info, gcno, profile, static_libraries, wanted}
use Rattle.rustkeys_base.specs.Saying.{token_of}
use Rattle.rustc_options.specs.Sorted.{sorted_by}
use Rattle.rustkeys_base.specs.Parsing.{emitted}
use Rattle.rustkeys_base.specs.declared.facts.Facts.{Facts}
use Rattle.rustc_options.specs.declared.parsed.ParsedArguments.{ParsedArguments}

-- of what was read of the words
abbrev pub said_of : Item ArgKind → Said
said_of (raw w) = record { flag = None; words = w ∷ [] }
said_of (unknown w) = record { flag = None; words = w ∷ [] }
said_of (flag f k) = record { flag = Some f; words = f ∷ [] }
said_of (valued f k w d) = record { flag = Some f; words = printed_as f (word_of (data_of k w)) d }
said_of (after_dashes w) = record { flag = None; words = w ∷ [] }

-- What items ask for that say all that a request needs, from this directory, with these files; externs are in the order of paths.
abbrev pub asks_by : Bytes → Tree → List (Item ArgKind) → Facts → RustAsks
asks_by dir tree items f = record {
  arguments = map said_of (wanted items);
  output_dir = unwrap_or f.output_dir [];
  crate_name = unwrap_or f.crate_name [];
  externs = sorted_by path_cmp f.externs;
  staticlibs = static_libraries dir tree f;
  emit = in_order (emitted f);
  target_json = f.target_json;
  dep_info = dep_info f;
  profile = profile f;
  gcno = gcno f;
  profile_use = f.profile_use;
  has_json = f.has_json;
}

abbrev pub asks_of : Bytes → Tree → List (Item ArgKind) → RustAsks
asks_of dir tree items = asks_by dir tree items (facts_of (map token_of items))

-- an answer that asks for something asks for this
abbrev pub AsksFor : RustAsks → CompilerArguments ParsedArguments → Type 0
AsksFor asks (answers.Ok parsed) = asks_in parsed ≡ asks
AsksFor asks answers.NotCompilation = Unit {0}
AsksFor asks (answers.CannotCache reason more) = Unit {0}
