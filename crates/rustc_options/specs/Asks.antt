-- A request to rustc as plain values: what its words ask for, without where flags lie in memory.
use Rattle.std.specs.Prelude.{Bool, List, Option, map}
use Rattle.base_files.specs.Bytes.{Bytes}
use Rattle.cmdlines_base.specs.Pieces.{argument_words, flag_in}
use Rattle.cmdlines_base.specs.declared.argument.Argument.{Argument}
use Rattle.rustc_options.specs.Data.{word_of}
use Rattle.rustc_options.specs.declared.data.ArgData.{ArgData}
use Rattle.rustc_options.specs.declared.parsed.ParsedArguments.{ParsedArguments}

-- an argument as it's printed: its flag, where it's an option, and its words
pub record Said : Type 0 where
  pub flag : Option Bytes
  pub words : List Bytes

abbrev pub said_in : Argument ArgData → Said
said_in argument = record { flag = flag_in argument; words = argument_words word_of argument }

pub record RustAsks : Type 0 where
  pub arguments : List Said
  pub output_dir : Bytes
  pub crate_name : Bytes
  pub externs : List Bytes
  pub staticlibs : List Bytes
  pub emit : List Bytes
  pub target_json : Option Bytes
  pub dep_info : Option Bytes
  pub profile : Option Bytes
  pub gcno : Option Bytes
  pub profile_use : Option Bytes
  pub has_json : Bool

abbrev pub asks_in : ParsedArguments → RustAsks
asks_in p = record {
  arguments = map said_in p.arguments;
  output_dir = p.output_dir;
  crate_name = p.crate_name;
  externs = p.externs;
  staticlibs = p.staticlibs;
  emit = p.emit;
  target_json = p.target_json;
  dep_info = p.dep_info;
  profile = p.profile;
  gcno = p.gcno;
  profile_use = p.profile_use;
  has_json = p.has_json;
}
