-- What was parsed is what the items ask for.
use Rattle.std.proofs.Common.{◌≡◌, List, [], ◌∷◌, Option, None, Some, refl, ap, sym, ◌∙◌, map}
use Rattle.std.specs.Prelude.{unwrap_or}
use Rattle.std.specs.List.{AllZip}
use Rattle.base_files.specs.Bytes.{Bytes}
use Rattle.base_files.specs.Tree.{Tree}
use Rattle.cmdlines_base.specs.Pieces.{part_word, parts_as}
use Rattle.cmdlines_base.specs.Printing.{printed_as}
use Rattle.cmdlines_base.specs.Reading.{Item, raw, unknown, flag, valued, after_dashes}
use Rattle.cmdlines_base.specs.declared.argument.ArgDisposition.{ArgDisposition}
use Rattle.cmdlines_base.specs.declared.argument.ArgDisposition.TheVariants.{Separated, CanBeConcatenated, CanBeSeparated, Concatenated}
use Rattle.cmdlines_base.specs.declared.argument.Argument.{Argument}
use Rattle.cmdlines_base.specs.declared.argument.Argument.TheVariants as arguments
use Rattle.cmdlines_base.specs.declared.compiler_arguments.CompilerArguments.{CompilerArguments}
use Rattle.cmdlines_base.specs.declared.compiler_arguments.CompilerArguments.TheVariants as answers
use Rattle.rustc_options.specs.Data.{data_of, word_of}
use Rattle.rustc_options.specs.declared.data.ArgData.{ArgData}
use Rattle.rustc_options.specs.declared.kind.ArgKind.{ArgKind}
use Rattle.rustkeys_base.specs.Asks.{AsksFor, asks_of, said_of}
use Rattle.rustc_options.specs.Asks.{Said, asks_in, said_in}
use Rattle.rustkeys_base.specs.Requests.{IsArgument, IsAsked, wanted}
use Rattle.rustc_options.specs.declared.parsed.ParsedArguments.{ParsedArguments}

-- an option prints its flag and its value's word as it was
printed-parts : (f : Bytes) (value : ArgData) (d : ArgDisposition) → map (part_word word_of) (parts_as f value d) ≡ printed_as f (word_of value) d
printed-parts f value Separated = refl
printed-parts f value (CanBeConcatenated d) = refl
printed-parts f value (CanBeSeparated d) = refl
printed-parts f value (Concatenated d) = refl

said-is : (item : Item ArgKind) (argument : Argument ArgData) → IsArgument item argument → said_in argument ≡ said_of item
said-is (raw w) (arguments.Raw v) h = λ i. record { flag = None; words = h i ∷ [] }
said-is (raw w) (arguments.UnknownFlag v) h = absurd h
said-is (raw w) (arguments.Flag g t) h = absurd h
said-is (raw w) (arguments.WithValue g t e) h = absurd h
said-is (unknown w) (arguments.Raw v) h = absurd h
said-is (unknown w) (arguments.UnknownFlag v) h = λ i. record { flag = None; words = h i ∷ [] }
said-is (unknown w) (arguments.Flag g t) h = absurd h
said-is (unknown w) (arguments.WithValue g t e) h = absurd h
said-is (flag f k) (arguments.Raw v) h = absurd h
said-is (flag f k) (arguments.UnknownFlag v) h = absurd h
said-is (flag f k) (arguments.Flag g t) h = λ i. record { flag = Some (h.0 i); words = h.0 i ∷ [] }
said-is (flag f k) (arguments.WithValue g t e) h = absurd h
said-is (valued f k w d) (arguments.Raw v) h = absurd h
said-is (valued f k w d) (arguments.UnknownFlag v) h = absurd h
said-is (valued f k w d) (arguments.Flag g t) h = absurd h
said-is (valued f k w d) (arguments.WithValue g t e) h =
    let words : map (part_word word_of) (parts_as g.now t e) ≡ printed_as f (word_of (data_of k w)) d = printed-parts g.now t e ∙ (λ i. printed_as (h.0 i) (word_of (h.1.0 i)) (h.2 i)) in
    λ i. record { flag = Some (h.0 i); words = words i }
said-is (after_dashes w) (arguments.Raw v) h = λ i. record { flag = None; words = h i ∷ [] }
said-is (after_dashes w) (arguments.UnknownFlag v) h = absurd h
said-is (after_dashes w) (arguments.Flag g t) h = absurd h
said-is (after_dashes w) (arguments.WithValue g t e) h = absurd h

all-said : (items : List (Item ArgKind)) (found : List (Argument ArgData)) → AllZip IsArgument items found → map said_in found ≡ map said_of items
all-said [] [] h = refl
all-said [] (argument ∷ found) h = absurd h
all-said (item ∷ items) [] h = absurd h
all-said (item ∷ items) (argument ∷ found) h = let first = said-is item argument h.0 in let more = all-said items found h.1 in λ i. first i ∷ more i

or-nothing : (said : Option Bytes) (word : Bytes) → Some word ≡ said → word ≡ unwrap_or said []
or-nothing said word h = ap (λ (o : Option Bytes). unwrap_or o []) h

parsed-asks : (dir : Bytes) (tree : Tree) (items : List (Item ArgKind)) (p : ParsedArguments) → IsAsked dir tree items (answers.Ok p) → asks_in p ≡ asks_of dir tree items
parsed-asks dir tree items p h =
    let said = all-said (wanted items) p.arguments h.1 in
    let folder = or-nothing _ p.output_dir h.0.output_dir in
    let name = or-nothing _ p.crate_name h.0.crate_name in
    λ i. record {
      arguments = said i;
      output_dir = folder i;
      crate_name = name i;
      externs = h.0.externs i;
      staticlibs = h.0.staticlibs i;
      emit = h.0.emit i;
      target_json = h.0.target_json i;
      dep_info = h.0.dep_info i;
      profile = h.0.profile i;
      gcno = h.0.gcno i;
      profile_use = h.0.profile_use i;
      has_json = h.0.has_json i;
    }

pub asks-from : (dir : Bytes) (tree : Tree) (items : List (Item ArgKind)) (answer : CompilerArguments ParsedArguments) → IsAsked dir tree items answer → AsksFor (asks_of dir tree items) answer
asks-from dir tree items (answers.Ok p) h = parsed-asks dir tree items p h
asks-from dir tree items answers.NotCompilation h = tt
asks-from dir tree items (answers.CannotCache reason more) h = tt
