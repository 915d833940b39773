-- The arguments of a C compiler, as items.
use Rattle.std.specs.Prelude.{◌≡◌, Bool, true, false, [], Option, None}
use Rattle.base_files.specs.Bytes.{Bytes}
use Rattle.cmdlines_base.specs.Reading.{Item, raw, unknown, flag, valued, after_dashes}
use Rattle.cmdlines_base.specs.Refusal.{Refusal}
use Rattle.cmdlines_base.specs.declared.argument.Argument.{Argument}
use Rattle.cmdlines_base.specs.declared.argument.Argument.TheVariants as arguments
use Rattle.cmdlines_tables.specs.declared.kind.ArgKind.{ArgKind}
use Rattle.cmdlines_tables.specs.declared.value.ArgData.{ArgData}
use Rattle.cmdlines_tables.specs.declared.value.ArgData.TheVariants as values

abbrev pub kind_in : ArgData → ArgKind
kind_in (values.Flag k) = k
kind_in (values.Value k word) = k

abbrev pub word_in : ArgData → Bytes
word_in (values.Flag k) = []
word_in (values.Value k word) = word

-- what a flag and an option with a word are; no word is refused
abbrev pub IsFlag : ArgKind → ArgData → Type 0
IsFlag kind value = value ≡ values.Flag kind

abbrev pub IsValue : ArgKind → Bytes → ArgData → Type 0
IsValue kind word value = value ≡ values.Value kind word

abbrev pub never : ArgKind → Bytes → Option Refusal
never kind word = None

-- an argument, without where its flag lies in memory, and where it is: after double dashes that end the options, or not
abbrev pub placed : Bool → Argument ArgData → Item ArgKind
placed true (arguments.Raw w) = after_dashes w
placed false (arguments.Raw w) = raw w
placed _ (arguments.UnknownFlag w) = unknown w
placed _ (arguments.Flag f value) = flag f.now (kind_in value)
placed _ (arguments.WithValue f value d) = valued f.now (kind_in value) (word_in value) d
