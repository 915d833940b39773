-- What a command compiles, item by item.
use Rattle.std.proofs.Common.{◌≡◌, Bool, List, ◌++◌, Option, None, Some, Ok, if◌then◌else◌, ap, append_assoc}
use Rattle.std.specs.List.{flat_map}
use Rattle.base_files.specs.Bytes.{Bytes}
use Rattle.cmdlines_base.specs.Cutting.{Place, is_seen, reading_at}
use Rattle.cmdlines_base.specs.Reading.{Item, is_after, Reading}
use Rattle.cmdlines_base.specs.Table.{Entry}
use Rattle.cmdlines_base.specs.Values.{values_by, IsOf, Steps}
use Rattle.cmdlines_base.specs.declared.argument.Argument.{Argument}
use Rattle.cmdlines_tables.specs.Values.{IsFlag, IsValue, never, placed}
use Rattle.cmdlines_tables.specs.declared.kind.ArgKind.{ArgKind}
use Rattle.cmdlines_tables.specs.declared.value.ArgData.{ArgData}
use Rattle.sccache_script_tool.specs.Scripted.{only}

-- what the layer below promises of arguments in their place
abbrev pub ArgumentsAreItems : Type 0
ArgumentsAreItems = (item : Item ArgKind) (argument : Argument ArgData) (seen : Bool) → IsOf (values_by IsFlag IsValue never) item argument → is_after item ≡ seen → placed seen argument ≡ item

-- the one word that a reading gives, with these before it
abbrev pub one_after : (Item ArgKind → List Bytes) → List Bytes → Reading ArgKind → Option Bytes
one_after words_in words r = if r.cut_short then None else only (words ++ flat_map words_in r.items)

pub words-step : ArgumentsAreItems → (words_in : Item ArgKind → List Bytes) (table : List (Entry ArgKind)) (old new : Place) (words : List Bytes) (argument : Argument ArgData) → Steps (values_by IsFlag IsValue never) table old (Some (Ok argument)) new
    → one_after words_in (words ++ words_in (placed (is_seen new.dashes) argument)) (reading_at table new) ≡ one_after words_in words (reading_at table old)
words-step are_items words_in table old new words argument h =
    rw (h.reads, are_items h.item argument (is_seen new.dashes) h.is h.after) (ap (λ list. if (reading_at table new).cut_short then None else only list) (append_assoc words (words_in h.item) (flat_map words_in (reading_at table new).items)))
