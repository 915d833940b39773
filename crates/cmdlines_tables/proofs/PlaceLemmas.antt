-- An argument in its place is its item.
use Rattle.std.proofs.Common.{◌≡◌, Bool, true, false, refl, ap}
use Rattle.cmdlines_base.specs.Reading.{Item, raw, unknown, flag, valued, after_dashes, is_after}
use Rattle.cmdlines_base.specs.Values.{IsOf, values_by}
use Rattle.cmdlines_base.specs.declared.argument.Argument.{Argument}
use Rattle.cmdlines_base.specs.declared.argument.Argument.TheVariants.{Raw, UnknownFlag, Flag, WithValue}
use Rattle.cmdlines_tables.specs.Values.{IsFlag, IsValue, never, placed}
use Rattle.cmdlines_tables.specs.declared.kind.ArgKind.{ArgKind}
use Rattle.cmdlines_tables.specs.declared.value.ArgData.{ArgData}

pub item_is : (item : Item ArgKind) (argument : Argument ArgData) (seen : Bool) → IsOf (values_by IsFlag IsValue never) item argument → is_after item ≡ seen → placed seen argument ≡ item
item_is (raw w) (Raw v) false h at = ap raw h
item_is (raw w) (Raw v) true h at = cc
item_is (raw w) (UnknownFlag v) seen h at = absurd h
item_is (raw w) (Flag g v) seen h at = absurd h
item_is (raw w) (WithValue g v d) seen h at = absurd h
item_is (unknown w) (Raw v) seen h at = absurd h
item_is (unknown w) (UnknownFlag v) seen h at = ap unknown h
item_is (unknown w) (Flag g v) seen h at = absurd h
item_is (unknown w) (WithValue g v d) seen h at = absurd h
item_is (flag f k) (Raw v) seen h at = absurd h
item_is (flag f k) (UnknownFlag v) seen h at = absurd h
item_is (flag f k) (Flag g v) seen h at = rw (h.0, h.1) refl
item_is (flag f k) (WithValue g v d) seen h at = absurd h
item_is (valued f k w d) (Raw v) seen h at = absurd h
item_is (valued f k w d) (UnknownFlag v) seen h at = absurd h
item_is (valued f k w d) (Flag g v) seen h at = absurd h
item_is (valued f k w d) (WithValue g v e) seen h at = rw (h.0, h.1, h.2) refl
item_is (after_dashes w) (Raw v) true h at = ap after_dashes h
item_is (after_dashes w) (Raw v) false h at = cc
item_is (after_dashes w) (UnknownFlag v) seen h at = absurd h
item_is (after_dashes w) (Flag g v) seen h at = absurd h
item_is (after_dashes w) (WithValue g v d) seen h at = absurd h
