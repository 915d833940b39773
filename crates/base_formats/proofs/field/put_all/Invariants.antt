use Rattle.std.proofs.Common.{◌≡◌, ◌++◌, take}
use Rattle.std.specs.Io.{StartsWith}
use Rattle.std.specs.List.{flat_map, AllByRecursion}
use Rattle.base_formats.proofs.field.put_all.Given as goal

abbrev pub invariant-loop-value : goal.invariant-loop-value
invariant-loop-value g l = record {
  added : l.out.items ≡ l.fn.out.items ++ flat_map g.T.Field.spells (take l.value-index l.values);
  fits : AllByRecursion g.T.Field.fits (take l.value-index l.values);
  front : StartsWith l.out.items l.fn.out.items;
}
