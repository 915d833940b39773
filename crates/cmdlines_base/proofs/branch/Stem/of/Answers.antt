use Rattle.std.proofs.Common.{◌≡◌, ◌∷◌, [], nat_le, take, Some, true, false, sym, ap, subst, ◌∙◌, arith, rules, of_calls, All}
use Rattle.std.proofs.lemmas.List.{length-map, take-map}
use Rattle.std.proofs.lemmas.List.Sorted.{IsPartitionPoint-from_clause, IsPartitionedBy-leb}
use Rattle.std.specs.List.{slice_get}
use Rattle.std.specs.List.Sorted.{IsPartitionPoint}
use Rattle.cmdlines_base.specs.declared.table.ArgInfo.{ArgInfo}
use Rattle.cmdlines_base.specs.Forks.{IsForkOf, going_on}
use Rattle.cmdlines_base.specs.Nodes.{GoesOn, IsNode, IsPicked, byte_at}
use Rattle.cmdlines_base.specs.Table.{entry_of, entries_of}
use Rattle.cmdlines_base.proofs.NodeLemmas.{bytes_rise, going_on_node}
use Rattle.cmdlines_base.proofs.StemLemmas.{firsts_rise, front_node, front_picked, none_empty, some_front}
use Rattle.cmdlines_base.proofs.branch.Stem.of.Goals as goal

pub of-requires : goal.of-requires
of-requires g c =
    let xs = c.args.entries.now in
    let first = c.in_ok-first.field-0.now in
    let byte = c.in_ok-byte.field-0.now in
    let count = c.partition_point-count.result in
    let one : slice_get xs 0 ≡ Some first = sym c.in_ok-first.ensures.value in
    let head : slice_get (entry_of first).flag 0 ≡ Some byte = ap (λ l. slice_get l 0) (sym (c.as_bytes.ensures.value ∙ c.flag.ensures)) ∙ sym c.in_ok-byte.ensures.value in
    let At = λ (e : ArgInfo g.row.T.Denot g.row.T-Kind.Denot). byte_at 0 (entry_of e) in
    let parted : IsPartitionPoint (λ e. nat_le (At e) byte ≡ true) (λ e. nat_le (At e) byte ≡ false) xs count = IsPartitionPoint-from_clause (λ e. nat_le (At e) byte) xs count c.partition_point-count.ensures.partitioned (IsPartitionedBy-leb At xs byte (firsts_rise xs first byte count c.requires one head)) (λ a r f k. search (rules, of_calls)) in
    let after = going_on_node 1 (byte ∷ []) (entries_of (take count xs)) (front_node xs first byte count c.requires one head c.partition_point-count.ensures.bound parted) in
    let is = c.going_on.ensures in
    let node : IsNode 1 (byte ∷ []) (entries_of c.going_on.result.now) = subst (IsNode 1 (byte ∷ [])) (sym is) after.0 in
    record { rising = bytes_rise 1 (byte ∷ []) c.going_on.result.now node.rise node.begin (subst (All (GoesOn 1)) (sym is) after.1) }

pub returns : goal.returns
returns g c =
    let xs = c.args.entries.now in
    let first = c.in_ok-first.field-0.now in
    let byte = c.in_ok-byte.field-0.now in
    let count = c.partition_point-count.result in
    let one : slice_get xs 0 ≡ Some first = sym c.in_ok-first.ensures.value in
    let head : slice_get (entry_of first).flag 0 ≡ Some byte = ap (λ l. slice_get l 0) (sym (c.as_bytes.ensures.value ∙ c.flag.ensures)) ∙ sym c.in_ok-byte.ensures.value in
    let At = λ (e : ArgInfo g.row.T.Denot g.row.T-Kind.Denot). byte_at 0 (entry_of e) in
    let parted : IsPartitionPoint (λ e. nat_le (At e) byte ≡ true) (λ e. nat_le (At e) byte ≡ false) xs count = IsPartitionPoint-from_clause (λ e. nat_le (At e) byte) xs count c.partition_point-count.ensures.partitioned (IsPartitionedBy-leb At xs byte (firsts_rise xs first byte count c.requires one head)) (λ a r f k. search (rules, of_calls)) in
    let bound = c.partition_point-count.ensures.bound in
    let cut : entries_of (take count xs) ≡ take count (entries_of xs) = sym (take-map entry_of count xs) in
    record {
      some = some_front xs first byte count c.requires one head bound parted;
      within = omega (arith, bound, length-map xs entry_of);
      on = none_empty xs first byte c.requires one head;
      front = subst (IsPicked 0 byte (entries_of xs)) cut (front_picked xs first byte count c.requires one head bound parted);
      parts = subst (IsForkOf c.in_ok-fork.fork) (c.going_on.ensures ∙ ap (going_on 1) cut) c.in_ok-fork.ensures;
    }
