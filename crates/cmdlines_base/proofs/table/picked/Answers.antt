use Rattle.std.proofs.Common.{rules, of_calls, ◌≡◌, ◌-◌, length, take, drop, nat_lt, nat_le}
use Rattle.std.proofs.lemmas.List.Sorted.{IsPartitionPoint-from_clause, IsPartitionedBy-ltb, IsPartitionedBy-leb, IsNonDecreasingBy-drop}
use Rattle.cmdlines_base.specs.declared.table.ArgInfo.{ArgInfo}
use Rattle.cmdlines_base.specs.Table.{entry_of}
use Rattle.cmdlines_base.specs.Nodes.{byte_at}
use Rattle.cmdlines_base.proofs.NodeLemmas.{picked_is, drop_whole}
use Rattle.cmdlines_base.proofs.table.picked.Goals as goal

pub returns : goal.returns
returns g c =
    let xs = c.args.entries.now in
    let start = c.partition_point-start.result in
    let rest = take (length xs - start) (drop start xs) in
    let is : rest ≡ drop start xs = drop_whole start xs in
    let n = λ (e : ArgInfo g.row.T.Denot g.row.T-Kind.Denot). byte_at c.args.depth (entry_of e) in
    let up = IsNonDecreasingBy-drop n start xs c.requires.rising in
    picked_is c.args.depth c.args.byte xs start c.partition_point-end.result rest
    c.partition_point-start.ensures.bound
    c.partition_point-end.ensures.bound
    is
    (IsPartitionPoint-from_clause (λ e. nat_lt (n e) c.args.byte) xs start c.partition_point-start.ensures.partitioned (IsPartitionedBy-ltb n xs c.args.byte c.requires.rising) (λ a r f k. search (rules, of_calls)))
    (IsPartitionPoint-from_clause (λ e. nat_le (n e) c.args.byte) rest c.partition_point-end.result c.partition_point-end.ensures.partitioned (rw is (IsPartitionedBy-leb n (drop start xs) c.args.byte up)) (λ a r f k. search (rules, of_calls)))
