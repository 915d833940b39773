use Rattle.std.proofs.Common.{◌-◌, take, drop, get_or, sym, ap, subst, ◌∙◌, arith}
use Rattle.std.proofs.lemmas.List.{take-map, drop-map}
use Rattle.cmdlines_base.specs.Nodes.{IsPicked}
use Rattle.cmdlines_base.specs.Table.{entries_of, entry_of}
use Rattle.cmdlines_base.proofs.fork.Fork.picked.Goals as goal

pub returns : goal.returns
returns g c =
    let xs = c.args.entries.now in
    let begin = c.from.result in
    let end = c.from-2.result in
    let stand = c.requires c.args.byte (omega arith) in
    let low = c.from.ensures ∙ ap (λ i. get_or c.args.self.now.begins i 0) c.from-index.ensures in
    let high = c.from-2.ensures ∙ ap (λ i. get_or c.args.self.now.ends i 0) c.from-index.ensures in
    let is = ap (λ ys. take (end - begin) ys) (drop-map entry_of begin xs) ∙ take-map entry_of (end - begin) (drop begin xs) in
    subst (λ ys. IsPicked 1 c.args.byte (entries_of xs) ys) is (subst (λ n. IsPicked 1 c.args.byte (entries_of xs) (take (n - begin) (drop begin (entries_of xs)))) (sym high) (subst (λ n. IsPicked 1 c.args.byte (entries_of xs) (take (get_or c.args.self.now.ends c.args.byte 0 - n) (drop n (entries_of xs)))) (sym low) stand.picked))
