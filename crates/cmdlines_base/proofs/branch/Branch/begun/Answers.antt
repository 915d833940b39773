use Rattle.std.proofs.Common.{◌≡◌, ◌<◌, not, length, take, sym, ap, subst, ◌∙◌, arith}
use Rattle.std.proofs.lemmas.Bool.{lt-ltb}
use Rattle.std.proofs.lemmas.List.{length-map, length-take, take-map}
use Rattle.cmdlines_base.specs.Forks.{IsForkOf, IsStemOf, going_on}
use Rattle.cmdlines_base.specs.Reach.{reach}
use Rattle.cmdlines_base.specs.Table.{entry_at, entry_of, entries_of, longer, longest_fit}
use Rattle.cmdlines_base.proofs.NodeLemmas.{below_fits, below_node}
use Rattle.cmdlines_base.proofs.ReachLemmas.{reach-below, reach-first, reach-some}
use Rattle.cmdlines_base.proofs.StemLemmas.{stem_fits, stem_node, stem_reach}
use Rattle.cmdlines_base.proofs.TableLemmas.{longer-none}
use Rattle.cmdlines_base.proofs.branch.Branch.begun.Goals as goal

pub past_ended-requires : goal.past_ended-requires
past_ended-requires g c =
    let h : IsStemOf c.in-Some-len2-up.stem c.self.inside.table = rw c.in-Some-len2-up.is-0 at c.self.invariant in
    record { node = stem_node c.args.word.now c.entries-entries.result.now c.self.inside.table c.in-Some-len2-up.stem c.entries-entries.ensures.value c.entries-entries.ensures.rise h (omega (arith, c.in-Some-len2-up.len_at_least)) c.if-byte-stem.true }

pub picked-requires : goal.picked-requires
picked-requires g c =
    let stem = c.in-Some-len2-up.stem in
    let h : IsStemOf stem c.self.inside.table = rw c.in-Some-len2-up.is-0 at c.self.invariant in
    let is : entries_of c.past_ended.result.1.now ≡ going_on 1 (take stem.count c.self.inside.table) = c.past_ended.ensures.rest ∙ ap (going_on 1) (sym (take-map entry_of stem.count c.entries-entries.result.now) ∙ ap (λ es. take stem.count es) c.entries-entries.ensures.value) in
    subst (IsForkOf stem.fork) (sym is) h.parts

pub returns-in-Some-len2-up-clause-fit : goal.returns-in-Some-len2-up-clause-fit
returns-in-Some-len2-up-clause-fit g c =
    let word = c.args.word.now in
    let lt : 1 < length word = c.in-Some-len2-up.len_at_least in
    let some_word : 0 < length word = omega (arith, lt) in
    let stem = c.in-Some-len2-up.stem in
    let h : IsStemOf stem c.self.inside.table = rw c.in-Some-len2-up.is-0 at c.self.invariant in
    let one = c.past_ended in
    let found = entry_at one.result.0 in
    let others = entries_of one.result.1.now in
    let below = entries_of c.picked.result.now in
    ap (longer found) (sym (below_fits 1 word others below lt one.ensures.node one.ensures.on c.picked.ensures))
    ∙ one.ensures.fit ∙ longer-none (longest_fit (entries_of (take stem.count c.entries-entries.result.now)) word)
    ∙ sym (stem_fits word c.entries-entries.result.now c.self.inside.table stem c.entries-entries.ensures.value c.entries-entries.ensures.rise h some_word c.if-byte-stem.true)
    ∙ ap (λ es. longest_fit es word) c.self.view_is

pub returns-in-Some-len2-up-clause-node : goal.returns-in-Some-len2-up-clause-node
returns-in-Some-len2-up-clause-node g c =
    below_node 1 c.args.word.now (entries_of c.past_ended.result.1.now) (entries_of c.picked.result.now) (omega (arith, c.in-Some-len2-up.len_at_least)) c.past_ended.ensures.node c.past_ended.ensures.on c.picked.ensures

pub returns-in-Some-len2-up-clause-reach : goal.returns-in-Some-len2-up-clause-reach
returns-in-Some-len2-up-clause-reach g c =
    let word = c.args.word.now in
    let lt : 1 < length word = c.in-Some-len2-up.len_at_least in
    let some_word : 0 < length word = omega (arith, lt) in
    let stem = c.in-Some-len2-up.stem in
    let xs = c.entries-entries.result.now in
    let t = c.self.inside.table in
    let h : IsStemOf stem t = rw c.in-Some-len2-up.is-0 at c.self.invariant in
    let one = c.past_ended in
    let others = entries_of one.result.1.now in
    let below = entries_of c.picked.result.now in
    let all : reach t word ≡ reach (entries_of (take stem.count xs)) word = stem_reach word xs t stem c.entries-entries.ensures.value c.entries-entries.ensures.rise h some_word c.if-byte-stem.true in
    omega (arith, ap (λ es. reach es word) c.self.view_is, all, one.ensures.reach, reach-below 1 word others below lt one.ensures.node one.ensures.on c.picked.ensures)

pub returns-in-Some-len2-up-clause-first : goal.returns-in-Some-len2-up-clause-first
returns-in-Some-len2-up-clause-first g c =
    let word = c.args.word.now in
    let lt : 1 < length word = c.in-Some-len2-up.len_at_least in
    let some_word : 0 < length word = omega (arith, lt) in
    let stem = c.in-Some-len2-up.stem in
    let xs = c.entries-entries.result.now in
    let t = c.self.inside.table in
    let h : IsStemOf stem t = rw c.in-Some-len2-up.is-0 at c.self.invariant in
    let node = stem_node word xs t stem c.entries-entries.ensures.value c.entries-entries.ensures.rise h some_word c.if-byte-stem.true in
    let all : reach t word ≡ reach (entries_of (take stem.count xs)) word = stem_reach word xs t stem c.entries-entries.ensures.value c.entries-entries.ensures.rise h some_word c.if-byte-stem.true in
    let some : 0 < length (take stem.count xs) = omega (arith, length-take stem.count xs, h.some, h.within, ap length c.entries-entries.ensures.value, length-map xs entry_of) in
    sym (lt-ltb 0 (reach c.args.self.now word) (omega (arith, ap (λ es. reach es word) c.self.view_is, all, reach-some 1 word (take stem.count xs) some node)))

pub returns-in_default-clause-first : goal.returns-in_default-clause-first
returns-in_default-clause-first g c =
    let word = c.args.word.now in
    let xs = c.step.result.1.now in
    let far : reach c.args.self.now word ≡ reach (entries_of xs) word = omega (arith, c.step.ensures.reach, ap (λ es. reach es word) c.entries-entries.ensures.value, ap (λ es. reach es word) c.self.view_is) in
    ap not c.is_empty.ensures ∙ reach-first word xs (reach c.args.self.now word) c.step.ensures.node far
