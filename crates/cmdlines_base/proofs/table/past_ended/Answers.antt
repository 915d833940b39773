use Rattle.std.proofs.Common.{◌<◌, ◌≤◌, max, All, ◌∷◌, length, sym, subst, ap, arith, ◌∙◌}
use Rattle.std.proofs.lemmas.List.{length-map}
use Rattle.std.proofs.lemmas.List.Elements.{All-head}
use Rattle.cmdlines_base.specs.Nodes.{Begins, GoesOn, IsNode}
use Rattle.cmdlines_base.specs.Table.{entry_of, entries_of}
use Rattle.cmdlines_base.specs.Reach.{reach}
use Rattle.cmdlines_base.proofs.NodeLemmas.{all_on, ended_within, ends_once, node_after}
use Rattle.cmdlines_base.proofs.ReachLemmas.{reach-ended}
use Rattle.cmdlines_base.proofs.table.past_ended.Goals.{in_default-via-in-Some+else-flag-depth, in_default-via-in_default}
use Rattle.cmdlines_base.proofs.table.past_ended.Goals as goal

pub returns-after-fits_after-clause-node : goal.returns-after-fits_after-clause-node
returns-after-fits_after-clause-node g c =
    let d = c.args.depth in
    let word = c.args.word.now in
    node_after d word (entry_of c.in-Some.entry.now) (entries_of c.in-Some.others.now) (subst (λ xs. IsNode d word (entries_of xs)) c.in-Some.ensures.cases.0 c.requires.node)

pub returns-after-fits_after-clause-on : goal.returns-after-fits_after-clause-on
returns-after-fits_after-clause-on g c =
    let d = c.args.depth in
    let word = c.args.word.now in
    let node : IsNode d word (entry_of c.in-Some.entry.now ∷ entries_of c.in-Some.others.now) = subst (λ xs. IsNode d word (entries_of xs)) c.in-Some.ensures.cases.0 c.requires.node in
    ends_once d word (entry_of c.in-Some.entry.now) (entries_of c.in-Some.others.now) node.rise node.begin

pub returns-in_default-clause-on : goal.returns-in_default-clause-on
returns-in_default-clause-on g c =
    let d = c.args.depth in
    let word = c.args.word.now in
    elim c.in_default.branch [
      | in_default-via-in-Some+else-flag-depth w ↦
          let node : IsNode d word (entry_of w.in-Some.entry.now ∷ entries_of w.in-Some.others.now) = subst (λ xs. IsNode d word (entries_of xs)) w.in-Some.ensures.cases.0 c.requires.node in
          let on : d < length (entry_of w.in-Some.entry.now).flag = omega (arith, w.if-flag-depth.false, ap length w.flag.ensures) in
          subst (λ xs. All (GoesOn d) (entries_of xs)) (sym w.in-Some.ensures.cases.0) (all_on d word (entry_of w.in-Some.entry.now) (entries_of w.in-Some.others.now) node on)
      | in_default-via-in_default w ↦ λ k e lt. absurd (omega (arith, lt, length-map c.args.node.now entry_of, w.in_default.ensures.cases))
    ]

pub returns-after-fits_after-clause-reach : goal.returns-after-fits_after-clause-reach
returns-after-fits_after-clause-reach g c =
    let d = c.args.depth in
    let word = c.args.word.now in
    let e = entry_of c.in-Some.entry.now in
    let es = entries_of c.in-Some.others.now in
    let node : IsNode d word (e ∷ es) = subst (λ xs. IsNode d word (entries_of xs)) c.in-Some.ensures.cases.0 c.requires.node in
    let le : length e.flag ≤ d = omega (arith, c.if-flag-depth.true, ap length c.flag.ensures) in
    reach-ended d word e es node le ∙ ap (λ xs. max d (reach (entries_of xs) word)) (sym c.in-Some.ensures.cases.0)

pub fits_after-requires : goal.fits_after-requires
fits_after-requires g c =
    let d = c.args.depth in
    let word = c.args.word.now in
    let e = entry_of c.in-Some.entry.now in
    let node : IsNode d word (e ∷ entries_of c.in-Some.others.now) = subst (λ xs. IsNode d word (entries_of xs)) c.in-Some.ensures.cases.0 c.requires.node in
    let begins = All-head (Begins d word) e (entries_of c.in-Some.others.now) node.begin in
    record { begins = begins; ends = omega (arith, c.if-flag-depth.true, ap length c.flag.ensures); within = ended_within d word e begins }
