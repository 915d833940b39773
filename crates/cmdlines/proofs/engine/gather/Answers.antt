use Rattle.std.proofs.Common.{◌≡◌, ◌∙◌, ap, sym, [], ◌∷◌}
use Rattle.cmdlines_base.specs.Cutting.{place_of, is_seen, reading_at}
use Rattle.cmdlines_base.specs.Reading.{before, reading}
use Rattle.cmdlines_base.specs.Table.{all_entries}
use Rattle.cmdlines_tables.specs.Tables.{ends_options}
use Rattle.cmdlines_tables.specs.Values.{placed}
use Rattle.cmdlines.specs.Collecting.{no_facts, no_lists, facts_with, lists_with, decide}
use Rattle.cmdlines.specs.Parsing.{refused}
use Rattle.cmdlines.proofs.CollectLemmas.{decide-start, decide-more, decide-hard, decide-end}
use Rattle.cmdlines.proofs.engine.gather.Goals as goal

pub loop-next-init : goal.loop-next-init
loop-next-init g c =
    let entries = all_entries (g.S.SearchableArgInfo.tables c.args.table.now) in
    let arguments = c.arguments_of-arguments in
    record {
      same = arguments.ensures.table;
      told = rw (c.requires.facts, c.requires.lists) (ap (decide c.args.kind entries no_facts no_lists) (arguments.ensures.reading entries) ∙ decide-start c.args.kind entries (reading (ends_options c.args.kind) entries c.args.words.now));
    }

pub returns-in-Some-too_hard_flag : goal.returns-in-Some-too_hard_flag
returns-in-Some-too_hard_flag g c =
    let steps = rw c.in-Ok.is at c.in-Some.ensures.steps in
    let entries = all_entries (g.S.SearchableArgInfo.tables c.args.table.now) in
    let step = rw c.loop-next.invariant.same at steps.0 in
    let seen = is_seen (place_of c.next.new.self).dashes in
    let rest = reading_at entries (place_of c.next.new.self) in
    let argument = placed seen c.in-Ok.argument in
    let item : argument ≡ step.item = c.arguments_are_their_items.ensures step.item c.in-Ok.argument seen step.is step.after in
    let before_is = step.reads ∙ ap (λ i. before i rest) (sym item) in
    let flag = c.in-Some-too_hard_flag.ensures seen in
    sym (ap refused flag.1 ∙ sym (decide-hard c.args.kind entries c.loop-next.facts c.loop-next.lists argument rest flag.0)
    ∙ ap (decide c.args.kind entries c.loop-next.facts c.loop-next.lists) (sym before_is) ∙ c.loop-next.invariant.told)

pub loop-next-preserved : goal.loop-next-preserved
loop-next-preserved g c =
    let steps = rw c.in-Ok.is at c.in-Some.ensures.steps in
    let entries = all_entries (g.S.SearchableArgInfo.tables c.args.table.now) in
    let step = rw c.loop-next.invariant.same at steps.0 in
    let seen = is_seen (place_of c.next.new.self).dashes in
    let rest = reading_at entries (place_of c.next.new.self) in
    let argument = placed seen c.in-Ok.argument in
    let item : argument ≡ step.item = c.arguments_are_their_items.ensures step.item c.in-Ok.argument seen step.is step.after in
    let before_is = step.reads ∙ ap (λ i. before i rest) (sym item) in
    record {
      same = steps.1 ∙ c.loop-next.invariant.same;
      told = ap (λ f. decide c.args.kind entries f c.take.new.self rest) (c.in_ok-note-in-Ok.ensures seen)
          ∙ ap (λ l. decide c.args.kind entries (facts_with entries c.loop-next.facts (argument ∷ [])) l rest) (c.in_ok-take-in-Ok.ensures ∙ ap (λ s. lists_with c.loop-next.lists (placed s c.in-Ok.argument ∷ [])) c.seen_double_dashes.ensures)
          ∙ decide-more c.args.kind entries c.loop-next.facts c.loop-next.lists argument rest (c.in_default-too_hard_flag.ensures seen)
          ∙ ap (decide c.args.kind entries c.loop-next.facts c.loop-next.lists) (sym before_is) ∙ c.loop-next.invariant.told;
    }

pub returns : goal.returns
returns g c =
    let kind = c.args.kind in
    let entries = all_entries (g.S.SearchableArgInfo.tables c.args.table.now) in
    let steps = rw c.loop-next.invariant.same at c.in_default.ensures.steps in
    sym (sym (decide-end kind entries c.loop-next.facts c.loop-next.lists) ∙ ap (decide kind entries c.loop-next.facts c.loop-next.lists) (sym steps.0.0) ∙ c.loop-next.invariant.told)
