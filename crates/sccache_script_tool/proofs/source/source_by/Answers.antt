use Rattle.std.proofs.Common.{◌∙◌, ap}
use Rattle.cmdlines_base.specs.Cutting.{place_of, is_seen}
use Rattle.cmdlines_base.specs.Table.{all_entries}
use Rattle.sccache_script_tool.specs.Scripted.{input_in, language_in, one_in}
use Rattle.sccache_script_tool.proofs.InputLaws.{words-step}
use Rattle.sccache_script_tool.proofs.source.source_by.Goals as goal

pub loop-next-init : goal.loop-next-init
loop-next-init g c =
    let entries = all_entries (g.S.SearchableArgInfo.tables c.args.table.now) in
    let reads = c.arguments_of-arguments.ensures.reading entries in
    record {
      inputs = rw c.new-inputs.ensures.items (ap (one_in input_in) reads);
      languages = rw c.new-languages.ensures.items (ap (one_in language_in) reads);
      same = c.arguments_of-arguments.ensures.table;
    }

pub loop-next-preserved : goal.loop-next-preserved
loop-next-preserved g c =
    let steps = rw c.in-Ok.is at c.in-Some.ensures.steps in
    let entries = all_entries (g.S.SearchableArgInfo.tables c.args.table.now) in
    let step = rw c.loop-next.invariant.same at steps.0 in
    let seen = is_seen (place_of c.next.new.self).dashes in
    record {
      inputs = rw (c.in_ok-push_input-in-Ok.ensures seen) (words-step c.arguments_are_their_items.ensures input_in entries (place_of c.loop-next.arguments) (place_of c.next.new.self) c.loop-next.inputs.items c.in-Ok.argument step ∙ c.loop-next.invariant.inputs);
      languages = rw (c.in_ok-push_language-in-Ok.ensures seen) (words-step c.arguments_are_their_items.ensures language_in entries (place_of c.loop-next.arguments) (place_of c.next.new.self) c.loop-next.languages.items c.in-Ok.argument step ∙ c.loop-next.invariant.languages);
      same = steps.1 ∙ c.loop-next.invariant.same;
    }
