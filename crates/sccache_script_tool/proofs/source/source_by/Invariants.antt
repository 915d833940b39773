use Rattle.std.proofs.Common.{◌≡◌}
use Rattle.cmdlines_base.specs.Cutting.{place_of, reading_at, table_in}
use Rattle.cmdlines_base.specs.Reading.{reading}
use Rattle.cmdlines_base.specs.Table.{all_entries}
use Rattle.cmdlines_tables.specs.Tables.{ends_options}
use Rattle.sccache_script_tool.specs.Scripted.{input_in, language_in, one_in}
use Rattle.sccache_script_tool.proofs.InputLaws.{one_after}
use Rattle.sccache_script_tool.proofs.source.source_by.Given as goal

-- the inputs and languages so far, and those of the words that are left
abbrev pub invariant-loop-next : goal.invariant-loop-next
invariant-loop-next g l =
    let entries = all_entries (g.S.SearchableArgInfo.tables l.fn.table) in
    let whole = reading (ends_options l.fn.kind) entries l.fn.words in
    let left = reading_at entries (place_of l.arguments) in
    record {
      inputs : one_after input_in l.inputs.items left ≡ one_in input_in whole;
      languages : one_after language_in l.languages.items left ≡ one_in language_in whole;
      same : table_in l.arguments ≡ l.fn.table;
    }
