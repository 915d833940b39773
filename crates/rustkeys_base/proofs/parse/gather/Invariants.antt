use Rattle.std.proofs.Common.{◌≡◌, ◌∷◌, [], length, map}
use Rattle.std.specs.List.{Contains}
use Rattle.cmdlines_base.specs.Cutting.{place_of, reading_at, table_in}
use Rattle.cmdlines_base.specs.Reading.{Item}
use Rattle.rustc_options.specs.Table.{rustc_entries, rustc_reading}
use Rattle.rustc_options.specs.declared.kind.ArgKind.{ArgKind}
use Rattle.rustkeys_base.specs.Facts.{facts_of, facts_with}
use Rattle.rustkeys_base.specs.Saying.{token_of}
use Rattle.rustkeys_base.specs.Parsing.{decision_on}
use Rattle.rustkeys_base.proofs.ItemLemmas.{Continues}
use Rattle.rustkeys_base.proofs.ParsingLemmas.{decision_at}
use Rattle.rustkeys_base.proofs.parse.gather.Given as goal

-- what is known and the words that are left come to what all words come to
abbrev pub invariant-loop-next : goal.invariant-loop-next
invariant-loop-next g l =
    let tree = g.F.Files.tree l.fn.files in
    let left = reading_at rustc_entries (place_of l.arguments) in
    let all = rustc_reading l.fn.words in
    record {
      table : table_in l.arguments ≡ rustc_entries ∷ [];
      within : (item : Item ArgKind) → Contains left.items item → Contains all.items item;
      decision : decision_at l.fn.dir tree l.facts left ≡ decision_on l.fn.dir tree all;
      facts : facts_with l.facts (map token_of left.items) ≡ facts_of (map token_of all.items);
      kept : Continues left.items l.kept all.items;
      tree : g.F.Files.tree l.files ≡ tree;
      steady : g.F.Files.failed l.files ≡ g.F.Files.failed l.fn.files;
    }

abbrev pub decreases-loop-next : goal.decreases-loop-next
decreases-loop-next g l = length (place_of l.arguments).words
