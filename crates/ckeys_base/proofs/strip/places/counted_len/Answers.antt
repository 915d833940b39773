use Rattle.std.proofs.Common.{sym, ◌∙◌}
use Rattle.ckeys_base.specs.FromTheLeft.{places_of}
use Rattle.ckeys_base.proofs.Longest.{counts-fits}
use Rattle.ckeys_base.proofs.strip.places.counted_len.Goals as goal

pub returns-then-counts-clause-within : goal.returns-then-counts-clause-within
returns-then-counts-clause-within c = counts-fits (places_of c.args.kind) c.args.text.now c.args.at c.args.folder.now c.requires (sym c.counts.ensures ∙ c.if-counts.true)
