use Rattle.std.proofs.Common.{◌∙◌, refl, sym}
use Rattle.cmdlines_tables.proofs.ArchLemmas.{no_archs, two_archs}
use Rattle.cmdlines_tables.proofs.parsed.ParsedArguments.is_multiarch.Goals as goal

pub returns-in-None : goal.returns-in-None
returns-in-None c = rw (no_archs c.args.self.now.arch_args (sym c.in-None.ensures)) refl

pub returns-in-Some : goal.returns-in-Some
returns-in-Some c = c.names_other.ensures ∙ two_archs c.args.self.now.arch_args c.in-Some.first.now (sym c.in-Some.ensures)
