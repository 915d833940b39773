use Rattle.std.proofs.Common.{sym, refl}
use Rattle.cmdlines_tables.proofs.cutting.arguments_of.Goals as goal

pub returns-then-ends_options-clause-reading : goal.returns-then-ends_options-clause-reading
returns-then-ends_options-clause-reading g c = λ entries.
    rw (c.with_double_dashes.ensures.dashes, c.with_double_dashes.ensures.words, c.new-arguments.ensures.words, sym c.ends_options.ensures, c.if-ends_options.true) refl

pub returns-else-ends_options-clause-reading : goal.returns-else-ends_options-clause-reading
returns-else-ends_options-clause-reading g c = λ entries.
    rw (c.new-arguments.ensures.dashes, c.new-arguments.ensures.words, sym c.ends_options.ensures, c.if-ends_options.false) refl
