use Rattle.std.proofs.Common.{sym, ◌∙◌, arith}
use Rattle.ckeys_include_records.proofs.KeyOrder.{rises-short}
use Rattle.ckeys_include_records.proofs.record.rises.Goals as goal

pub returns : goal.returns
returns c = sym (rises-short c.pairs.rest.now (omega arith)) ∙ c.pairs.invariant
