use Rattle.std.proofs.Common.{ap, ◌∙◌}
use Rattle.ckeys_records.specs.Params.{is_cached}
use Rattle.wrap_fingerprints.proofs.pieces.counts.Goals as goal

pub returns : goal.returns
returns c = let value = c.args.variable.now.1 in c.is_cached.ensures value ∙ ap (λ name. is_cached (name, value)) c.as_bytes.ensures
