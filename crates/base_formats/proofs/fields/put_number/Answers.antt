use Rattle.base_formats.proofs.Fronts.{front-grown}
use Rattle.base_formats.proofs.fields.put_number.Goals as goal

pub returns-clause-front : goal.returns-clause-front
returns-clause-front c = front-grown c.args.out.now.items _ _ _ c.extend_from_slice.ensures.items
