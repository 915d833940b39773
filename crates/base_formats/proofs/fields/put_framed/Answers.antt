use Rattle.base_formats.proofs.Fronts.{front-grown, front-then}
use Rattle.base_formats.proofs.fields.put_framed.Goals as goal

pub returns-clause-front : goal.returns-clause-front
returns-clause-front c =
    front-then c.args.out.now.items c.put_number.new.out.items c.extend_from_slice.new.self.items c.put_number.ensures.front
    (front-grown c.put_number.new.out.items _ _ _ c.extend_from_slice.ensures.items)
