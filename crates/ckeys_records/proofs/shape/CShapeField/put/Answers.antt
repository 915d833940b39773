use Rattle.std.proofs.Common.{◌∷◌, []}
use Rattle.base_formats.proofs.Fronts.{front-all}
use Rattle.base_formats.proofs.PartsInRow.{six_parts}
use Rattle.ckeys_records.proofs.shape.CShapeField.put.Goals as goal

pub returns-clause-added : goal.returns-clause-added
returns-clause-added c =
    six_parts c.args.out.now.items _ _ _ _ _ _ c.put.new.out.items c.put-2.new.out.items c.put-3.new.out.items c.put-4.new.out.items c.put-5.new.out.items c.put-6.new.out.items
    c.in_ok-put.ensures.added c.in_ok-put-2.ensures.added c.in_ok-put-3.ensures.added c.in_ok-put-4.ensures.added c.in_ok-put-5.ensures.added c.in_ok-put-6.ensures.added

pub returns-in_err-put-4-clause-front : goal.returns-in_err-put-4-clause-front
returns-in_err-put-4-clause-front c = front-all c.args.out.now.items (c.put.new.out.items ∷ c.put-2.new.out.items ∷ c.put-3.new.out.items ∷ c.put-4.new.out.items ∷ []) (c.put.ensures.front, (c.put-2.ensures.front, (c.put-3.ensures.front, (c.put-4.ensures.front, tt))))

pub returns-in_err-put-5-clause-front : goal.returns-in_err-put-5-clause-front
returns-in_err-put-5-clause-front c = front-all c.args.out.now.items (c.put.new.out.items ∷ c.put-2.new.out.items ∷ c.put-3.new.out.items ∷ c.put-4.new.out.items ∷ c.put-5.new.out.items ∷ []) (c.put.ensures.front, (c.put-2.ensures.front, (c.put-3.ensures.front, (c.put-4.ensures.front, (c.put-5.ensures.front, tt)))))

pub returns-in_err-put-6-clause-front : goal.returns-in_err-put-6-clause-front
returns-in_err-put-6-clause-front c = front-all c.args.out.now.items (c.put.new.out.items ∷ c.put-2.new.out.items ∷ c.put-3.new.out.items ∷ c.put-4.new.out.items ∷ c.put-5.new.out.items ∷ c.put-6.new.out.items ∷ []) (c.put.ensures.front, (c.put-2.ensures.front, (c.put-3.ensures.front, (c.put-4.ensures.front, (c.put-5.ensures.front, (c.put-6.ensures.front, tt))))))
