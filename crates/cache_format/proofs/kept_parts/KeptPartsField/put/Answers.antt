use Rattle.std.proofs.Common.{◌∷◌, []}
use Rattle.base_formats.proofs.Fronts.{front-all}
use Rattle.base_formats.proofs.PartsInRow.{ten_parts}
use Rattle.cache_format.proofs.kept_parts.KeptPartsField.put.Goals as goal

pub returns-clause-added : goal.returns-clause-added
returns-clause-added c =
    ten_parts c.args.out.now.items _ _ _ _ _ _ _ _ _ _ c.put.new.out.items c.put-2.new.out.items c.put-3.new.out.items c.put-4.new.out.items c.put-5.new.out.items c.put-6.new.out.items c.put-7.new.out.items c.put-8.new.out.items c.put-9.new.out.items c.put-10.new.out.items
    c.in_ok-put.ensures.added c.in_ok-put-2.ensures.added c.in_ok-put-3.ensures.added c.in_ok-put-4.ensures.added c.in_ok-put-5.ensures.added c.in_ok-put-6.ensures.added c.in_ok-put-7.ensures.added c.in_ok-put-8.ensures.added c.in_ok-put-9.ensures.added c.in_ok-put-10.ensures.added

pub returns-in_err-put-3-clause-front : goal.returns-in_err-put-3-clause-front
returns-in_err-put-3-clause-front c = front-all c.args.out.now.items (c.put.new.out.items ∷ c.put-2.new.out.items ∷ c.put-3.new.out.items ∷ []) (c.put.ensures.front, (c.put-2.ensures.front, (c.put-3.ensures.front, tt)))

pub returns-in_err-put-4-clause-front : goal.returns-in_err-put-4-clause-front
returns-in_err-put-4-clause-front c = front-all c.args.out.now.items (c.put.new.out.items ∷ c.put-2.new.out.items ∷ c.put-3.new.out.items ∷ c.put-4.new.out.items ∷ []) (c.put.ensures.front, (c.put-2.ensures.front, (c.put-3.ensures.front, (c.put-4.ensures.front, tt))))

pub returns-in_err-put-5-clause-front : goal.returns-in_err-put-5-clause-front
returns-in_err-put-5-clause-front c = front-all c.args.out.now.items (c.put.new.out.items ∷ c.put-2.new.out.items ∷ c.put-3.new.out.items ∷ c.put-4.new.out.items ∷ c.put-5.new.out.items ∷ []) (c.put.ensures.front, (c.put-2.ensures.front, (c.put-3.ensures.front, (c.put-4.ensures.front, (c.put-5.ensures.front, tt)))))

pub returns-in_err-put-6-clause-front : goal.returns-in_err-put-6-clause-front
returns-in_err-put-6-clause-front c = front-all c.args.out.now.items (c.put.new.out.items ∷ c.put-2.new.out.items ∷ c.put-3.new.out.items ∷ c.put-4.new.out.items ∷ c.put-5.new.out.items ∷ c.put-6.new.out.items ∷ []) (c.put.ensures.front, (c.put-2.ensures.front, (c.put-3.ensures.front, (c.put-4.ensures.front, (c.put-5.ensures.front, (c.put-6.ensures.front, tt))))))

pub returns-in_err-put-7-clause-front : goal.returns-in_err-put-7-clause-front
returns-in_err-put-7-clause-front c = front-all c.args.out.now.items (c.put.new.out.items ∷ c.put-2.new.out.items ∷ c.put-3.new.out.items ∷ c.put-4.new.out.items ∷ c.put-5.new.out.items ∷ c.put-6.new.out.items ∷ c.put-7.new.out.items ∷ []) (c.put.ensures.front, (c.put-2.ensures.front, (c.put-3.ensures.front, (c.put-4.ensures.front, (c.put-5.ensures.front, (c.put-6.ensures.front, (c.put-7.ensures.front, tt)))))))

pub returns-in_err-put-8-clause-front : goal.returns-in_err-put-8-clause-front
returns-in_err-put-8-clause-front c = front-all c.args.out.now.items (c.put.new.out.items ∷ c.put-2.new.out.items ∷ c.put-3.new.out.items ∷ c.put-4.new.out.items ∷ c.put-5.new.out.items ∷ c.put-6.new.out.items ∷ c.put-7.new.out.items ∷ c.put-8.new.out.items ∷ []) (c.put.ensures.front, (c.put-2.ensures.front, (c.put-3.ensures.front, (c.put-4.ensures.front, (c.put-5.ensures.front, (c.put-6.ensures.front, (c.put-7.ensures.front, (c.put-8.ensures.front, tt))))))))

pub returns-in_err-put-9-clause-front : goal.returns-in_err-put-9-clause-front
returns-in_err-put-9-clause-front c = front-all c.args.out.now.items (c.put.new.out.items ∷ c.put-2.new.out.items ∷ c.put-3.new.out.items ∷ c.put-4.new.out.items ∷ c.put-5.new.out.items ∷ c.put-6.new.out.items ∷ c.put-7.new.out.items ∷ c.put-8.new.out.items ∷ c.put-9.new.out.items ∷ []) (c.put.ensures.front, (c.put-2.ensures.front, (c.put-3.ensures.front, (c.put-4.ensures.front, (c.put-5.ensures.front, (c.put-6.ensures.front, (c.put-7.ensures.front, (c.put-8.ensures.front, (c.put-9.ensures.front, tt)))))))))

pub returns-in_err-put-10-clause-front : goal.returns-in_err-put-10-clause-front
returns-in_err-put-10-clause-front c = front-all c.args.out.now.items (c.put.new.out.items ∷ c.put-2.new.out.items ∷ c.put-3.new.out.items ∷ c.put-4.new.out.items ∷ c.put-5.new.out.items ∷ c.put-6.new.out.items ∷ c.put-7.new.out.items ∷ c.put-8.new.out.items ∷ c.put-9.new.out.items ∷ c.put-10.new.out.items ∷ []) (c.put.ensures.front, (c.put-2.ensures.front, (c.put-3.ensures.front, (c.put-4.ensures.front, (c.put-5.ensures.front, (c.put-6.ensures.front, (c.put-7.ensures.front, (c.put-8.ensures.front, (c.put-9.ensures.front, (c.put-10.ensures.front, tt))))))))))
