use Rattle.base_formats.proofs.PartsInRow.{five_parts}
use Rattle.cache_format.proofs.kept_crate.KeptCrateField.put.Goals as goal

pub returns-clause-added : goal.returns-clause-added
returns-clause-added c =
    five_parts c.args.out.now.items _ _ _ _ _ c.put.new.out.items c.put-2.new.out.items c.put-3.new.out.items c.put-4.new.out.items
    c.put-5.new.out.items
    c.in_ok-put.ensures.added c.in_ok-put-2.ensures.added c.in_ok-put-3.ensures.added c.in_ok-put-4.ensures.added
    c.in_ok-put-5.ensures.added
