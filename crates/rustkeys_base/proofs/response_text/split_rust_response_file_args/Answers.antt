use Rattle.std.proofs.Common.{◌==◌, ◌∙◌, length, lit<, not, rules, tests}
use Rattle.std.proofs.lemmas.Iterator.{YieldsList-from_map_by}
use Rattle.std.proofs.lemmas.Iterator.Consumers.{YieldsList-at, YieldsList-end, YieldsList-from_filter}
use Rattle.std.proofs.lemmas.Iterator.Splits.{YieldsList-from_str_split}
use Rattle.std.specs.Str.{trim}
use Rattle.rustkeys_base.proofs.response_text.split_rust_response_file_args.Goals as goal

pub returns : goal.returns
returns c =
    let done =
    YieldsList-end
    (YieldsList-at c.into_iter-line-iterator.ensures.into_iter_gives
    (YieldsList-from_filter _ (λ line. not (length line == 0))
    (YieldsList-at c.filter-line-items.ensures.source
    (YieldsList-from_map_by _ (λ line. line.now) trim
    (YieldsList-at c.map.ensures.source (YieldsList-from_str_split 10 c.args.text.now (lit< tt) c.split.ensures.text c.split.ensures.has_more c.split.ensures.pattern))
    c.map.ensures.closure (λ x r q k. search (rules, tests))))
    c.filter-line-items.ensures.closure (λ x b q k. search (rules, tests))))
    c.loop-line.yielded _ c.loop-line.yielded_by _ _ c.in-None.is c.next.ensures.steps in
    record { words = c.from_vec.ensures ∙ c.loop-line.invariant ∙ done.0 }
