use Rattle.std.proofs.Common.{subst, sym, ◌∙◌}
use Rattle.std.proofs.lemmas.Result.{on_ok_weaker}
use Rattle.ckeys_include_records.specs.Records.{result_with}
use Rattle.ckeys_include_records.specs.Results.{HasMore}
use Rattle.ckeys_include_records.proofs.Insertion.{with_result-in, with_result-more, with_result-over}
use Rattle.ckeys_include_records.proofs.record.PreprocessorCacheEntry.add_result.Goals as goal

pub returns-then-starts_over-clause-more : goal.returns-then-starts_over-clause-more
returns-then-starts_over-clause-more c =
    let r = result_with c.args.key c.args.includes in
    let over = with_result-over r c.args.self.now.results (sym c.starts_over.ensures ∙ c.if-starts_over.true) in
    on_ok_weaker _ (λ is. subst (HasMore c.args.self.now.results r) (over ∙ sym is) (with_result-more r c.args.self.now.results)) c.start_over.ensures.ok

pub returns-else-starts_over-clause-more : goal.returns-else-starts_over-clause-more
returns-else-starts_over-clause-more c =
    let r = result_with c.args.key c.args.includes in
    let within = with_result-in r c.args.self.now.results (sym c.starts_over.ensures ∙ c.if-starts_over.false) in
    on_ok_weaker _ (λ is. subst (HasMore c.args.self.now.results r) (within ∙ sym is) (with_result-more r c.args.self.now.results)) c.put.ensures.ok
