use Rattle.std.proofs.Common.{◌≡◌, [], subst}
use Rattle.std.specs.Prelude.{unwrap_or}
use Rattle.base_files.specs.Bytes.{Bytes}
use Rattle.base_files.specs.Path.{path_cmp}
use Rattle.rustc_texts.specs.DepInfo.{sources_of}
use Rattle.rustc_options.specs.Sorted.{sorted_by}
use Rattle.rustkeys.proofs.SortLemmas.{found_in_order}
use Rattle.rustkeys.proofs.ordered_lists.sources_in.Goals as goal

pub returns-in-Ok-clause-sources : goal.returns-in-Ok-clause-sources
returns-in-Ok-clause-sources c =
    let order = c.paths_have_one_order.ensures in
    let text = c.args.text.now in
    subst (λ (dir : Bytes). c.in-Ok.sources ≡ sorted_by path_cmp (unwrap_or (sources_of dir text) [])) c.as_bytes.ensures
    (found_in_order path_cmp order.total order.ties c.in-Ok.sources (sources_of c.as_bytes.result.now text) (λ e. absurd (let never = c.in-Ok.ensures.no_rule.1 e in cc)) c.in-Ok.ensures.same c.in-Ok.ensures.sorted)
