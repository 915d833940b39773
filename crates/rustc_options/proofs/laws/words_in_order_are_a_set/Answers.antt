use Rattle.std.proofs.Common.{[], sym, ◌∙◌}
use Rattle.std.proofs.lemmas.Cmp.{nat_list_cmp_total}
use Rattle.std.proofs.lemmas.Map.Lookups.{exact_bytes}
use Rattle.std.specs.Cmp.Lexicographic.{slice_cmp}
use Rattle.std.specs.List.Sorted.{IsStrictlySortedBy}
use Rattle.std.specs.Ordering.{nat_cmp}
use Rattle.std.specs.Str.{bytes_eq}
use Rattle.rustc_options.specs.Sets.{in_order}
use Rattle.rustc_options.proofs.OneOrder.{one_order}
use Rattle.rustc_options.proofs.SetLemmas.{any-all, rises-all}
use Rattle.rustc_options.proofs.laws.words_in_order_are_a_set.Goals as goal

pub returns-clause-rising : goal.returns-clause-rising
unfolding in_order IsStrictlySortedBy
returns-clause-rising c = λ words. rises-all (slice_cmp nat_cmp) nat_list_cmp_total exact_bytes [] words tt

pub returns-clause-same : goal.returns-clause-same
unfolding in_order
returns-clause-same c = λ words word. any-all (slice_cmp nat_cmp) nat_list_cmp_total exact_bytes (bytes_eq word) [] words

pub returns-clause-only : goal.returns-clause-only
returns-clause-only c =
    λ words list rises same.
    one_order list (in_order words) rises (returns-clause-rising c words) (λ word. same word ∙ sym (returns-clause-same c words word))
