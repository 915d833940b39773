use Rattle.rustc_options.specs.SortedLaws.{sorted_is}
use Rattle.rustc_texts.specs.Words.{words_cmp}
use Rattle.rustc_texts.proofs.WordLaws.{words-exact, words-total}
use Rattle.rustc_texts.proofs.words.sorted.Goals as goal

pub returns : goal.returns
returns c = sorted_is words_cmp words-total words-exact _ _ c.sort_unstable.ensures.permutation c.sort_unstable.ensures.sorted
