use Rattle.std.proofs.Common.{◌≡◌, map, take}
use Rattle.rustc_options.specs.Asks.{said_in}
use Rattle.rustc_texts.specs.Words.{cfgs_of, words_in}
use Rattle.rustc_texts.proofs.words.cfgs.Given as goal

-- those of the arguments so far
abbrev pub invariant-loop-argument : goal.invariant-loop-argument
invariant-loop-argument l = l.list.items ≡ map words_in (cfgs_of (map said_in (take l.argument-index l.arguments)))
