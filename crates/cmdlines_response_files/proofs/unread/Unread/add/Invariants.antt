use Rattle.std.proofs.Common.{◌≡◌, ◌∷◌, ◌++◌, map, vec_len}
use Rattle.cmdlines_response_files.specs.Unread.{parts_of}
use Rattle.cmdlines_response_files.specs.declared.unread.Part.TheVariants.{Word, End}
use Rattle.cmdlines_response_files.proofs.unread.Unread.add.Given as goal

-- the words that aren't put yet, and what is left to read, are all of both
abbrev pub invariant-loop-word : goal.invariant-loop-word
invariant-loop-word l = map Word l.words.items ++ parts_of l.self ≡ map Word l.fn.file.words ++ End l.fn.file.name ∷ parts_of l.fn.self

abbrev pub decreases-loop-word : goal.decreases-loop-word
decreases-loop-word l = vec_len l.words
