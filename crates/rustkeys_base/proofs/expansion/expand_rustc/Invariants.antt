use Rattle.std.proofs.Common.{◌≡◌, take}
use Rattle.cmdlines_response_files.specs.Known.{AreTrue}
use Rattle.rustkeys_base.specs.Expansion.{expanded_by_rustc, words_in}
use Rattle.rustkeys_base.proofs.expansion.expand_rustc.Given as goal

-- what the words so far become
abbrev pub invariant-loop-word : goal.invariant-loop-word
invariant-loop-word g l =
    record {
      told : l.out.items ≡ expanded_by_rustc l.dir (g.F.Files.tree l.fn.files) (take l.word-index l.words);
      known : AreTrue l.known (words_in (g.F.Files.tree l.fn.files));
      tree : g.F.Files.tree l.files ≡ g.F.Files.tree l.fn.files;
      steady : g.F.Files.failed l.files ≡ g.F.Files.failed l.fn.files;
    }
