use Rattle.std.proofs.Common.{◌≡◌, ◌++◌, drop}
use Rattle.cmdlines_response_files.specs.Expansion.{expanded}
use Rattle.cmdlines_response_files.specs.Known.{AreTrue, arguments_at}
use Rattle.cmdlines_response_files.proofs.expansion.expand.Given as goal

-- what is out, and what the words that are left become, is what all words become
abbrev pub invariant-loop-word : goal.invariant-loop-word
invariant-loop-word g l =
    let become = expanded l.style l.dir (g.F.Files.tree l.fn.files) in
    record {
      told : l.out.items ++ become (drop l.word-index l.words) ≡ become l.fn.words;
      known : AreTrue l.known (arguments_at l.style (g.F.Files.tree l.fn.files));
      tree : g.F.Files.tree l.files ≡ g.F.Files.tree l.fn.files;
      steady : g.F.Files.failed l.files ≡ g.F.Files.failed l.fn.files;
    }
