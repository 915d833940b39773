use Rattle.std.proofs.Common.{◌≡◌, ◌++◌}
use Rattle.base_files.specs.Bytes.{Bytes}
use Rattle.cmdlines_response_files.specs.Asking.{IsAskedFor}
use Rattle.cmdlines_response_files.specs.Chains.{is_open}
use Rattle.cmdlines_response_files.specs.Closed.{without}
use Rattle.cmdlines_response_files.specs.Expansion.{expanded}
use Rattle.cmdlines_response_files.specs.Known.{AreTrue, arguments_at}
use Rattle.cmdlines_response_files.specs.Unread.{parts_of}
use Rattle.cmdlines_response_files.proofs.UnreadLaws.{AskFor, become, turns_left}
use Rattle.cmdlines_response_files.proofs.expansion.expand_file.Given as goal

-- what is out, and what is left to read becomes, is what the whole file becomes; and it asks for no file that the whole doesn't
abbrev pub invariant-loop-part : goal.invariant-loop-part
invariant-loop-part g l =
    let tree = g.F.Files.tree l.fn.files in
    let closed = without l.fn.file.name tree in
    let held = is_open l.chain in
    let parts = parts_of l.unread in
    record {
      told : l.out.items ++ become l.style l.dir tree held parts ≡ l.fn.out.items ++ expanded l.style l.dir closed l.fn.file.words;
      asked : (name : Bytes) → AskFor l.style l.dir tree held parts name → IsAskedFor l.style l.dir closed l.fn.file.words name;
      known : AreTrue l.known (arguments_at l.style tree);
      tree : g.F.Files.tree l.files ≡ tree;
      steady : g.F.Files.failed l.files ≡ g.F.Files.failed l.fn.files;
    }

-- a turn for each word that is left, in files that aren't open yet too, and one for each end
abbrev pub decreases-loop-part : goal.decreases-loop-part
decreases-loop-part g l = turns_left l.style l.dir (g.F.Files.tree l.fn.files) (is_open l.chain) (parts_of l.unread)
