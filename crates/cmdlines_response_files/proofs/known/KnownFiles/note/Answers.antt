use Rattle.cmdlines_response_files.specs.Known.{known_at}
use Rattle.cmdlines_response_files.proofs.KnownFacts.{noted_is_true}
use Rattle.cmdlines_response_files.proofs.known.KnownFiles.note.Goals as goal

pub returns : goal.returns
returns c = λ arguments_at known is_so path found e.
    noted_is_true c.args.path.now path c.args.arguments.now found (known_at c.args.self.now path) _ arguments_at (cc (c.in_ok-insert.ensures.updates.0 path, c.in_ok-clone.ensures.cases, c.in_ok-copy_of.ensures)) is_so (known path found) e
