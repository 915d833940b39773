use Rattle.wrap_base.specs.Commands.{named_by}
use Rattle.wrap_replay.proofs.WorldSteps.{answers_named, grows_named, tells_named}
use Rattle.wrap_replay.proofs.replayed.replayed.Goals as goal

pub returns-clause-outputs : goal.returns-clause-outputs
returns-clause-outputs g c = λ world gives.
    let tool = c.args.tool.now in
    let tree = g.F.Files.tree c.args.files.now in
    let request = c.args.request.now in
    answers_named g.H.HashState.digest_of c.args.session.now.max_kept c.store_keys_tell_records.ensures tool.text tool.outputs tool.rustc world tree c.args.session.now.settings request _ _ _ _ _ _ _ _ _ (named_by request.compiler) gives (c.serve.ensures.turn.asked, c.serve.ensures.answered.says)

pub returns-clause-invariant : goal.returns-clause-invariant
returns-clause-invariant g c = λ world gives.
    let tool = c.args.tool.now in
    let tree = g.F.Files.tree c.args.files.now in
    let request = c.args.request.now in
    grows_named g.H.HashState.digest_of c.args.session.now.max_kept c.store_keys_tell_records.ensures tool.text tool.outputs tool.rustc world tree c.args.session.now.settings request _ _ _ _ _ _ _ _ _ (named_by request.compiler) gives (c.serve.ensures.turn.asked, c.serve.ensures.answered.says)

pub returns-clause-dep_info : goal.returns-clause-dep_info
returns-clause-dep_info g c = λ world gives.
    let tool = c.args.tool.now in
    let tree = g.F.Files.tree c.args.files.now in
    let request = c.args.request.now in
    tells_named g.H.HashState.digest_of c.args.session.now.max_kept c.store_keys_tell_records.ensures tool.text tool.outputs tool.rustc world tree c.args.session.now.settings request _ _ _ _ _ _ _ _ _ (named_by request.compiler) gives (c.serve.ensures.turn.asked, c.serve.ensures.answered.says)

pub returns-clause-says : goal.returns-clause-says
returns-clause-says g c = c.serve.ensures.answered.says

pub returns-clause-asked : goal.returns-clause-asked
returns-clause-asked g c = c.serve.ensures.turn.asked

pub returns-clause-meaning : goal.returns-clause-meaning
returns-clause-meaning g c = c.serve.ensures.answered.untouched.meaning

pub returns-clause-tree : goal.returns-clause-tree
returns-clause-tree g c = c.serve.ensures.answered.untouched.tree
