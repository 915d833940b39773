use Rattle.base_snapshots.specs.contracts.files.SnapshotFilesFiles.TheImpl as snapshot
use Rattle.ckeys_include_records.specs.contracts.entry_key.EntryKeyPartialEq.TheImpl as entry_eq
use Rattle.wrap_base.specs.MapStores.{shelf_of}
use Rattle.wrap_replay.proofs.kept_session.answered.Goals as goal

pub returns-clause-outputs : goal.returns-clause-outputs
returns-clause-outputs g c = λ world gives record_kept entry records outputs earlier recorded is premises.
    let tree = snapshot.ghosts.tree c.args.files.now in
    let held = (shelf_of entry_eq.ghosts.eq c.args.session.entries.inner).held in
    c.replayed-answer.ensures.outputs world gives
    (c.records_of_earlier_calls_are_true.ensures world tree c.args.session.settings c.args.request.now held earlier
    (λ key held_record h. recorded key held_record (records.only key held_record h)) premises)
    earlier
    (λ key pairs h. is key pairs (outputs.only key pairs h))
    premises

pub returns-clause-dep_info : goal.returns-clause-dep_info
returns-clause-dep_info g c = c.replayed-answer.ensures.dep_info

pub returns-clause-asked : goal.returns-clause-asked
returns-clause-asked g c = c.replayed-answer.ensures.asked

pub returns-clause-says : goal.returns-clause-says
returns-clause-says g c = c.replayed-answer.ensures.says

pub returns-clause-meaning : goal.returns-clause-meaning
returns-clause-meaning g c = c.replayed-answer.ensures.meaning
