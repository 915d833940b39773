use Rattle.std.proofs.Common.{None}
use Rattle.base_files.specs.Fails.{FailsOn}
use Rattle.ckeys_records.specs.Faults.{FileCause, fault_by}
use Rattle.ckeys.proofs.CallLemmas.{files_cause}
use Rattle.ckeys_records.proofs.FaultLemmas.{on_exit, since}
use Rattle.ckeys.proofs.entry.includes_for.Goals as goal

pub returns-in_err-includes_of-in-Names-clause-cause : goal.returns-in_err-includes_of-in-Names-clause-cause
returns-in_err-includes_of-in-Names-clause-cause g c =
    let tree = g.F.Files.tree in
    let failed = g.F.Files.failed in
    let fails_on = g.F.Files.fails_on in
    let on_file = FailsOn tree failed fails_on c.args.files.now c.includes_of.new.files in
    let later = FailsOn tree failed fails_on c.walk.new.files c.includes_of.new.files in
    let fault = c.in_err-includes_of-in-Names.field-0.0 in
    on_exit (FileCause None on_file) c.from_residual-in_err-includes_of-in-Names.result (fault_by fault) c.from_residual-in_err-includes_of-in-Names.ensures.1
    (files_cause None on_file later (since tree failed fails_on c.args.files.now c.walk.new.files c.includes_of.new.files c.walk.ensures.tree c.in_ok-walk.ensures.steady) fault c.in_err-includes_of-in-Names.ensures.cause)
