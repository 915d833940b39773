use Rattle.std.proofs.Common.{Ok, Result, subst}
use Rattle.base_files.specs.Fails.{FailsOn}
use Rattle.ckeys_records.specs.Meaning.{FailsIn}
use Rattle.wrap.specs.Account.{account_at}
use Rattle.wrap.specs.Telling.{Tells}
use Rattle.wrap_base.specs.declared.reason.Reason.{Reason}
use Rattle.wrap_fingerprints.specs.declared.fingerprint.Fingerprint.{Fingerprint}
use Rattle.wrap_uses.proofs.MissLemmas.{found_explains}
use Rattle.wrap_uses.proofs.misses.why_missed.Goals as goal

pub returns-in-Ok-clause-told : goal.returns-in-Ok-clause-told
returns-in-Ok-clause-told g c before was =
    let digest_of = g.H.HashState.digest_of in
    let a = account_at (g.T.Preprocessor.meaning c.args.tool.now) (g.F.Files.tree c.args.files.now) c.args.session.now.settings c.args.request.now in
    let on_file = FailsOn g.F.Files.tree g.F.Files.failed g.F.Files.fails_on c.args.files.now c.fingerprint.new.files in
    let device = FailsIn g.T.Preprocessor.meaning g.T.Preprocessor.failed g.T.Preprocessor.fails_in c.args.tool.now c.fingerprint.new.tool in
    let tells : Tells digest_of a on_file device (Ok (Ok c.in-Ok.made)) = subst (λ (told : Result Fingerprint Reason). Tells digest_of a on_file device (Ok told)) c.in-Ok.is c.in_ok-made.ensures.tells in
    found_explains digest_of c.fingerprints_tell_store_keys.ensures a on_file device c.in-Ok.made c.args.earlier.now before c.explain.result tells was c.explain.ensures.equal
