use Rattle.std.proofs.Common.{◌≡◌, true, false, sym, subst}
use Rattle.sccache_recorded_builds.specs.Beware.{AreOnce, is_among, option_of}
use Rattle.sccache_recorded_builds.proofs.Texts.{named_already, once_pushed}
use Rattle.sccache_recorded_builds.proofs.beware.note_option.Goals as goal

pub returns-then-contains-clause-held : goal.returns-then-contains-clause-held
returns-then-contains-clause-held c =
    let among =
    subst (λ items. is_among c.in-Some.option.now items ≡ true) c.deref.ensures.value
    (sym c.if-contains.ensures.value) in
    named_already c.args.found.now.items c.in-Some.option.now (option_of c.args.word.now)
    c.in-Some.ensures among

pub returns-clause-once : goal.returns-clause-once
returns-clause-once c =
    let new =
    subst (λ items. is_among c.in-Some.option.now items ≡ false) c.deref.ensures.value
    (sym c.if-contains.ensures.value) in
    subst AreOnce (sym c.in_ok-push.ensures.items)
    (once_pushed c.args.found.now.items c.in-Some.option c.requires new)
