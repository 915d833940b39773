use Rattle.std.proofs.Common.{sym}
use Rattle.ckeys_base.proofs.EscapeReadings.{reading-escaped}
use Rattle.ckeys_base.proofs.unescape.ascii_unescape_default.Goals as goal

pub returns-in-Some-clause-undoes : goal.returns-in-Some-clause-undoes
returns-in-Some-clause-undoes c = λ plain small is.
    let only = rw c.in-Some.is at c.in_ok-plain.ensures.only in
    (sym (only plain (reading-escaped c.args.text.now plain small is)), λ f. cc)

pub returns-in-None-clause-refused : goal.returns-in-None-clause-refused
returns-in-None-clause-refused c = λ _. c.in_ok-plain.ensures.refused c.in-None.is

pub returns-in-None-clause-undoes : goal.returns-in-None-clause-undoes
returns-in-None-clause-undoes c = λ plain small is. (tt, λ _. c.in_ok-plain.ensures.refused c.in-None.is plain (reading-escaped c.args.text.now plain small is))
