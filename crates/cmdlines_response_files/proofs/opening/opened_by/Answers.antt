use Rattle.std.proofs.Common.{◌≡◌, IfOk, Option, Some, true, false, sym, subst}
use Rattle.cmdlines_response_files.specs.Chains.{is_open}
use Rattle.cmdlines_response_files.specs.Styles.{path_of}
use Rattle.cmdlines_response_files.specs.declared.opening.Opened.{Opened}
use Rattle.cmdlines_response_files.proofs.OpeningLaws.{opens_arguments, opens_none}
use Rattle.cmdlines_response_files.proofs.opening.opened_by.Goals as goal

pub returns-then-holds-clause-opened : goal.returns-then-holds-clause-opened
returns-then-holds-clause-opened g c =
    let tree = g.F.Files.tree c.args.files.now in
    let named : path_of c.args.style c.args.dir.now c.args.word.now ≡ Some c.in-Some.name = cc (c.in_ok-name.ensures, c.in-Some.is, c.as_bytes.ensures) in
    let held : is_open c.args.chain.now c.in-Some.name ≡ true = cc (c.holds.ensures, c.if-holds.true) in
    sym (opens_none c.args.style c.args.dir.now (is_open c.args.chain.now) tree c.args.word.now c.in-Some.name named held)

pub returns-clause-opened : goal.returns-clause-opened
returns-clause-opened g c =
    let tree = g.F.Files.tree c.args.files.now in
    let named : path_of c.args.style c.args.dir.now c.args.word.now ≡ Some c.in-Some.name = cc (c.in_ok-name.ensures, c.in-Some.is, c.as_bytes.ensures) in
    let held : is_open c.args.chain.now c.in-Some.name ≡ false = cc (c.holds.ensures, c.if-holds.false) in
    subst (λ (o : Option Opened). IfOk c.opened_at.result (λ found. found ≡ o)) (sym (opens_arguments c.args.style c.args.dir.now (is_open c.args.chain.now) tree c.args.word.now c.in-Some.name named held)) c.opened_at.ensures.opened
