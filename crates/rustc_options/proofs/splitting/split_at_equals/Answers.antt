use Rattle.std.proofs.Common.{◌≡◌, None, Some, suc, ◌+◌, take, drop, sym, rules, tests, arith, add-one}
use Rattle.std.proofs.lemmas.List.{take-take}
use Rattle.std.proofs.lemmas.Iterator.{YieldsList-from_slice}
use Rattle.std.proofs.lemmas.Iterator.Search.{position_from_yields_List}
use Rattle.rustc_options.specs.Splitting.{before_equals, after_equals}
use Rattle.rustc_options.proofs.CutLemmas.{is_equals, cut-at, no-cut, whole-before}
use Rattle.rustc_options.proofs.splitting.split_at_equals.Goals as goal

none : (c : goal.In-None) → after_equals c.args.word ≡ None
none c = no-cut c.args.word (position_from_yields_List is_equals _ _ _ c.in-None.ensures.ran (YieldsList-from_slice c.args.word (cc)) (λ x b q k. search (rules, tests)))

pub returns-in-None-clause-before : goal.returns-in-None-clause-before
returns-in-None-clause-before c = sym (whole-before c.args.word (none c))

pub returns-in-None-clause-after : goal.returns-in-None-clause-after
returns-in-None-clause-after c = sym (none c)

cut : (c : goal.After-from_vec-in-Some) → (take c.in-Some.at c.args.word ≡ before_equals c.args.word) × (after_equals c.args.word ≡ Some (drop (suc c.in-Some.at) c.args.word))
cut c = cut-at c.args.word c.in-Some.at (position_from_yields_List is_equals _ _ _ c.in-Some.ensures.ran (YieldsList-from_slice c.args.word (cc)) (λ x b q k. search (rules, tests)))

pub returns-in_ok-after-in-Some-clause-before : goal.returns-in_ok-after-in-Some-clause-before
returns-in_ok-after-in-Some-clause-before c =
    let twice = take-take c.in-Some.at (c.in-Some.at + 1) c.args.word (omega arith) in
    let before : take c.in-Some.at c.args.word ≡ before_equals c.args.word = (cut c).0 in
    grind (arith, twice, before)

pub returns-in_ok-after-in-Some-clause-after : goal.returns-in_ok-after-in-Some-clause-after
returns-in_ok-after-in-Some-clause-after c =
    let after : after_equals c.args.word ≡ Some (drop (c.in-Some.at + 1) c.args.word) = rw add-one (cut c).1 in
    grind (arith, after)
