use Rattle.std.proofs.Common.{rules, arith, refl}
use Rattle.std.proofs.lemmas.Str.{is_utf8-from_IsUtf8, IsUtf8-from_is_utf8}
use Rattle.cmdlines_base.proofs.SplittingLemmas.{not-split, split-in-two}
use Rattle.cmdlines_base.proofs.splitting.split_os_string_arg.Goals as goal

pub returns-in_default-clause-refused : goal.returns-in_default-clause-refused
returns-in_default-clause-refused c = (refl, grind (arith, is_utf8-from_IsUtf8, IsUtf8-from_is_utf8))

pub returns-in-None-clause-split : goal.returns-in-None-clause-split
returns-in-None-clause-split c = not-split c.args.separator.now c.args.word c.in-Ok.text.now (search rules) c.in_ok-from_str-in-None.field-0 (search rules) c.in-None.ensures.cases

pub returns-in-None-clause-text : goal.returns-in-None-clause-text
returns-in-None-clause-text c = grind (arith, is_utf8-from_IsUtf8, IsUtf8-from_is_utf8)

pub returns-clause-split : goal.returns-clause-split
returns-clause-split c = split-in-two c.args.separator.now c.args.word c.in-Ok.text.now (search rules) c.in_ok-before-in-Some.before c.in_ok-after-in-Some.after c.in-Some.before c.in-Some.after (search rules) (search rules) c.in-Some.ensures.cases

pub returns-clause-text : goal.returns-clause-text
returns-clause-text c = grind (arith, is_utf8-from_IsUtf8, IsUtf8-from_is_utf8)
