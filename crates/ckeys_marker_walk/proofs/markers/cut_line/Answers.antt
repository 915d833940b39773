use Rattle.std.proofs.Common.{◌+◌, ℕ, length, take, drop, ap, sym, ◌∙◌, arith}
use Rattle.std.proofs.lemmas.List.{take_all, take_rest, drop_all}
use Rattle.std.specs.List.{position_or_len}
use Rattle.ckeys_marker_walk.specs.Lines.{is_line_end}
use Rattle.ckeys_marker_walk.proofs.Cutting.{end_found, none_found}
use Rattle.ckeys_marker_walk.proofs.markers.cut_line.Goals as goal

pub returns-in-Some-clause-line : goal.returns-in-Some-clause-line
returns-in-Some-clause-line c = ap (λ (n : ℕ). take n c.args.text.now) (sym (end_found c.args.text.now c.in-Some.end c.in-Some.ensures))

pub returns-in-Some-clause-after : goal.returns-in-Some-clause-after
returns-in-Some-clause-after c = take_rest c.args.text.now (c.in-Some.end + 1) ∙ ap (λ (n : ℕ). drop (n + 1) c.args.text.now) (sym (end_found c.args.text.now c.in-Some.end c.in-Some.ensures))

pub returns-in-None-clause-line : goal.returns-in-None-clause-line
returns-in-None-clause-line c =
    let none = none_found c.args.text.now c.in-None.ensures in
    sym (ap (λ (n : ℕ). take n c.args.text.now) none ∙ take_all (length c.args.text.now) c.args.text.now (omega arith))

pub returns-in-None-clause-after : goal.returns-in-None-clause-after
returns-in-None-clause-after c =
    let none = none_found c.args.text.now c.in-None.ensures in
    take_rest c.args.text.now (length c.args.text.now) ∙ drop_all (length c.args.text.now) c.args.text.now (omega arith) ∙ sym (drop_all (position_or_len is_line_end c.args.text.now + 1) c.args.text.now (omega (arith, none)))
