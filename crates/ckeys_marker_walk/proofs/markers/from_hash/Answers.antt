use Rattle.std.proofs.Common.{◌+◌, ap, length, sym, ◌∙◌, arith}
use Rattle.std.proofs.lemmas.List.{take_rest, drop_all}
use Rattle.ckeys_marker_walk.proofs.Skipping.{sights-found, sights-nowhere}
use Rattle.ckeys_marker_walk.specs.Scanning.{sights}
use Rattle.ckeys_marker_walk.proofs.markers.from_hash.Goals as goal

pub returns-in-Some-clause-sights : goal.returns-in-Some-clause-sights
returns-in-Some-clause-sights c =
    ap sights (take_rest c.args.text.now (c.in-Some.end + 1))
    ∙ sights-found c.args.text.now c.in-Some.end (sym c.begins_with_hash.ensures ∙ c.if-begins_with_hash.false) c.in-Some.ensures

pub returns-in-None-clause-sights : goal.returns-in-None-clause-sights
returns-in-None-clause-sights c =
    ap sights (take_rest c.args.text.now (length c.args.text.now) ∙ drop_all (length c.args.text.now) c.args.text.now (omega arith))
    ∙ sym (sights-nowhere c.args.text.now (sym c.begins_with_hash.ensures ∙ c.if-begins_with_hash.false) c.in-None.ensures)
