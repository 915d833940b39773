use Rattle.std.proofs.Common.{length, ap, sym, ◌∙◌, arith}
use Rattle.ckeys_base.specs.KeptParts.{parts_from}
use Rattle.ckeys_base.specs.FolderPlaces.{longest}
use Rattle.ckeys_base.specs.FromTheLeft.{places_of}
use Rattle.ckeys_base.specs.Stripping.{filled}
use Rattle.ckeys_base.proofs.Cuts.{parts-next}
use Rattle.ckeys_base.proofs.FilledSlices.{filled-none, filled-range}
use Rattle.ckeys_base.proofs.strip.slices.KeptSlicesIterator.next.Goals as goal

pub returns-then-from-end-clause-steps : goal.returns-then-from-end-clause-steps
returns-then-from-end-clause-steps c =
    let s = c.loop-self.self in
    let width = longest (places_of s.kind) s.folders.now s.text.now in
    let place = c.next_place-end in
    let later = parts_from width s.text.now c.next_start-self.result in
    sym c.loop-self.invariant
    ∙ ap filled (parts-next width s.text.now s.next c.next_start-self.result c.in-Some.from place.result c.in-Some.is c.next_start-self.ensures.value place.ensures.within.0 place.ensures.within.1 place.ensures.none_before place.ensures.found)
    ∙ filled-range s.text.now c.in-Some.from place.result later c.if-from-end.true place.ensures.within.1

pub returns-then-from-end-clause-goes : goal.returns-then-from-end-clause-goes
returns-then-from-end-clause-goes c = let e = returns-then-from-end-clause-steps c in record { on = λ _. (tt, tt, omega (arith, ap length e)); keeps = tt; rests = λ _. tt }

pub loop-self-smaller : goal.loop-self-smaller
loop-self-smaller c =
    let s = c.loop-self.self in
    let width = longest (places_of s.kind) s.folders.now s.text.now in
    let place = c.next_place-end in
    omega (arith, ap length (parts-next width s.text.now s.next c.next_start-self.result c.in-Some.from place.result c.in-Some.is c.next_start-self.ensures.value place.ensures.within.0 place.ensures.within.1 place.ensures.none_before place.ensures.found))

pub loop-self-preserved : goal.loop-self-preserved
loop-self-preserved c =
    let s = c.loop-self.self in
    let width = longest (places_of s.kind) s.folders.now s.text.now in
    let place = c.next_place-end in
    let later = parts_from width s.text.now c.next_start-self.result in
    sym (ap filled (parts-next width s.text.now s.next c.next_start-self.result c.in-Some.from place.result c.in-Some.is c.next_start-self.ensures.value place.ensures.within.0 place.ensures.within.1 place.ensures.none_before place.ensures.found)
    ∙ filled-none s.text.now c.in-Some.from place.result later (omega arith) place.ensures.within.1) ∙ c.loop-self.invariant
