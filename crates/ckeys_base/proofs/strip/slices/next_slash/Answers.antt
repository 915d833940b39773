use Rattle.std.proofs.Common.{◌≡◌, ◌+◌, ◌<◌, length, drop, arith, inl, inr, ap, ◌∙◌}
use Rattle.std.proofs.lemmas.Bool.{cases_lt}
use Rattle.std.proofs.lemmas.List.{length-drop, take_rest}
use Rattle.ckeys_base.specs.FolderPlaces.{longest}
use Rattle.ckeys_base.specs.FromTheLeft.{places_of}
use Rattle.ckeys_base.proofs.Slashes.{none-more}
use Rattle.ckeys_base.proofs.strip.slices.next_slash.Goals as goal

pub returns-then-longest_at-gt0-clause-none_before : goal.returns-then-longest_at-gt0-clause-none_before
returns-then-longest_at-gt0-clause-none_before c =
    let found = rw (take_rest c.args.text.now c.loop-slash.rest) at c.in-Some.ensures in
    none-more (places_of c.args.kind) c.args.folders.now c.args.text.now c.args.from c.loop-slash.rest c.in-Some.slash c.requires.slashes c.loop-slash.invariant.none found.0.before

pub loop-slash-preserved : goal.loop-slash-preserved
loop-slash-preserved c =
    let text = c.args.text.now in
    let at = c.loop-slash.rest + c.in-Some.slash in
    let found = rw (take_rest text c.loop-slash.rest) at c.in-Some.ensures in
    let within : c.in-Some.slash < length (drop c.loop-slash.rest text) = found.0.high in
    let before = none-more (places_of c.args.kind) c.args.folders.now text c.args.from c.loop-slash.rest c.in-Some.slash c.requires.slashes c.loop-slash.invariant.none found.0.before in
    let none_here : longest (places_of c.args.kind) c.args.folders.now text at ≡ 0 = omega arith in
    record {
      low = omega arith;
      high = omega (arith, length-drop c.loop-slash.rest text);
      none = λ k lo hi. elim (cases_lt k at) [
        | inl early ↦ before k lo early
        | inr late ↦ let here : k ≡ at = omega arith in ap (longest (places_of c.args.kind) c.args.folders.now text) here ∙ none_here
      ];
    }

pub returns-clause-none_before : goal.returns-clause-none_before
returns-clause-none_before c = λ k lo hi.
    let passed = rw (take_rest c.args.text.now c.loop-slash.rest) at c.in_default.ensures in
    none-more (places_of c.args.kind) c.args.folders.now c.args.text.now c.args.from c.loop-slash.rest (length (drop c.loop-slash.rest c.args.text.now)) c.requires.slashes c.loop-slash.invariant.none passed
    k lo (omega (arith, length-drop c.loop-slash.rest c.args.text.now))
