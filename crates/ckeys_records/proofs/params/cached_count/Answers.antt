use Rattle.std.proofs.Common.{◌≡◌, ◌∙◌, ◌∷◌, length, ap, sym, true, false, arith, rules}
use Rattle.ckeys_records.specs.Params.{is_cached}
use Rattle.ckeys_records.proofs.FeedLemmas.{one-more, none-more}
use Rattle.ckeys_records.proofs.params.cached_count.Goals as goal

pub loop-variable-preserved-then-is_cached : goal.loop-variable-preserved-then-is_cached
loop-variable-preserved-then-is_cached c =
    let v = c.in-Some.variable.now in
    let cached : is_cached v ≡ true = ap (λ n. is_cached (n, v.1)) (sym c.as_bytes.ensures) ∙ sym (c.is_cached.ensures v.1) ∙ c.if-is_cached.true in
    let first : c.loop-variable.rest.now ≡ v ∷ c.in-Some.others.now = search rules in
    record {
      counted = one-more c.loop-variable.rest.now v c.in-Some.others.now c.loop-variable.count _ first c.loop-variable.invariant.counted cached;
      below = omega (arith, ap length first, c.loop-variable.invariant.below);
    }

pub loop-variable-preserved : goal.loop-variable-preserved
loop-variable-preserved c =
    let v = c.in-Some.variable.now in
    let not_cached : is_cached v ≡ false = ap (λ n. is_cached (n, v.1)) (sym c.as_bytes.ensures) ∙ sym (c.is_cached.ensures v.1) ∙ c.if-is_cached.false in
    let first : c.loop-variable.rest.now ≡ v ∷ c.in-Some.others.now = search rules in
    record {
      counted = none-more c.loop-variable.rest.now v c.in-Some.others.now c.loop-variable.count _ first c.loop-variable.invariant.counted not_cached;
      below = omega (arith, ap length first, c.loop-variable.invariant.below);
    }
