use Rattle.std.proofs.Common.{◌≡◌, ◌∙◌, ap, sym, true, false}
use Rattle.ckeys_records.specs.Params.{is_cached}
use Rattle.ckeys_records.proofs.FeedLemmas.{fed-none, fed-alone}
use Rattle.ckeys_records.proofs.params.hash_cached.Goals as goal

pub returns-then-is_cached-clause-fed : goal.returns-then-is_cached-clause-fed
returns-then-is_cached-clause-fed g c =
    let cached : is_cached (c.args.name.now, c.args.value.now) ≡ true = ap (λ n. is_cached (n, c.args.value.now)) (sym c.as_bytes.ensures) ∙ sym (c.is_cached.ensures c.args.value.now) ∙ c.if-is_cached.true in
    let fed = rw (c.as_bytes-then-is_cached.ensures, c.as_bytes-then-is_cached-2.ensures) at c.hash_variable.ensures.fed in
    rw cached (fed-alone g.H.HashState.holds _ _ _ fed)

pub returns-else-is_cached-clause-fed : goal.returns-else-is_cached-clause-fed
returns-else-is_cached-clause-fed g c =
    let cached : is_cached (c.args.name.now, c.args.value.now) ≡ false = ap (λ n. is_cached (n, c.args.value.now)) (sym c.as_bytes.ensures) ∙ sym (c.is_cached.ensures c.args.value.now) ∙ c.if-is_cached.false in
    rw cached (fed-none g.H.HashState.holds c.args.digest.now)

pub returns-else-is_cached-clause-fit : goal.returns-else-is_cached-clause-fit
returns-else-is_cached-clause-fit g c =
    let cached : is_cached (c.args.name.now, c.args.value.now) ≡ false = ap (λ n. is_cached (n, c.args.value.now)) (sym c.as_bytes.ensures) ∙ sym (c.is_cached.ensures c.args.value.now) ∙ c.if-is_cached.false in
    rw cached tt
