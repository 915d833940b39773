use Rattle.std.proofs.Common.{◌≡◌, ◌∙◌, ap, sym, false}
use Rattle.ckeys_records.specs.Params.{is_cached}
use Rattle.ckeys_records.proofs.params.tell_cached.Goals as goal

pub returns-else-is_cached : goal.returns-else-is_cached
returns-else-is_cached c =
    let cached : is_cached (c.args.name.now, c.args.value.now) ≡ false = ap (λ n. is_cached (n, c.args.value.now)) (sym c.as_bytes.ensures) ∙ sym (c.is_cached.ensures c.args.value.now) ∙ c.if-is_cached.false in
    rw cached (record { fit = tt })
