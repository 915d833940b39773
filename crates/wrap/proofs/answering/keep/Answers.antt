use Rattle.std.proofs.Common.{◌≡◌, Bool, true, false, refl, ap, subst, sym, ◌∙◌}
use Rattle.wrap_keys.specs.Sizes.{is_within, size_of}
use Rattle.wrap_base.specs.contracts.store_key.StoreKeyPartialEq.TheImpl as key_eq
use Rattle.wrap.specs.Steps.{IsKept}
use Rattle.wrap.proofs.answering.keep.Goals as goal

pub returns-then-is_within : goal.returns-then-is_within
returns-then-is_within g c =
    let within : true ≡ is_within c.args.max_kept (size_of c.args.pairs) = sym c.if-is_within.true ∙ c.is_within.ensures ∙ ap (λ pairs. is_within c.args.max_kept (size_of pairs)) c.as_slice.ensures in
    subst (λ (b : Bool). IsKept key_eq.ghosts.eq b (g.O.Store.shelf c.args.objects.now) (g.O.Store.shelf c.put.new.self) c.args.key c.args.pairs) within (c.put.result, c.put.ensures)

pub returns-else-is_within : goal.returns-else-is_within
returns-else-is_within g c =
    let within : false ≡ is_within c.args.max_kept (size_of c.args.pairs) = sym c.if-is_within.false ∙ c.is_within.ensures ∙ ap (λ pairs. is_within c.args.max_kept (size_of pairs)) c.as_slice.ensures in
    subst (λ (b : Bool). IsKept key_eq.ghosts.eq b (g.O.Store.shelf c.args.objects.now) (g.O.Store.shelf c.args.objects.now) c.args.key c.args.pairs) within refl
