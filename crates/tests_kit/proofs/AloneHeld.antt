-- When a store that drops all but what is put keeps all.
use Rattle.std.proofs.Common.{◌≡◌, ◌↔◌, Bool, true, false, Option, Some, None, IsSome, refl, ap, sym, subst, ◌∙◌, cond}
use Rattle.ckeys_base.specs.Shelf.{KeepsKeys}
use Rattle.tests_kit.specs.Alone.{IsAlone}

none_of : {V : Type 0} (o : Option V) → (IsSome o → ⊥) → o ≡ None
none_of None never = refl
none_of (Some v) never = absurd (never refl)

nothing_is_some : {V : Type 0} (o : Option V) → o ≡ None → IsSome o → ⊥
nothing_is_some o none some = let never = rw none at some in cc

-- what is held after a removal
no_rest : {V : Type 0} (b : Bool) (old rest : Option V) → rest ≡ cond b None old → (b ≡ false → old ≡ None) → rest ≡ None
no_rest true old rest is alone = is
no_rest false old rest is alone = is ∙ alone refl

-- where one pair is removed and then all are dropped, all is kept exactly where nothing else was held
pub drops_alone : {K V : Type 0} (test : K → Bool) (old rest new : K → Option V)
    → ((q : K) → rest q ≡ cond (test q) None (old q)) → ((q : K) → new q ≡ None)
    → (before after : Bool) → ((after ≡ true) ↔ ((before ≡ true) × KeepsKeys rest new))
    → (after ≡ true) ↔ ((before ≡ true) × IsAlone test old)
drops_alone {K} test old rest new removed gone before after kept = (
  λ h. let p = kept.0 h in
      (p.0, λ q other. none_of (old q) (λ some. nothing_is_some (new q) (gone q) (p.1 q (there q other some)))),
  λ p. kept.1 (p.0, λ q some. absurd (nothing_is_some (rest q) (no_rest (test q) (old q) (rest q) (removed q) (p.1 q)) some)),
) where
  there : (q : K) → test q ≡ false → IsSome (old q) → IsSome (rest q)
  there q other some = subst IsSome (sym (removed q ∙ ap (λ b. cond b None (old q)) other)) some
