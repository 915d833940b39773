-- A store that was empty and was given one pair holds that pair, and no other.
use Rattle.std.proofs.Common.{◌≡◌, Bool, true, Option, Some, None, Result, Ok, Err, ◌⊎◌, inl, inr, sym, subst, ◌∙◌}
use Rattle.std.specs.Prelude.{◌↔◌, IsOk, MatchResult}
use Rattle.ckeys_base.specs.Shelf.{Puts, Shelf}
use Rattle.wrap_replay.specs.Kept.{Holds}

abbrev pub some_pair : {K V : Type 0} → K → V → Option (K × V)
some_pair key value = Some (key, value)

was_ok : {A B : Type 0} (r : Result A B) (P : A → Type 0) (Q : B → Type 0) → IsOk r → MatchResult r P Q → (a : A) × P a
was_ok (Ok a) P Q h m = (a, m)
was_ok (Err e) P Q h m = absurd cc

module _ {K V : Type 0} (eq : K → K → Bool) (tied : (a b : K) → (eq a b ≡ true) ↔ (a ≡ b)) (old new : Shelf K V) (own : K) (value : V) (result : Result (Unit {0}) (K × V)) (empty : (q : K) → old.held q ≡ None) (puts : Puts eq old new own value result) where
  one_pair : (key : K) (pairs : V) → (old.held key ≡ Some pairs) ⊎ ((eq key own ≡ true) × (pairs ≡ value)) → some_pair own value ≡ some_pair key pairs
  one_pair key pairs (inl e) = let clash : None ≡ Some pairs = sym (empty key) ∙ e in absurd cc
  one_pair key pairs (inr p) = let same : key ≡ own = (tied key own).0 p.0 in λ i. Some (sym same i, sym p.1 i)

  abbrev IsHeld : Option (K × V) → Type 0
  IsHeld None = Unit {0}
  IsHeld (Some pair) = new.held pair.0 ≡ Some pair.1

  own_held : new.kept ≡ true → new.held own ≡ Some value
  own_held kept = (was_ok result (λ u. new.held own ≡ Some value) _ (puts.kept.0 kept).2 puts.outcome).1

  pub holds_this : Holds (some_pair own value) new
  holds_this = record {
    only = λ key pairs h. one_pair key pairs (puts.gains key pairs h);
    all = λ kept key pairs e. subst IsHeld e (own_held kept);
  }

-- and one that is empty holds nothing
pub holds_nothing : {K V : Type 0} (shelf : Shelf K V) → ((q : K) → shelf.held q ≡ None) → Holds None shelf
holds_nothing {K} {V} shelf empty = record {
  only = λ key pairs h. let clash : None ≡ Some pairs = sym (empty key) ∙ h in absurd cc;
  all = λ kept key pairs e. absurd (none_is_no_pair (key, pairs) e);
}
  where
    none_is_no_pair : (pair : K × V) → None ≡ Some pair → ⊥
    none_is_no_pair pair e = cc
