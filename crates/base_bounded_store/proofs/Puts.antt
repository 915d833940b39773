-- A put into a cache that moves the pair to the front, or pushes out the last one.
use Rattle.std.proofs.Common.{◌≡◌, ℕ, zero, suc, ◌-◌, ◌≤◌, Bool, true, false, cond, List, [], ◌∷◌, length, take, Option, Some, None, IsSome, ◌⊎◌, inl, inr, refl, sym, ◌∙◌, subst}
use Rattle.std.specs.Option.{option_map_or}
use Rattle.std.specs.Cmp.{IsEquivalence}
use Rattle.std.proofs.lemmas.List.{take_all}
use Rattle.std.specs.Map.{lookup, lookup_entry, remove_entry}
use Rattle.lru.specs.LruCache.{LruCache, put_entries}
use Rattle.base_bounded_store.proofs.Promoted.{passes, moved}

module _ {K V : Type 0} (eq : K → K → Bool) (laws : IsEquivalence eq) where
  -- each key that is found in a front was found with the same value
  front_within : (q : K) (n : ℕ) (es : List (K × V)) (x : V) → lookup (eq q) (take n es) ≡ Some x → lookup (eq q) es ≡ Some x
  front_within q zero es x h = cc
  front_within q (suc n) [] x h = cc
  front_within q (suc n) (e ∷ es) x h = at (eq q e.0) h (front_within q n es x)
    where
      at : (b : Bool) → cond b (Some e.1) (lookup (eq q) (take n es)) ≡ Some x → (lookup (eq q) (take n es) ≡ Some x → lookup (eq q) es ≡ Some x) → cond b (Some e.1) (lookup (eq q) es) ≡ Some x
      at true h on = h
      at false h on = on h

  some_cond : (b : Bool) (x : V) (o : Option V) → IsSome o → IsSome (cond b (Some x) o)
  some_cond true x o h = refl
  some_cond false x o h = h

  -- with its pair moved to the front under a new value, each key is still there
  moved_keys : (k q : K) (es : List (K × V)) (f : K × V) (v : V) → lookup_entry (eq k) es ≡ Some f → IsSome (lookup (eq q) es) → IsSome (cond (eq q f.0) (Some v) (lookup (eq q) (remove_entry (eq k) es)))
  moved_keys k q [] f v h s = cc
  moved_keys k q (e ∷ es) f v h s = at (eq k e.0) refl h (λ t. moved_keys k q es f v t)
    where
      at : (b : Bool) → eq k e.0 ≡ b → cond b (Some e) (lookup_entry (eq k) es) ≡ Some f → (lookup_entry (eq k) es ≡ Some f → IsSome (lookup (eq q) es) → IsSome (cond (eq q f.0) (Some v) (lookup (eq q) (remove_entry (eq k) es)))) → IsSome (cond (eq q f.0) (Some v) (lookup (eq q) (cond b es (e ∷ remove_entry (eq k) es))))
      at true t h on = let same : e ≡ f = cc in subst (λ (y : K × V). IsSome (cond (eq q y.0) (Some v) (lookup (eq q) es))) same (front (eq q e.0) s)
        where
          front : (b : Bool) → IsSome (cond b (Some e.1) (lookup (eq q) es)) → IsSome (cond b (Some v) (lookup (eq q) es))
          front true s = refl
          front false s = s
      at false t h on = rest (eq q f.0) (eq q e.0) s (on h)
        where
          rest : (b c : Bool) → IsSome (cond c (Some e.1) (lookup (eq q) es)) → (IsSome (lookup (eq q) es) → IsSome (cond b (Some v) (lookup (eq q) (remove_entry (eq k) es)))) → IsSome (cond b (Some v) (cond c (Some e.1) (lookup (eq q) (remove_entry (eq k) es))))
          rest true c s on = refl
          rest false true s on = refl
          rest false false s on = on s

  module _ (c : LruCache K V) (k : K) (v : V) where
    abbrev after : Option (K × V) → List (K × V)
    after o = option_map_or (λ e. (e.0, v) ∷ remove_entry (eq k) c.entries) o ((k, v) ∷ take (c.cap - 1) c.entries)

    keys_at : (q : K) (o : Option (K × V)) → lookup_entry (eq k) c.entries ≡ o → IsSome o ⊎ (length c.entries ≤ c.cap - 1) → IsSome (lookup (eq q) c.entries) → IsSome (lookup (eq q) (after o))
    keys_at q None h room s = elim room [
      | inl n ↦ cc
      | inr fits ↦ some_cond (eq q k) v (lookup (eq q) (take (c.cap - 1) c.entries)) (subst (λ (l : List (K × V)). IsSome (lookup (eq q) l)) (sym (take_all (c.cap - 1) c.entries fits)) s)
    ]
    keys_at q (Some f) h room s = moved_keys k q c.entries f v h s

    -- every old key is still there, where the key was held or the cache isn't full
    pub put_keys : IsSome (lookup_entry (eq k) c.entries) ⊎ (length c.entries ≤ c.cap - 1) → (q : K) → IsSome (lookup (eq q) c.entries) → IsSome (lookup (eq q) (put_entries eq c k v))
    put_keys room q s = keys_at q (lookup_entry (eq k) c.entries) refl room s

    abbrev Gain : K → V → Type 0
    Gain q x = (lookup (eq q) c.entries ≡ Some x) ⊎ ((eq q k ≡ true) × (x ≡ v))

    new_first : (q : K) (x : V) (b : Bool) → eq q k ≡ b → cond b (Some v) (lookup (eq q) (take (c.cap - 1) c.entries)) ≡ Some x → Gain q x
    new_first q x true t h = inr (t, cc)
    new_first q x false t h = inl (front_within q (c.cap - 1) c.entries x h)

    old_first : (q : K) (x : V) (f : K × V) → lookup_entry (eq k) c.entries ≡ Some f → (b : Bool) → eq q f.0 ≡ b → cond b (Some v) (lookup (eq q) (remove_entry (eq k) c.entries)) ≡ Some x → Gain q x
    old_first q x f h true t e = inr (laws.congr q f.0 k t ∙ sym (laws.congr k f.0 k (passes (eq k) c.entries f h)) ∙ laws.refl k, cc)
    old_first q x f h false t e = inl (sym (rw t at (moved eq laws k q c.entries f h)) ∙ e)

    gains_at : (q : K) (x : V) (o : Option (K × V)) → lookup_entry (eq k) c.entries ≡ o → lookup (eq q) (after o) ≡ Some x → Gain q x
    gains_at q x None h e = new_first q x (eq q k) refl e
    gains_at q x (Some f) h e = old_first q x f h (eq q f.0) refl e

    -- at most the pair is gained
    pub put_gains : (q : K) (x : V) → lookup (eq q) (put_entries eq c k v) ≡ Some x → Gain q x
    put_gains q x e = gains_at q x (lookup_entry (eq k) c.entries) refl e
