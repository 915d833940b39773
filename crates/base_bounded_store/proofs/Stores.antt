-- What a put does to a bounded store.
use Rattle.std.proofs.Common.{◌≡◌, ◌↔◌, ◌-◌, ◌<◌, ◌≤◌, Bool, true, false, List, ◌∷◌, length, Option, Some, None, IsSome, Ok, Err, ◌⊎◌, inl, inr, refl, sym, ap, ◌∙◌, subst, arith}
use Rattle.std.specs.Cmp.{IsEquivalence}
use Rattle.std.specs.Map.{lookup}
use Rattle.std.proofs.lemmas.Bool.{cases_lt}
use Rattle.std.proofs.lemmas.List.{take_all}
use Rattle.lru.specs.LruCache.{LruCache, IsValid, lru_cache, promoted, put_entries}
use Rattle.lru.proofs.CallerLemmas.{lookup-put_entries}
use Rattle.base_files.specs.Bytes.{ticked}
use Rattle.ckeys_base.specs.Shelf.{Puts}
use Rattle.base_bounded_store.specs.LruStores.{HasRoomFor, MakesFirst, PutsFirst, shelf_of, uses_of}
use Rattle.base_bounded_store.specs.declared.lru_store.LruStore.{LruStore}
use Rattle.base_bounded_store.proofs.Puts.{put_gains, put_keys}
use Rattle.base_bounded_store.proofs.Order.{an_entry, held_there, loses, passed_by, promoted_found, promoted_missed, put_dropped, put_new, put_replaced}

module _ {K V : Type 0} (eq : K → K → Bool) (laws : IsEquivalence eq) (old new : LruStore K V) (k : K) where
  -- a look-up that found the key's pair first
  pub makes_first : IsValid eq old.cache → new.cache ≡ lru_cache (promoted (eq k) old.cache.entries) old.cache.cap → MakesFirst eq old new k
  makes_first valid is = record {
    found = λ before pair after e t. ap (λ (c : LruCache K V). c.entries) is ∙ promoted_found eq laws k old.cache.entries before pair after valid.0 e t;
    missed = λ h. ap (λ (c : LruCache K V). c.entries) is ∙ promoted_missed eq laws k old.cache.entries h;
    capacity = ap (λ (c : LruCache K V). c.cap) is;
  }

  module _ (v : V) (valid : IsValid eq old.cache) where
    abbrev Keeps : Type 0
    Keeps = (q : K) → IsSome (lookup (eq q) old.cache.entries) → IsSome (lookup (eq q) (put_entries eq old.cache k v))

    -- where there is room, each key is kept
    keeps_from_room : HasRoomFor eq old k → Keeps
    keeps_from_room room = put_keys eq laws old.cache k v (elim room [
      | inl s ↦ inl (an_entry (eq k) old.cache.entries s)
      | inr l ↦ inr (omega arith)
    ])

    room_at : (o : Option V) → lookup (eq k) old.cache.entries ≡ o → (length old.cache.entries < old.cache.cap) ⊎ (old.cache.cap ≤ length old.cache.entries) → Keeps → HasRoomFor eq old k
    room_at (Some x) h counts keeps = inl (rw h refl)
    room_at None h counts keeps = elim counts [
      | inl l ↦ inr l
      | inr full ↦ absurd (loses eq laws old.cache k v valid.0 h (omega (arith, valid.1)) valid.2 keeps)
    ]

    -- where each key is kept, there is room
    room_from_keeps : Keeps → HasRoomFor eq old k
    room_from_keeps = room_at (lookup (eq k) old.cache.entries) refl (cases_lt (length old.cache.entries) old.cache.cap)

    no_room : lookup (eq k) old.cache.entries ≡ None → length old.cache.entries ≡ old.cache.cap → HasRoomFor eq old k → ⊥
    no_room h full room = elim room [
      | inl s ↦ let s' = rw h at s in cc
      | inr l ↦ omega arith
    ]

    module _ (is : new.cache ≡ lru_cache (put_entries eq old.cache k v) old.cache.cap) (kept : (new.kept ≡ true) ↔ ((old.kept ≡ true) × HasRoomFor eq old k)) where
      entries : uses_of new ≡ put_entries eq old.cache k v
      entries = ap (λ (c : LruCache K V). c.entries) is

      pub stored : new.cleared ≡ old.cleared → new.puts ≡ ticked old.puts → new.gets ≡ old.gets → Puts eq (shelf_of eq old) (shelf_of eq new) k v (Ok tt)
      stored clears counts asked = record {
        gains = λ q x h. put_gains eq laws old.cache k v q x (sym (ap (lookup (eq q)) entries) ∙ h);
        outcome = ap (lookup (eq k)) entries ∙ lookup-put_entries eq old.cache k v laws;
        kept = (
          λ h. let p = kept.0 h in (p.0, λ q s. subst (λ (l : List (K × V)). IsSome (lookup (eq q) l)) (sym entries) (keeps_from_room p.1 q s), refl),
          λ p. kept.1 (p.0, room_from_keeps (λ q s. subst (λ (l : List (K × V)). IsSome (lookup (eq q) l)) entries (p.1 q s))),
        );
        steady = refl;
        cleared = clears;
        put = counts;
        got = asked;
      }

      pub in_order : PutsFirst eq old new k v (Ok tt)
      in_order = record {
        replaced = λ before pair after e t. (refl, entries ∙ put_replaced eq laws old.cache k v valid.0 before pair after e t);
        added = λ h l. entries ∙ put_new eq laws old.cache k v valid.0 h ∙ ap (λ (es : List (K × V)). (k, v) ∷ es) (take_all (old.cache.cap - 1) old.cache.entries (omega arith));
        dropped = λ h full others last e. (
          entries ∙ put_dropped eq laws old.cache k v valid.0 h full others last e,
          passed_by new.kept (λ t. no_room h full (kept.0 t).1),
        );
        refused = tt;
        capacity = ap (λ (c : LruCache K V). c.cap) is;
      }

    pub refused : (pair : K × V) → new.cache ≡ old.cache → new.kept ≡ false → (IsSome (lookup (eq k) old.cache.entries) → ⊥) → PutsFirst eq old new k v (Err pair)
    refused given is kept absent = record {
      replaced = λ before pair after e t. absurd (absent (held_there eq laws old.cache k v valid.0 before pair after e t));
      added = λ h l. tt;
      dropped = λ h full others last e. tt;
      refused = (ap (λ (c : LruCache K V). c.entries) is, kept);
      capacity = ap (λ (c : LruCache K V). c.cap) is;
    }
