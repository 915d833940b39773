-- A look-up after the pair that was found went first.
use Rattle.std.proofs.Common.{◌≡◌, ℕ, Bool, true, false, cond, List, [], ◌∷◌, Option, Some, None, IsSome, IsNone, refl, sym, ap, ◌∙◌, subst}
use Rattle.std.specs.Option.{option_map_or}
use Rattle.std.specs.Cmp.{IsEquivalence}
use Rattle.std.specs.Map.{lookup, lookup_entry, remove_entry}
use Rattle.base_files.specs.Bytes.{ticked}
use Rattle.ckeys_base.specs.Shelf.{Asks}
use Rattle.lru.specs.LruCache.{promoted}

apart : {K : Type 0} (eq : K → K → Bool) → IsEquivalence eq → (key q a b : K) → eq key a ≡ true → eq key b ≡ false → eq q b ≡ true → eq q a ≡ true → ⊥
apart eq e key q a b ka kb qb qa =
    let ab : eq a b ≡ true = sym (e.congr q a b qa) ∙ qb in
    let kb' : eq key b ≡ true = e.congr key a b ka ∙ ab in
    cc

pub passes : {K V : Type 0} (test : K → Bool) (es : List (K × V)) (f : K × V) → lookup_entry test es ≡ Some f → test f.0 ≡ true
passes test [] f h = cc
passes test (x ∷ es) f h = (elim (test x.0) as (λ b. test x.0 ≡ b → test f.0 ≡ true) [
  | true ↦ λ t. let h' = rw t at h in let same : x ≡ f = cc in subst (λ y. test y.0 ≡ true) same t
  | false ↦ λ t. passes test es f (rw t at h)
]) refl

pub pick : {A : Type 0} (b c : Bool) (x y r s : A) → (c ≡ true → b ≡ true → ⊥) → cond b x r ≡ s → cond b x (cond c y r) ≡ cond c y s
pick b false x y r s h e = e
pick false true x y r s h e = refl
pick true true x y r s h e = absurd (h refl refl)

pub moved : {K V : Type 0} (eq : K → K → Bool) → IsEquivalence eq → (key q : K) (es : List (K × V)) (f : K × V) → lookup_entry (eq key) es ≡ Some f → cond (eq q f.0) (Some f.1) (lookup (eq q) (remove_entry (eq key) es)) ≡ lookup (eq q) es
moved eq e key q [] f h = cc
moved eq e key q (x ∷ es) f h = (elim (eq key x.0) as (λ b. eq key x.0 ≡ b → cond (eq q f.0) (Some f.1) (lookup (eq q) (remove_entry (eq key) (x ∷ es))) ≡ lookup (eq q) (x ∷ es)) [
  | true ↦ λ t. let h' = rw t at h in let same : f ≡ x = cc in rw (t, same) refl
  | false ↦ λ t.
      let h' = rw t at h in
      rw t (pick (eq q f.0) (eq q x.0) (Some f.1) (Some x.1) (lookup (eq q) (remove_entry (eq key) es)) (lookup (eq q) es)
      (λ qx qf. apart eq e key q f.0 x.0 (passes (eq key) es f h') t qx qf) (moved eq e key q es f h'))
]) refl

at_entry : {K V : Type 0} (eq : K → K → Bool) → IsEquivalence eq → (key q : K) (es : List (K × V)) (o : Option (K × V)) → lookup_entry (eq key) es ≡ o → lookup (eq q) (option_map_or (λ f. f ∷ remove_entry (eq key) es) o es) ≡ lookup (eq q) es
at_entry eq e key q es None h = refl
at_entry eq e key q es (Some f) h = moved eq e key q es f h

-- every key finds what it found before
pub lookup-promoted : {K V : Type 0} (eq : K → K → Bool) → IsEquivalence eq → (key q : K) (es : List (K × V)) → lookup (eq q) (promoted (eq key) es) ≡ lookup (eq q) es
lookup-promoted eq e key q es = at_entry eq e key q es (lookup_entry (eq key) es) refl

-- a look-up that only moves the pair to the front
pub asks_promoted : {K V : Type 0} (eq : K → K → Bool) → IsEquivalence eq → (key : K) (es fs : List (K × V)) (kept : Bool) (clears puts gets : ℕ) (answer : Option V) → fs ≡ promoted (eq key) es → answer ≡ lookup (eq key) es
    → Asks (record { held = λ k. lookup (eq k) es; kept = kept; forgets = 0; clears = clears; puts = puts; gets = gets }) (record { held = λ k. lookup (eq k) fs; kept = kept; forgets = 0; clears = clears; puts = puts; gets = ticked gets }) key answer
asks_promoted {K} {V} eq e key es fs kept clears puts gets answer is found = record {
  value = found ∙ sym (same key);
  within = λ q v h. sym (same q) ∙ h;
  kept = (λ h. (h, λ q h. rw (same q) h), λ p. p.0);
  forgot = λ f. absurd (never f);
  steady = λ _. refl;
  cleared = refl;
  put = refl;
  got = refl;
}
  where
    same : (q : K) → lookup (eq q) fs ≡ lookup (eq q) es
    same q = ap (lookup (eq q)) is ∙ lookup-promoted eq e key q es

    never : IsSome (lookup (eq key) es) × IsNone answer → ⊥
    never f = let n = rw found at f.1 in let s = f.0 in cc
