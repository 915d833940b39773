-- A computed test shows that a table is clear.
use Rattle.std.proofs.Common.{◌≡◌, ℕ, List, [], ◌∷◌, ◌++◌, length, Some, Bool, true, false, ◌&&◌, not, ◌==◌, refl, ap, sym, ◌∙◌, arith, Contains, ◌⊎◌, inl, inr, length-append}
use Rattle.std.proofs.lemmas.List.{append-nil}
use Rattle.std.proofs.lemmas.List.Elements.{Contains-append_cases, Contains-push_cases}
use Rattle.std.proofs.lemmas.Bool.Decides.{Decides-eqb}
use Rattle.std.specs.Cmp.{first_so, second_so}
use Rattle.std.specs.List.{list_all}
use Rattle.cmdlines_base.specs.Table.{Entry, after}
use Rattle.cmdlines_base.specs.Printing.{is_j}
use Rattle.cmdlines_base.specs.Again.{IsClear, is_clear, is_free, free_by}
use Rattle.cmdlines_base.proofs.TableLemmas.{after-append}

-- an element of a list is its head, or among the rest
member_cases : {X : Type 0} (x : X) (xs : List X) (y : X) → Contains (x ∷ xs) y → (x ≡ y) ⊎ Contains xs y
member_cases x xs y c = elim (Contains-append_cases (x ∷ []) xs y c) [ inl h ↦ inl (only y h) | inr t ↦ inr t ]
  where
    only : (y : _) → Contains (x ∷ []) y → x ≡ y
    only y h = elim (Contains-push_cases [] x y h) [ inl e ↦ absurd (omega arith) | inr e ↦ e ]

all_member : {X : Type 0} (p : X → Bool) (xs : List X) (y : X) → list_all p xs ≡ true → Contains xs y → p y ≡ true
all_member p [] y h c = absurd (omega arith)
all_member p (x ∷ xs) y h c = elim (member_cases x xs y c) [ inl e ↦ ap p (sym e) ∙ first_so (p x) (list_all p xs) h | inr t ↦ all_member p xs y (second_so (p x) (list_all p xs) h) t ]

pairs : {K : Type 0} (t : List (Entry K)) → is_clear t ≡ true → (d e : Entry K) → Contains t d → Contains t e → (d ≡ e) ⊎ (is_free e d ≡ true)
pairs [] h d e cd ce = absurd (omega arith)
pairs {K} (x ∷ xs) h d e cd ce = by (member_cases x xs d cd) (member_cases x xs e ce) (pairs xs (second_so (list_all (λ y. is_free x y && is_free y x) xs) (is_clear xs) h) d e)
  where
    heads : list_all (λ y. is_free x y && is_free y x) xs ≡ true
    heads = first_so (list_all (λ y. is_free x y && is_free y x) xs) (is_clear xs) h

    at : (y : Entry K) → Contains xs y → (is_free x y && is_free y x) ≡ true
    at y c = all_member (λ y. is_free x y && is_free y x) xs y heads c

    by : ((x ≡ d) ⊎ Contains xs d) → ((x ≡ e) ⊎ Contains xs e) → (Contains xs d → Contains xs e → (d ≡ e) ⊎ (is_free e d ≡ true)) → (d ≡ e) ⊎ (is_free e d ≡ true)
    by (inl p) (inl q) more = inl (sym p ∙ q)
    by (inl p) (inr q) more = inr (ap (λ y. is_free e y) (sym p) ∙ second_so (is_free x e) (is_free e x) (at e q))
    by (inr p) (inl q) more = inr (ap (λ y. is_free y d) (sym q) ∙ first_so (is_free x d) (is_free d x) (at d p))
    by (inr p) (inr q) more = more p q

nothing_more : (f more : List ℕ) → f ≡ f ++ more → more ≡ []
nothing_more f [] h = refl
nothing_more f (b ∷ bs) h = absurd (omega (arith, ap length h, length-append f (b ∷ bs)))

pub clear_from_test : {K : Type 0} (t : List (Entry K)) → is_clear t ≡ true → IsClear t
clear_from_test {K} t h = record {
  one = λ d e cd ce same. one d e same (pairs t h d e cd ce);
  alone = λ d e more cd ce j two on. alone d e more j two on (pairs t h d e cd ce);
}
  where
    one : (d e : Entry K) → d.flag ≡ e.flag → ((d ≡ e) ⊎ (is_free e d ≡ true)) → d ≡ e
    one d e same (inl p) = p
    one d e same (inr q) =
        let b : after e.flag d.flag ≡ Some [] = ap (λ w. after e.flag w) (same ∙ sym (append-nil e.flag)) ∙ after-append e.flag [] in
        let bad : false ≡ true = sym (ap (free_by (is_j e && (length e.flag == 2))) b) ∙ q in cc

    alone : (d e : Entry K) (more : List ℕ) → is_j e ≡ true → length e.flag ≡ 2 → d.flag ≡ e.flag ++ more → ((d ≡ e) ⊎ (is_free e d ≡ true)) → more ≡ []
    alone d e more j two on (inl p) = nothing_more e.flag more (ap (λ (y : Entry K). y.flag) (sym p) ∙ on)
    alone d e [] j two on (inr q) = refl
    alone d e (x ∷ xs) j two on (inr q) =
        let b : after e.flag d.flag ≡ Some (x ∷ xs) = ap (λ w. after e.flag w) on ∙ after-append e.flag (x ∷ xs) in
        let is : (is_j e && (length e.flag == 2)) ≡ true = ap (λ s. s && (length e.flag == 2)) j ∙ (Decides-eqb (length e.flag) 2).1 two in
        let bad : false ≡ true = sym (ap not is) ∙ sym (ap (free_by (is_j e && (length e.flag == 2))) b) ∙ q in cc
