-- Of lists that rise strictly one alone has these words.
use Rattle.std.proofs.Common.{◌≡◌, ◌||◌, Bool, List, [], ◌∷◌, refl, ap, sym, ◌∙◌}
use Rattle.std.proofs.lemmas.Cmp.{nat_list_cmp_total}
use Rattle.std.proofs.lemmas.Map.Lookups.{btree_set_from_contains, exact_bytes}
use Rattle.std.specs.Cmp.Lexicographic.{slice_cmp, texts_ties}
use Rattle.std.specs.List.{list_any}
use Rattle.std.specs.List.Sorted.{IsStrictlySortedBy}
use Rattle.std.specs.Ordering.{eq_by_cmp, nat_cmp}
use Rattle.std.specs.Str.{bytes_eq}
use Rattle.base_files.specs.Bytes.{Bytes}

abbrev HasWords : List Bytes → List Bytes → Type 0
HasWords one other = (word : Bytes) → list_any (bytes_eq word) one ≡ list_any (bytes_eq word) other

-- a word is in a list by its equality exactly as it is by its order
same_any : (word : Bytes) (list : List Bytes) → list_any (eq_by_cmp (slice_cmp nat_cmp) word) list ≡ list_any (bytes_eq word) list
same_any word [] = refl
same_any word (first ∷ list) =
    ap (λ (b : Bool). b || list_any (eq_by_cmp (slice_cmp nat_cmp) word) list) (sym (texts_ties word first))
    ∙ ap (λ (b : Bool). bytes_eq word first || b) (same_any word list)

pub one_order : (one other : List Bytes) → IsStrictlySortedBy (slice_cmp nat_cmp) one → IsStrictlySortedBy (slice_cmp nat_cmp) other → HasWords one other → one ≡ other
one_order one other rises rises_too same =
    btree_set_from_contains nat_list_cmp_total (record { keys = one }) (record { keys = other }) rises rises_too
    (λ word. same_any word one ∙ same word ∙ sym (same_any word other)) exact_bytes
