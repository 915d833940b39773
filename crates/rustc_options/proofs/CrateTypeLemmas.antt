-- Crate types, printed.
use Rattle.std.proofs.Common.{◌≡◌, Bool, true, false, not, ◌||◌, List, [], ◌∷◌, ◌++◌, map, filter, codes, refl, ap, sym, ◌∙◌, cond}
use Rattle.std.specs.BTreeSet.{insert_key}
use Rattle.std.specs.Bool.{if◌then◌else◌}
use Rattle.std.specs.Cmp.Lexicographic.{slice_cmp}
use Rattle.std.specs.List.{fold, list_any}
use Rattle.std.specs.Ordering.{nat_cmp}
use Rattle.std.proofs.lemmas.Bool.{true≢false}
use Rattle.std.proofs.lemmas.Cmp.{nat_list_cmp_total}
use Rattle.std.proofs.lemmas.List.Sums.{fold-append}
use Rattle.std.proofs.lemmas.Map.Lookups.{exact_bytes}
use Rattle.std.proofs.lemmas.Slice.Eq.{bytes_eq-Decides}
use Rattle.base_files.specs.Bytes.{Bytes}
use Rattle.rustc_options.specs.Data.{is_rlib, is_staticlib, is_other_type, printed_type, named_if, crate_types_of, crate_types_word}
use Rattle.rustc_options.specs.Sets.{between_commas, joined_by_commas, in_order}
use Rattle.rustc_options.proofs.SetLemmas as sets

abbrev put : List Bytes → Bytes → List Bytes
put s k = insert_key (slice_cmp nat_cmp) s k

abbrev put-all : List Bytes → List Bytes → List Bytes
put-all s ks = fold (insert_key (slice_cmp nat_cmp)) s ks

put-again : (s : List Bytes) (k : Bytes) → put (put s k) k ≡ put s k
put-again = sets.put-again (slice_cmp nat_cmp) nat_list_cmp_total exact_bytes

put-swap : (s : List Bytes) (a b : Bytes) → put (put s a) b ≡ put (put s b) a
put-swap = sets.put-swap (slice_cmp nat_cmp) nat_list_cmp_total exact_bytes

put-last : (s ks : List Bytes) (k : Bytes) → put-all (put s k) ks ≡ put (put-all s ks) k
put-last = sets.put-last (slice_cmp nat_cmp) nat_list_cmp_total exact_bytes

-- the names of the two that have a place of their own
abbrev named : Bool → Bool → List Bytes
named rlib staticlib = named_if rlib (codes "rlib") ++ named_if staticlib (codes "staticlib")

one-rlib : (u : List Bytes) (r s : Bool) → put-all u (named true s) ≡ put-all (put u (codes "rlib")) (named r s)
one-rlib u false s = refl
one-rlib u true s = sym (ap (λ t. put-all t (named_if s (codes "staticlib"))) (put-again u (codes "rlib")))

one-staticlib : (u : List Bytes) (r s : Bool) → put-all u (named r true) ≡ put-all (put u (codes "staticlib")) (named r s)
one-staticlib u false false = refl
one-staticlib u false true = sym (put-again u (codes "staticlib"))
one-staticlib u true false = put-swap u (codes "rlib") (codes "staticlib")
one-staticlib u true true = sym (put-again (put u (codes "rlib")) (codes "staticlib")) ∙ ap (λ t. put t (codes "staticlib")) (put-swap u (codes "rlib") (codes "staticlib"))

-- the others, and the two by their names, are all
abbrev Printed : List Bytes → List Bytes → Type 0
Printed t ws = put-all (put-all t (filter is_other_type ws)) (named (list_any is_rlib ws) (list_any is_staticlib ws)) ≡ put-all t (map printed_type ws)

abbrev PrintedBy : List Bytes → Bytes → List Bytes → Bool → Bool → Type 0
PrintedBy t w ws r s =
    put-all (put-all t (cond (not (r || s)) (w ∷ filter is_other_type ws) (filter is_other_type ws))) (named (r || list_any is_rlib ws) (s || list_any is_staticlib ws))
    ≡ put-all (put t (if r then codes "rlib" else w)) (map printed_type ws)

staticlib-is : (w : Bytes) → is_staticlib w ≡ true → w ≡ codes "staticlib"
staticlib-is w h = (bytes_eq-Decides w (codes "staticlib")).0 h

printed-by : (t : List Bytes) (w : Bytes) (ws : List Bytes) (r s : Bool) → is_rlib w ≡ r → is_staticlib w ≡ s → ((u : List Bytes) → Printed u ws) → PrintedBy t w ws r s
printed-by t w ws true true h k later = absurd (true≢false (sym h ∙ ap is_rlib (staticlib-is w k)))
printed-by t w ws true false h k later =
    one-rlib (put-all t (filter is_other_type ws)) (list_any is_rlib ws) (list_any is_staticlib ws)
    ∙ sym (ap (λ u. put-all u (named (list_any is_rlib ws) (list_any is_staticlib ws))) (put-last t (filter is_other_type ws) (codes "rlib")))
    ∙ later (put t (codes "rlib"))
printed-by t w ws false true h k later =
    one-staticlib (put-all t (filter is_other_type ws)) (list_any is_rlib ws) (list_any is_staticlib ws)
    ∙ sym (ap (λ u. put-all u (named (list_any is_rlib ws) (list_any is_staticlib ws))) (put-last t (filter is_other_type ws) (codes "staticlib")))
    ∙ later (put t (codes "staticlib"))
    ∙ sym (ap (λ name. put-all (put t name) (map printed_type ws)) (staticlib-is w k))
printed-by t w ws false false h k later = later (put t w)

all-printed : (ws t : List Bytes) → Printed t ws
all-printed [] t = refl
all-printed (w ∷ ws) t = printed-by t w ws (is_rlib w) (is_staticlib w) refl refl (all-printed ws)

in-order-printed : (ws : List Bytes) → in_order (in_order (filter is_other_type ws) ++ named (list_any is_rlib ws) (list_any is_staticlib ws)) ≡ in_order (map printed_type ws)
unfolding in_order
in-order-printed ws =
    let others = filter is_other_type ws in
    let two = named (list_any is_rlib ws) (list_any is_staticlib ws) in
    fold-append (insert_key (slice_cmp nat_cmp)) [] (put-all [] others) two
    ∙ ap (λ s. put-all s two) (sets.together (slice_cmp nat_cmp) nat_list_cmp_total exact_bytes [] [] others)
    ∙ all-printed ws []

pub crate-types-printed : (word : Bytes) → crate_types_word (crate_types_of word) ≡ joined_by_commas (in_order (map printed_type (between_commas word)))
crate-types-printed word = ap joined_by_commas (in-order-printed (between_commas word))
