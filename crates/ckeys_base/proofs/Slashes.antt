-- Where each folder begins with a slash, none counts at another byte.
use Rattle.std.proofs.Common.{◌≡◌, ℕ, ◌+◌, ◌-◌, ◌<◌, ◌≤◌, Bool, true, false, cond, ◌&&◌, List, [], ◌∷◌, ◌++◌, length, get_or, drop, nat_eq, codes, refl, sym, ap, ◌∙◌, arith, inl, inr}
use Rattle.std.specs.List.{starts_with}
use Rattle.std.proofs.lemmas.Bool.{and_parts, cases_lt, eq-eqb}
use Rattle.std.proofs.lemmas.List.{get_or-drop}
use Rattle.std.proofs.lemmas.Slice.Eq.{starts_is}
use Rattle.std.proofs.lemmas.Bool.Decides.{Decides-eqb}
use Rattle.base_files.specs.Bytes.{Bytes}
use Rattle.memchr.specs.Find.{Passes, is_byte, Nowhere}
use Rattle.ckeys_base.specs.FolderPlaces.{Places, counts, counted_len, longest}
use Rattle.ckeys_base.specs.FromTheLeft.{all_begin_with_slash}

-- the text goes on with a slash where such a folder is
slash_at : (text : Bytes) (i : ℕ) (folder : Bytes) → starts_with nat_eq folder (codes "/") ≡ true → starts_with nat_eq (drop i text) folder ≡ true → get_or text i 0 ≡ 47
slash_at text i folder slash stands =
    let begins : folder ≡ 47 ∷ drop 1 folder = (starts_is Decides-eqb folder (47 ∷ []) (starts_with nat_eq folder (47 ∷ [])) refl).0 slash in
    let whole : drop i text ≡ folder ++ drop (length folder) (drop i text) = (starts_is Decides-eqb (drop i text) folder (starts_with nat_eq (drop i text) folder) refl).0 stands in
    let here : i ≡ i + 0 = omega arith in
    ap (λ (n : ℕ). get_or text n 0) here ∙ sym (get_or-drop i text 0 0) ∙ ap (λ (x : Bytes). get_or x 0 0) (whole ∙ ap (λ (x : Bytes). x ++ drop (length folder) (drop i text)) begins)

counts-slash : (places : Places) (text : Bytes) (i : ℕ) (folder : Bytes) → starts_with nat_eq folder (codes "/") ≡ true → counts places text i folder ≡ true → get_or text i 0 ≡ 47
unfolding counts
counts-slash places text i folder slash h =
    let outer = and_parts (places.may_begin text i && starts_with nat_eq (drop i text) folder) (places.may_end text (i + length folder)) h in
    let inner = and_parts (places.may_begin text i) (starts_with nat_eq (drop i text) folder) outer.0 in
    slash_at text i folder slash inner.1

none_by : (b : Bool) (n : ℕ) → (b ≡ true → ⊥) → cond b n 0 ≡ 0
none_by true n h = absurd (h refl)
none_by false n h = refl

pub longest-elsewhere : (places : Places) (folders : List Bytes) (text : Bytes) (i : ℕ) → all_begin_with_slash folders ≡ true → (get_or text i 0 ≡ 47 → ⊥) → longest places folders text i ≡ 0
unfolding longest counted_len
longest-elsewhere places [] text i all other = refl
longest-elsewhere places (folder ∷ folders) text i all other =
    let each = and_parts (starts_with nat_eq folder (codes "/")) (all_begin_with_slash folders) all in
    let here : counted_len places text i folder ≡ 0 = none_by (counts places text i folder) (length folder) (λ h. other (counts-slash places text i folder each.0 h)) in
    let later = longest-elsewhere places folders text i each.1 other in
    omega (arith, here, later)

-- a search from a place on that passed over the bytes up to another
pub none-passed : (places : Places) (folders : List Bytes) (text : Bytes) (from n : ℕ) → all_begin_with_slash folders ≡ true → Nowhere (Passes (is_byte 47) (drop from text)) 0 n
    → (k : ℕ) → from ≤ k → k < from + n → longest places folders text k ≡ 0
none-passed places folders text from n all passed k lo hi = longest-elsewhere places folders text k all (λ slash.
    let there : from + (k - from) ≡ k = omega arith in
    passed (k - from) (omega arith) (omega arith) (eq-eqb (get_or (drop from text) (k - from) 0) 47 (get_or-drop from text (k - from) 0 ∙ ap (λ (n : ℕ). get_or text n 0) there ∙ slash)))

-- and that came after a search which passed over the bytes before that place
pub none-more : (places : Places) (folders : List Bytes) (text : Bytes) (from rest n : ℕ) → all_begin_with_slash folders ≡ true → ((k : ℕ) → from ≤ k → k < rest → longest places folders text k ≡ 0)
    → Nowhere (Passes (is_byte 47) (drop rest text)) 0 n → (k : ℕ) → from ≤ k → k < rest + n → longest places folders text k ≡ 0
none-more places folders text from rest n all before passed k lo hi = elim (cases_lt k rest) [
  | inl early ↦ before k lo early
  | inr late ↦ none-passed places folders text rest n all passed k late hi
]
