-- Laws of lists of words, and of commands.
use Rattle.std.proofs.Common.{◌≡◌, Bool, true, false, ◌||◌, List, [], ◌∷◌, ◌++◌, refl, ap, ◌∙◌, sym, map, filter}
use Rattle.std.specs.Prelude.{IsPermutation, cond, not, codes}
use Rattle.std.specs.Cmp.{IsTotalOrder}
use Rattle.std.specs.Cmp.Lexicographic.{lists_total, nat_list_cmp_total}
use Rattle.std.specs.List.{flat_map, list_any}
use Rattle.std.specs.Ordering.{ordering_then}
use Rattle.std.specs.declared.cmp.Ordering.{Ordering}
use Rattle.std.specs.declared.cmp.Ordering.TheVariants.{Less, Equal, Greater}
use Rattle.std.proofs.lemmas.List.Folds.{list_any-append}
use Rattle.std.proofs.lemmas.List.Sorted.{IsPermutation-map}
use Rattle.std.proofs.lemmas.Map.Lookups.{exact_bytes}
use Rattle.base_files.specs.Bytes.{Bytes}
use Rattle.cmdlines_base.specs.Reading.{begins_with_at}
use Rattle.rustc_options.specs.Asks.{RustAsks, Said}
use Rattle.rustc_options.specs.Sorted.{sorted_by}
use Rattle.rustc_options.specs.SortedLaws.{sorted_alike}
use Rattle.rustc_texts.specs.Words.{all_words, cfgs_of, color_words, compile_words, counts_beside, dep_info_words, file_names_words, is_on_outputs, kept_of, rest_of, words_cmp, words_in}

pub words-total : IsTotalOrder words_cmp
words-total = lists_total nat_list_cmp_total

both-tie : (first second : Ordering) → ordering_then first second ≡ Equal → (first ≡ Equal) × (second ≡ Equal)
both-tie Less second h = absurd cc
both-tie Equal second h = (refl, h)
both-tie Greater second h = absurd cc

-- only equal lists of words tie
pub words-exact : (one other : List Bytes) → words_cmp one other ≡ Equal → one ≡ other
words-exact [] [] h = refl
words-exact [] (y ∷ ys) h = absurd cc
words-exact (x ∷ xs) [] h = absurd cc
words-exact (x ∷ xs) (y ∷ ys) h =
    let t = both-tie _ (words_cmp xs ys) h in
    let first : x ≡ y = exact_bytes x y t.0 in
    let rest : xs ≡ ys = words-exact xs ys t.1 in
    λ i. first i ∷ rest i

pub kept-alike : (has_target_file : Bool) (one other : List Said) → rest_of one ≡ rest_of other → IsPermutation (cfgs_of one) (cfgs_of other) → kept_of has_target_file one ≡ kept_of has_target_file other
kept-alike has_target_file one other rest cfgs =
    let sorted : sorted_by words_cmp (map words_in (cfgs_of one)) ≡ sorted_by words_cmp (map words_in (cfgs_of other)) = sorted_alike words_cmp words-total words-exact _ _ (IsPermutation-map words_in _ _ cfgs) in
    λ i. all_words (filter (counts_beside has_target_file) (rest i)) ++ flat_map (λ (words : List Bytes). words) (sorted i)

neither : (a b : Bool) → (a || b) ≡ false → (a ≡ false) × (b ≡ false)
neither true b h = absurd cc
neither false b h = (refl, h)

-- none of the words begins so
abbrev OpensNone : List Bytes → Type 0
OpensNone words = list_any begins_with_at words ≡ false

more-open-none : (words added : List Bytes) → OpensNone words → OpensNone added → OpensNone (words ++ added)
more-open-none words added h k = list_any-append begins_with_at words added ∙ ap (λ b. b || list_any begins_with_at added) h ∙ k

fewer-open-none : (test : Said → Bool) (arguments : List Said) → OpensNone (all_words arguments) → OpensNone (all_words (filter test arguments))
fewer-open-none test [] h = h
fewer-open-none test (said ∷ arguments) h =
    let both = neither _ _ (sym (list_any-append begins_with_at said.words (all_words arguments)) ∙ h) in
    by (test said) both.0 (fewer-open-none test arguments both.1)
  where
    by : (b : Bool) → OpensNone said.words → OpensNone (all_words (filter test arguments)) → OpensNone (all_words (cond b (said ∷ filter test arguments) (filter test arguments)))
    by true own more = more-open-none said.words (all_words (filter test arguments)) own more
    by false own more = more

color-opens-none : (has_json : Bool) → OpensNone (color_words has_json)
color-opens-none true = refl
color-opens-none false = refl

pub compile-opens-none : (asks : RustAsks) → OpensNone (all_words asks.arguments) → OpensNone (compile_words asks)
compile-opens-none asks h = more-open-none (all_words asks.arguments) (color_words asks.has_json) h (color-opens-none asks.has_json)

pub dep_info-opens-none : (asks : RustAsks) → OpensNone (all_words asks.arguments) → OpensNone (dep_info_words asks)
dep_info-opens-none asks h = more-open-none (all_words (filter (λ said. not (is_on_outputs said)) asks.arguments)) (codes "--emit" ∷ codes "dep-info" ∷ []) (fewer-open-none (λ said. not (is_on_outputs said)) asks.arguments h) refl

pub file_names-open-none : (asks : RustAsks) → OpensNone (all_words asks.arguments) → OpensNone (file_names_words asks)
file_names-open-none asks h = more-open-none (all_words asks.arguments) (codes "--print" ∷ codes "file-names" ∷ []) h refl
