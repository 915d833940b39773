-- The hashed bytes and the shape determine the record.
use Rattle.std.proofs.Common.{◌≡◌, ◌<◌, ◌^◌, List, [], ◌∷◌, ◌++◌, Option, None, Some, Bool, true, false, ◌==◌, ◌||◌, length, map, refl, ap, sym, ◌∙◌, arith, append_assoc}
use Rattle.std.specs.Prelude.{unwrap_or}
use Rattle.std.specs.Int.{w64, to_le_bytes, from_le_bytes}
use Rattle.std.specs.List.{list_any, AllByRecursion}
use Rattle.std.specs.Option.{option_map}
use Rattle.std.proofs.lemmas.Nat.{from_le_bytes-to_le_bytes_8}
use Rattle.base_files.specs.Bytes.{Bytes}
use Rattle.cmdlines_tables.specs.Languages.{name_of}
use Rattle.ckeys_records.specs.Records.{Variable, HashedParts, LacksEnd, FitsLength, AreTold}
use Rattle.ckeys_records.specs.Material.{cache_version, framed, variable_bytes, words_bytes, joined, variables_bytes, plusplus_byte, material_of, shape_of}
use Rattle.ckeys_records.specs.declared.shape.CShape.{CShape}

-- beginnings of one length are equal, and so are the rests
cancel : (xs ys us vs : Bytes) → length xs ≡ length ys → xs ++ us ≡ ys ++ vs → (xs ≡ ys) × (us ≡ vs)
cancel [] [] us vs l h = (refl, h)
cancel [] (y ∷ ys) us vs l h = cc
cancel (x ∷ xs) [] us vs l h = cc
cancel (x ∷ xs) (y ∷ ys) us vs l h =
    let head : x ≡ y = cc in
    let tail : xs ++ us ≡ ys ++ vs = cc in
    let less : length xs ≡ length ys = omega (arith, l) in
    let rest : (xs ≡ ys) × (us ≡ vs) = cancel xs ys us vs less tail in
    (rw (head, rest.0) refl, rest.1)

-- a word ends at the first byte 255
ended : (w v us vs : Bytes) → LacksEnd w → LacksEnd v → w ++ (255 ∷ us) ≡ v ++ (255 ∷ vs) → (w ≡ v) × (us ≡ vs)
ended [] [] us vs p q h = (refl, cc)
ended [] (b ∷ v) us vs p q h =
    let b_is : b ≡ 255 = cc in
    let found : (255 == 255 || list_any (λ x. x == 255) v) ≡ false = ap (λ x. x == 255 || list_any (λ y. y == 255) v) (sym b_is) ∙ q in
    cc
ended (a ∷ w) [] us vs p q h =
    let a_is : a ≡ 255 = cc in
    let found : (255 == 255 || list_any (λ x. x == 255) w) ≡ false = ap (λ x. x == 255 || list_any (λ y. y == 255) w) (sym a_is) ∙ p in
    cc
ended (a ∷ w) (b ∷ v) us vs p q h =
    let head : a ≡ b = cc in
    let tail : w ++ (255 ∷ us) ≡ v ++ (255 ∷ vs) = cc in
    let rest : (w ≡ v) × (us ≡ vs) = ended w v us vs (after (a == 255) p) (after (b == 255) q) tail in
    (rw (head, rest.0) refl, rest.1)
  where
    after : (s : Bool) {t : Bool} → (s || t) ≡ false → t ≡ false
    after true h = cc
    after false h = h

words_told : (ws vs : List Bytes) (us us' : Bytes) → length ws ≡ length vs → AllByRecursion LacksEnd ws → AllByRecursion LacksEnd vs → words_bytes ws ++ us ≡ words_bytes vs ++ us' → (ws ≡ vs) × (us ≡ us')
words_told [] [] us us' l p q h = (refl, h)
words_told [] (v ∷ vs) us us' l p q h = cc
words_told (w ∷ ws) [] us us' l p q h = cc
words_told (w ∷ ws) (v ∷ vs) us us' l p q h =
    let less : length ws ≡ length vs = omega (arith, l) in
    let one : (w ≡ v) × ((words_bytes ws ++ us) ≡ (words_bytes vs ++ us')) = ended w v (words_bytes ws ++ us) (words_bytes vs ++ us') p.0 q.0 (sym (spread w ws us) ∙ h ∙ spread v vs us') in
    let rest : (ws ≡ vs) × (us ≡ us') = words_told ws vs us us' less p.1 q.1 one.1 in
    (rw (one.0, rest.0) refl, rest.1)
  where
    spread : (x : Bytes) (xs : List Bytes) (more : Bytes) → words_bytes (x ∷ xs) ++ more ≡ x ++ (255 ∷ (words_bytes xs ++ more))
    spread x xs more = append_assoc (x ++ (255 ∷ [])) (words_bytes xs) more ∙ append_assoc x (255 ∷ []) (words_bytes xs ++ more)

parts_told : (ps qs : List Bytes) (us vs : Bytes) → map length ps ≡ map length qs → joined ps ++ us ≡ joined qs ++ vs → (ps ≡ qs) × (us ≡ vs)
parts_told [] [] us vs l h = (refl, h)
parts_told [] (q ∷ qs) us vs l h = cc
parts_told (p ∷ ps) [] us vs l h = cc
parts_told (p ∷ ps) (q ∷ qs) us vs l h =
    let first : length p ≡ length q = cc in
    let others : map length ps ≡ map length qs = cc in
    let one : (p ≡ q) × ((joined ps ++ us) ≡ (joined qs ++ vs)) = cancel p q (joined ps ++ us) (joined qs ++ vs) first (sym (append_assoc p (joined ps) us) ∙ h ∙ append_assoc q (joined qs) vs) in
    let rest : (ps ≡ qs) × (us ≡ vs) = parts_told ps qs us vs others one.1 in
    (rw (one.0, rest.0) refl, rest.1)

pub framed_told : (x y us vs : Bytes) → length x < 2 ^ 64 → length y < 2 ^ 64 → framed x ++ us ≡ framed y ++ vs → (x ≡ y) × (us ≡ vs)
framed_told x y us vs p q h =
    let lengths : (to_le_bytes w64 (length x) ≡ to_le_bytes w64 (length y)) × ((x ++ us) ≡ (y ++ vs)) = cancel (to_le_bytes w64 (length x)) (to_le_bytes w64 (length y)) (x ++ us) (y ++ vs) refl (sym (append_assoc (to_le_bytes w64 (length x)) x us) ∙ h ∙ append_assoc (to_le_bytes w64 (length y)) y vs) in
    let same : length x ≡ length y = sym (from_le_bytes-to_le_bytes_8 (length x) p) ∙ ap (from_le_bytes w64) lengths.0 ∙ from_le_bytes-to_le_bytes_8 (length y) q in
    cancel x y us vs same lengths.1

variable_told : (v w : Variable) (us vs : Bytes) → FitsLength v → FitsLength w → variable_bytes v ++ us ≡ variable_bytes w ++ vs → (v ≡ w) × (us ≡ vs)
variable_told (n, x) (m, y) us vs p q h =
    let one : (n ≡ m) × ((61 ∷ (framed x ++ us)) ≡ (61 ∷ (framed y ++ vs))) = framed_told n m (61 ∷ (framed x ++ us)) (61 ∷ (framed y ++ vs)) p.0 q.0 (sym (append_assoc (framed n) (61 ∷ framed x) us) ∙ h ∙ append_assoc (framed m) (61 ∷ framed y) vs) in
    let after : (framed x ++ us) ≡ (framed y ++ vs) = cc in
    let two : (x ≡ y) × (us ≡ vs) = framed_told x y us vs p.1 q.1 after in
    (rw (one.0, two.0) refl, two.1)

variables_told : (vs ws : List Variable) (us us' : Bytes) → length vs ≡ length ws → AllByRecursion FitsLength vs → AllByRecursion FitsLength ws → variables_bytes vs ++ us ≡ variables_bytes ws ++ us' → (vs ≡ ws) × (us ≡ us')
variables_told [] [] us us' l p q h = (refl, h)
variables_told [] (w ∷ ws) us us' l p q h = cc
variables_told (v ∷ vs) [] us us' l p q h = cc
variables_told (v ∷ vs) (w ∷ ws) us us' l p q h =
    let less : length vs ≡ length ws = omega (arith, l) in
    let one : (v ≡ w) × ((variables_bytes vs ++ us) ≡ (variables_bytes ws ++ us')) = variable_told v w (variables_bytes vs ++ us) (variables_bytes ws ++ us') p.0 q.0 (sym (append_assoc (variable_bytes v) (variables_bytes vs) us) ∙ h ∙ append_assoc (variable_bytes w) (variables_bytes ws) us') in
    let rest : (vs ≡ ws) × (us ≡ us') = variables_told vs ws us us' less p.1 q.1 one.1 in
    (rw (one.0, rest.0) refl, rest.1)

plusplus_told : (s t : Bool) → plusplus_byte s ≡ plusplus_byte t → s ≡ t
plusplus_told true true h = refl
plusplus_told true false h = cc
plusplus_told false true h = cc
plusplus_told false false h = refl

digest_told : (a b : Option Bytes) (us vs : Bytes) → option_map length a ≡ option_map length b → unwrap_or a [] ++ us ≡ unwrap_or b [] ++ vs → (a ≡ b) × (us ≡ vs)
digest_told None None us vs l h = (refl, h)
digest_told None (Some b) us vs l h = cc
digest_told (Some a) None us vs l h = cc
digest_told (Some a) (Some b) us vs l h =
    let same : length a ≡ length b = cc in
    let r : (a ≡ b) × (us ≡ vs) = cancel a b us vs same h in
    (ap Some r.0, r.1)

-- the bytes, each part before all that follow it
module _ (r : HashedParts) where
  from_variables : Bytes
  from_variables = variables_bytes r.variables ++ r.text

  from_assembler : Bytes
  from_assembler = unwrap_or r.assembler_digest [] ++ from_variables

  from_extra : Bytes
  from_extra = joined r.extra_hashes ++ from_assembler

  from_words : Bytes
  from_words = words_bytes r.words ++ from_extra

  spread : material_of r ≡ r.compiler_digest ++ (plusplus_byte r.plusplus ∷ (cache_version ++ (name_of r.language ++ from_words)))
  unfolding from_variables from_assembler from_extra from_words
  spread = simp append_assoc refl

pub told : (a b : HashedParts) → AreTold a.words a.variables → AreTold b.words b.variables → material_of a ≡ material_of b → shape_of a ≡ shape_of b → a ≡ b
unfolding from_words from_extra from_assembler from_variables
told a b p q same shape =
    let language : a.language ≡ b.language = ap (λ (s : CShape). s.language) shape in
    let start = cancel a.compiler_digest b.compiler_digest _ _ (ap (λ (s : CShape). s.compiler_digest) shape) (sym (spread a) ∙ same ∙ spread b) in
    let plus : plusplus_byte a.plusplus ≡ plusplus_byte b.plusplus = cc in
    let named : cache_version ++ (name_of a.language ++ from_words a) ≡ cache_version ++ (name_of b.language ++ from_words b) = cc in
    let words_on = cancel (name_of a.language) (name_of b.language) (from_words a) (from_words b) (ap (λ l. length (name_of l)) language) (cancel cache_version cache_version _ _ refl named).1 in
    let words = words_told a.words b.words (from_extra a) (from_extra b) (ap (λ (s : CShape). s.words) shape) p.words q.words words_on.1 in
    let extra = parts_told a.extra_hashes b.extra_hashes (from_assembler a) (from_assembler b) (ap (λ (s : CShape). s.extra_hashes) shape) words.1 in
    let assembler = digest_told a.assembler_digest b.assembler_digest (from_variables a) (from_variables b) (ap (λ (s : CShape). s.assembler_digest) shape) extra.1 in
    let variables = variables_told a.variables b.variables a.text b.text (ap (λ (s : CShape). s.variables) shape) p.variables q.variables assembler.1 in
    λ i. record {
      compiler_digest = start.0 i;
      plusplus = plusplus_told a.plusplus b.plusplus plus i;
      language = language i;
      words = words.0 i;
      variables = variables.0 i;
      extra_hashes = extra.0 i;
      assembler_digest = assembler.0 i;
      text = variables.1 i;
    }
