-- Whole keys: what is read of their bytes is what was written, and what was written is read.
use Rattle.std.proofs.Common.{◌≡◌, ℕ, ◌+◌, ◌-◌, ◌^◌, ◌<◌, true, false, cond, eqb, List, [], ◌∷◌, ◌++◌, length, get_or, take, drop, map, Some, None, refl, sym, ap, subst, ◌∙◌, append_assoc, arith}
use Rattle.std.specs.Prelude.{unwrap_or, slice_index}
use Rattle.std.specs.List.{flat_map, AllByRecursion}
use Rattle.std.proofs.lemmas.Bool.{eqb-true, eqb-false, eq-eqb, ne_eqb}
use Rattle.std.proofs.lemmas.List.{drop_all, drop_more, get_or-append-add, length-append, take-append-drop, take_at}
use Rattle.std.proofs.lemmas.List.Concat.{flat_map-cons}
use Rattle.base_files.specs.Bytes.{Bytes}
use Rattle.base_formats.specs.FieldFormats.{bind_some, both_format, framed_format, if_some, some_is, unless_some}
use Rattle.base_formats.specs.Formats.{IsBytes, IsFormat}
use Rattle.base_formats.specs.Reading.{◌>>=◌, times_at}
use Rattle.base_formats.specs.Spelling.{BothFit, FitsFrame, both, framed, number}
use Rattle.rustc_parts.specs.Formed.{HasDigests, IsDigest, digest_digits}
use Rattle.rustc_parts.specs.Material.{env_dep_bytes, joined, material_of, pair_bytes}
use Rattle.rustc_parts.specs.Reading.{Files, Front, Surroundings, digest_at, files_at, front_at, front_of, parts_at, parts_from, surroundings_at, version_at}
use Rattle.rustc_parts.specs.Shapes.{shape_of}
use Rattle.rustc_parts.specs.declared.parts.Parts.{Parts}
use Rattle.rustc_parts.specs.declared.parts.RShape.{RShape}
use Rattle.rustc_parts.proofs.PieceFormats.{AreWords, EnvDepFits, IsOptionalDigest, PairFits, after_format, digest_format, each_format, env_dep_format, pair_format, row_format, optional_digest_format, words_format}
use Rattle.rustc_parts.specs.Reading.{env_dep_at, pair_at}
use Rattle.std.specs.Prelude.{is_some}

-- ---- all but the version

abbrev AreDigests : ℕ → ℕ → List Bytes → Type 0
AreDigests width n digests = AllByRecursion (IsDigest width) digests × (length digests ≡ n)

digests_format : (width n : ℕ) → IsFormat (times_at (digest_at width) n) joined (AreDigests width n)
digests_format width n = row_format (digest_at width) (λ t. t) (IsDigest width) (digest_format width) n

abbrev FilesFit : ℕ → RShape → Files → Type 0
FilesFit width s = BothFit (AreDigests width s.sources) (BothFit (AreDigests width s.externs) (BothFit (AreDigests digest_digits s.archives) (BothFit (IsOptionalDigest width s.has_target) (IsOptionalDigest width s.has_profile))))

abbrev files_spelled : Files → Bytes
files_spelled = both joined (both joined (both joined (both (λ digest. unwrap_or digest []) (λ digest. unwrap_or digest []))))

files_format : (width : ℕ) (s : RShape) → IsFormat (files_at width s) files_spelled (FilesFit width s)
unfolding files_at
files_format width s =
    both_format _ _ _ _ _ _ (digests_format width s.sources) (both_format _ _ _ _ _ _ (digests_format width s.externs) (both_format _ _ _ _ _ _ (digests_format digest_digits s.archives) (both_format _ _ _ _ _ _ (optional_digest_format width s.has_target) (optional_digest_format width s.has_profile))))

abbrev SurroundingsFit : RShape → Surroundings → Type 0
SurroundingsFit s = BothFit (λ deps. AllByRecursion EnvDepFits deps × (map (λ dep. is_some dep.value) deps ≡ s.env_deps)) (BothFit (λ pairs. AllByRecursion PairFits pairs × (length pairs ≡ s.variables)) FitsFrame)

abbrev surroundings_spelled : Surroundings → Bytes
surroundings_spelled = both (flat_map env_dep_bytes) (both (flat_map pair_bytes) framed)

surroundings_format : (s : RShape) → IsFormat (surroundings_at s) surroundings_spelled (SurroundingsFit s)
unfolding surroundings_at
surroundings_format s =
    both_format _ _ _ _ _ _ (each_format env_dep_at env_dep_bytes (λ dep. is_some dep.value) EnvDepFits env_dep_format s.env_deps) (both_format _ _ _ _ _ _ (row_format pair_at pair_bytes PairFits pair_format s.variables) framed_format)

abbrev FrontFits : ℕ → RShape → Front → Type 0
FrontFits width s = BothFit (AreDigests digest_digits s.toolchain) (BothFit (AreWords s.words) (BothFit (FilesFit width s) (SurroundingsFit s)))

abbrev front_spelled : Front → Bytes
front_spelled f = 56 ∷ both joined (both (λ ws. framed (joined ws)) (both files_spelled surroundings_spelled)) f

front_format : (width : ℕ) (s : RShape) → IsFormat (front_at width s) front_spelled (FrontFits width s)
unfolding front_at
front_format width s =
    after_format 56 _ _ _ (both_format _ _ _ _ _ _ (digests_format digest_digits s.toolchain) (both_format _ _ _ _ _ _ (words_format s.words) (both_format _ _ _ _ _ _ (files_format width s) (surroundings_format s))))

-- ---- the version

last_split : (bytes : Bytes) → 0 < length bytes → bytes ≡ take (length bytes - 1) bytes ++ (get_or bytes (length bytes - 1) 0 ∷ [])
last_split bytes pos =
    let k = length bytes - 1 in
    let cut : drop k bytes ≡ get_or bytes k 0 ∷ drop (k + 1) bytes = drop_more bytes k 0 (omega arith) in
    let none : drop (k + 1) bytes ≡ [] = drop_all (k + 1) bytes (omega arith) in
    sym (take-append-drop k bytes) ∙ ap (λ (x : Bytes). take k bytes ++ x) (cut ∙ ap (λ (x : Bytes). get_or bytes k 0 ∷ x) none)

version_takes : (bytes t : Bytes) → version_at bytes ≡ Some t → bytes ≡ t ++ (255 ∷ [])
unfolding version_at
version_takes bytes t e =
    let k = length bytes - 1 in
    let g = unless_some (eqb (length bytes) 0) (cond (eqb (slice_index bytes k) 255) (Some (take k bytes)) None) t e in
    let ff = if_some (eqb (slice_index bytes k) 255) (Some (take k bytes)) t g.1 in
    let at : slice_index bytes k ≡ 255 = eqb-true _ _ ff.0 in
    let ne : length bytes ≡ 0 → ⊥ = eqb-false (length bytes) 0 g.0 in
    let pos : 0 < length bytes = omega arith in
    let is : take k bytes ≡ t = some_is (take k bytes) t ff.1 in
    last_split bytes pos ∙ ap (λ (x : ℕ). take k bytes ++ (x ∷ [])) at ∙ ap (λ (x : Bytes). x ++ (255 ∷ [])) is

version_again : (t : Bytes) → version_at (t ++ (255 ∷ [])) ≡ Some t
unfolding version_at
version_again t =
    let bytes = t ++ (255 ∷ []) in
    let len : length bytes ≡ length t + 1 = length-append t (255 ∷ []) in
    let k : length bytes - 1 ≡ length t = omega (arith, len) in
    let some_left : eqb (length bytes) 0 ≡ false = ne_eqb (length bytes) 0 (λ z. omega (arith, len)) in
    let here : length t + 0 ≡ length t = omega arith in
    let at : slice_index bytes (length bytes - 1) ≡ 255 = ap (λ (i : ℕ). get_or bytes i 0) (k ∙ sym here) ∙ get_or-append-add t (255 ∷ []) 0 0 in
    let ff : eqb (slice_index bytes (length bytes - 1)) 255 ≡ true = eq-eqb _ _ at in
    let front : take (length bytes - 1) bytes ≡ t = ap (λ (n : ℕ). take n bytes) k ∙ take_at t (255 ∷ []) (length t) refl in
    rw (some_left, ff, front) refl

-- ---- the pieces in a row

after_version : (tc w s e a t pr deps vars dir v : Bytes) → tc ++ w ++ (s ++ e ++ a ++ t ++ pr) ++ deps ++ vars ++ dir ++ v ++ (255 ∷ []) ≡ (tc ++ (w ++ ((s ++ (e ++ (a ++ (t ++ pr)))) ++ (deps ++ (vars ++ dir))))) ++ (v ++ (255 ∷ []))
after_version tc w s e a t pr deps vars dir v = simp append_assoc

in_row : (tc w s e a t pr deps vars dir v : Bytes) → (56 ∷ []) ++ tc ++ w ++ (s ++ e ++ a ++ t ++ pr) ++ deps ++ vars ++ dir ++ v ++ (255 ∷ []) ≡ (56 ∷ (tc ++ (w ++ ((s ++ (e ++ (a ++ (t ++ pr)))) ++ (deps ++ (vars ++ dir)))))) ++ (v ++ (255 ∷ []))
in_row tc w s e a t pr deps vars dir v = ap (λ (x : Bytes). 56 ∷ x) (after_version tc w s e a t pr deps vars dir v)

material_in_row : (p : Parts) → material_of p ≡ front_spelled (front_of p) ++ (p.version ++ (255 ∷ []))
material_in_row p = in_row (joined p.toolchain) (framed (joined p.words)) (joined p.sources) (joined p.externs) (joined p.archives) (unwrap_or p.target []) (unwrap_or p.profile []) (flat_map env_dep_bytes p.env_deps) (flat_map pair_bytes p.variables) (framed p.dir) p.version

-- ---- what lies in bytes that can be counted can be counted

record PiecesFit (words deps pairs place : Bytes) : Type 0 where
  in_words : FitsFrame words
  in_deps : FitsFrame deps
  in_pairs : FitsFrame pairs
  in_place : FitsFrame place

pieces_fit : (tc w f deps vars dir v : Bytes) → FitsFrame ((56 ∷ []) ++ tc ++ w ++ f ++ deps ++ vars ++ dir ++ v ++ (255 ∷ [])) → PiecesFit w deps vars dir
pieces_fit tc w f deps vars dir v fits =
    let len : length (tc ++ w ++ f ++ deps ++ vars ++ dir ++ v ++ (255 ∷ [])) ≡ length tc + length w + length f + length deps + length vars + length dir + length v + 1 = simp length-append in
    let all : length (tc ++ w ++ f ++ deps ++ vars ++ dir ++ v ++ (255 ∷ [])) < 2 ^ 64 = omega (arith, fits) in
    record { in_words = omega (arith, len, all); in_deps = omega (arith, len, all); in_pairs = omega (arith, len, all); in_place = omega (arith, len, all) }

frame_fits : (t : Bytes) → FitsFrame (framed t) → FitsFrame t
frame_fits t fits = omega (arith, length-append (number (length t)) t)

pair_fits : (pair : Bytes × Bytes) → FitsFrame (pair_bytes pair) → PairFits pair
pair_fits pair fits =
    let len : length (pair_bytes pair) ≡ length (framed pair.0) + length (61 ∷ framed pair.1) = length-append (framed pair.0) (61 ∷ framed pair.1) in
    let one : length (framed pair.0) ≡ length (number (length pair.0)) + length pair.0 = length-append (number (length pair.0)) pair.0 in
    let other : length (framed pair.1) ≡ length (number (length pair.1)) + length pair.1 = length-append (number (length pair.1)) pair.1 in
    (omega (arith, len, one, fits), omega (arith, len, other, fits))

row_fits : {X : Type 0} (f : X → Bytes) (P : X → Type 0) → ((x : X) → FitsFrame (f x) → P x) → (xs : List X) → FitsFrame (flat_map f xs) → AllByRecursion P xs
row_fits f P one [] fits = tt
row_fits f P one (x ∷ xs) fits =
    let len : length (flat_map f (x ∷ xs)) ≡ length (f x) + length (flat_map f xs) = ap length (flat_map-cons f x xs) ∙ length-append (f x) (flat_map f xs) in
    (one x (omega (arith, len, fits)), row_fits f P one xs (omega (arith, len, fits)))

-- ---- all of it

shape_is : (s other : RShape) → s.toolchain ≡ other.toolchain → s.words ≡ other.words → s.sources ≡ other.sources → s.externs ≡ other.externs → s.archives ≡ other.archives → s.has_target ≡ other.has_target → s.has_profile ≡ other.has_profile → s.env_deps ≡ other.env_deps → s.variables ≡ other.variables → s ≡ other
shape_is s other a b c d e f g h k = λ i. record { toolchain = a i; words = b i; sources = c i; externs = d i; archives = e i; has_target = f i; has_profile = g i; env_deps = h i; variables = k i }

pub record IsRead (width : ℕ) (s : RShape) (bytes : Bytes) (p : Parts) : Type 0 where
  pub digests : HasDigests width p
  pub material : material_of p ≡ bytes
  pub shape : shape_of p ≡ s

pub parts_take : (width : ℕ) (s : RShape) (bytes : Bytes) (p : Parts) → IsBytes bytes → parts_at width s bytes ≡ Some p → IsRead width s bytes p
unfolding parts_at
parts_take width s bytes p fits e =
    let a = bind_some (front_at width s bytes) (λ front. version_at front.1 >>= λ version. Some (parts_from front.0 version)) p e in
    let b = bind_some (version_at a.0.1) (λ version. Some (parts_from a.0.0 version)) p a.2 in
    let t = (front_format width s).takes bytes a.0 fits a.1 in
    let v = version_takes a.0.1 b.0 b.1 in
    let files = t.1.1.1.0 in
    let around = t.1.1.1.1 in
    let made = parts_from a.0.0 b.0 in
    let whole : material_of made ≡ bytes = material_in_row made ∙ ap (λ (rest : Bytes). front_spelled a.0.0 ++ rest) (sym v) ∙ sym t.0.parts in
    let digests : HasDigests width made = record { toolchain = t.1.0.0; sources = files.0.0; externs = files.1.0.0; archives = files.1.1.0.0; target = files.1.1.1.0.0; profile = files.1.1.1.1.0 } in
    let shaped : shape_of made ≡ s = shape_is (shape_of made) s t.1.0.1 t.1.1.0.1 files.0.1 files.1.0.1 files.1.1.0.1 files.1.1.1.0.1 files.1.1.1.1.1 around.0.1 around.1.0.1 in
    subst (IsRead width s bytes) (some_is made p b.2) (record { digests = digests; material = whole; shape = shaped })

parts_again : (width : ℕ) (p : Parts) → HasDigests width p → FitsFrame (material_of p) → parts_at width (shape_of p) (material_of p) ≡ Some p
unfolding parts_at
parts_again width p is fits =
    let f = pieces_fit (joined p.toolchain) (framed (joined p.words)) (joined p.sources ++ joined p.externs ++ joined p.archives ++ unwrap_or p.target [] ++ unwrap_or p.profile []) (flat_map env_dep_bytes p.env_deps) (flat_map pair_bytes p.variables) (framed p.dir) p.version fits in
    let deps = row_fits env_dep_bytes EnvDepFits (λ dep. pair_fits (dep.name, unwrap_or dep.value [])) p.env_deps f.in_deps in
    let vars = row_fits pair_bytes PairFits pair_fits p.variables f.in_pairs in
    let all : FrontFits width (shape_of p) (front_of p) = ((is.toolchain, refl), ((frame_fits (joined p.words) f.in_words, refl), (((is.sources, refl), ((is.externs, refl), ((is.archives, refl), ((is.target, refl), (is.profile, refl))))), ((deps, refl), ((vars, refl), frame_fits p.dir f.in_place))))) in
    let read : front_at width (shape_of p) (material_of p) ≡ Some (front_of p, p.version ++ (255 ∷ [])) = ap (front_at width (shape_of p)) (material_in_row p) ∙ (front_format width (shape_of p)).again (front_of p) (p.version ++ (255 ∷ [])) all in
    rw (read, version_again p.version) refl

-- whatever has these bytes and this shape is read
pub parts_are_read : (width : ℕ) (s : RShape) (bytes : Bytes) (p : Parts) → HasDigests width p → FitsFrame bytes → material_of p ≡ bytes → shape_of p ≡ s → parts_at width s bytes ≡ Some p
parts_are_read width s bytes p is fits spelled shaped =
    ap (λ (other : RShape). parts_at width other bytes) (sym shaped) ∙ ap (parts_at width (shape_of p)) (sym spelled) ∙ parts_again width p is (subst FitsFrame (sym spelled) fits)

-- so equal ones are of equal pieces
pub parts_are_told : (width : ℕ) (one other : Parts) → HasDigests width one → HasDigests width other → FitsFrame (material_of one) → material_of one ≡ material_of other → shape_of one ≡ shape_of other → one ≡ other
parts_are_told width one other is is_other fits same shaped =
    some_is one other (sym (parts_again width one is fits) ∙ parts_are_read width (shape_of one) (material_of one) other is_other fits (sym same) (sym shaped))
