-- The order of keys.
use Rattle.std.proofs.Common.{◌≡◌, Bool, true, false, List, [], ◌∷◌, length, ◌<◌, refl, sym, ap, ◌∙◌, arith}
use Rattle.std.specs.Prelude.{◌&&◌}
use Rattle.std.specs.Ordering.{nat_cmp, is_lt, is_eq, ordering_reverse}
use Rattle.std.specs.declared.cmp.Ordering.{Ordering}
use Rattle.std.specs.declared.cmp.Ordering.TheVariants.{Less, Equal, Greater}
use Rattle.std.specs.Cmp.Lexicographic.{slice_cmp}
use Rattle.std.specs.Str.{bytes_eq}
use Rattle.std.proofs.lemmas.Bool.{and_parts}
use Rattle.std.proofs.lemmas.Cmp.{nat_list_cmp_total}
use Rattle.std.proofs.lemmas.Map.Text.{is_eq-slice_cmp}
use Rattle.std.proofs.lemmas.Slice.Eq.{bytes_eq-Decides}
use Rattle.base_files.specs.Bytes.{Bytes}
use Rattle.ckeys_include_records.specs.Records.{is_before, rises}
use Rattle.ckeys_include_records.specs.Results.{put_in}
use Rattle.ckeys_include_records.specs.declared.entry.CachedResult.{CachedResult}

pub same_bytes : (x y : Bytes) → bytes_eq x y ≡ true → x ≡ y
same_bytes x y h = (bytes_eq-Decides x y).0 h

-- of two keys that differ one is before the other
pub other_way : (x y : Bytes) → is_before x y ≡ false → bytes_eq x y ≡ false → is_before y x ≡ true
other_way x y not_before differ = by (slice_cmp nat_cmp x y) refl
  where
    by : (o : Ordering) → slice_cmp nat_cmp x y ≡ o → is_before y x ≡ true
    by Less e = let clash : true ≡ false = sym (ap is_lt e) ∙ not_before in cc
    by Equal e = let clash : true ≡ false = sym (ap is_eq e) ∙ is_eq-slice_cmp x y ∙ differ in cc
    by Greater e = ap is_lt (nat_list_cmp_total.antisymm y x ∙ ap ordering_reverse e)

pub rises-rest : (r : CachedResult) (results : List CachedResult) → rises (r ∷ results) ≡ true → rises results ≡ true
unfolding rises
rises-rest r [] h = refl
rises-rest r (q ∷ results) h = (and_parts _ _ h).1

-- a result of the same key may take the place of the first
pub rises-same : (r q : CachedResult) (results : List CachedResult) → q.key ≡ r.key → rises (q ∷ results) ≡ true → rises (r ∷ results) ≡ true
unfolding rises
rises-same r q [] same h = refl
rises-same r q (p ∷ results) same h = ap (λ (key : Bytes). is_before key p.key && rises (p ∷ results)) (sym same) ∙ h

pub put_in-before : (r q : CachedResult) (results : List CachedResult) → is_before q.key r.key ≡ true → put_in r (q ∷ results) ≡ q ∷ put_in r results
unfolding put_in
put_in-before r q results before = rw before refl

pub put_in-same : (r q : CachedResult) (results : List CachedResult) → is_before q.key r.key ≡ false → bytes_eq q.key r.key ≡ true → put_in r (q ∷ results) ≡ r ∷ results
unfolding put_in
put_in-same r q results before same = rw (before, same) refl

pub put_in-after : (r q : CachedResult) (results : List CachedResult) → is_before q.key r.key ≡ false → bytes_eq q.key r.key ≡ false → put_in r (q ∷ results) ≡ r ∷ q ∷ results
unfolding put_in
put_in-after r q results before same = rw (before, same) refl

-- the first result of a list whose first key is after q's may be followed by another
rises-two : (q r : CachedResult) (results : List CachedResult) → is_before q.key r.key ≡ true → rises (r ∷ results) ≡ true → rises (q ∷ r ∷ results) ≡ true
unfolding rises
rises-two q r results before h = rw (before, h) refl

pub rises-first : (q r : CachedResult) (results : List CachedResult) → rises (q ∷ r ∷ results) ≡ true → (is_before q.key r.key ≡ true) × (rises (r ∷ results) ≡ true)
unfolding rises
rises-first q r results h = and_parts _ _ h

rises-after : (q r : CachedResult) (results : List CachedResult) → is_before q.key r.key ≡ true → rises (q ∷ results) ≡ true → rises (q ∷ put_in r results) ≡ true
unfolding put_in rises
rises-after q r [] before h = rises-two q r [] before refl
rises-after q r (p ∷ results) before h = by (is_before p.key r.key) refl (rises-first q p results h) (λ e rest. rises-after p r results e rest)
  where
    by_same : is_before p.key r.key ≡ false → rises (p ∷ results) ≡ true → (b : Bool) → bytes_eq p.key r.key ≡ b → rises (q ∷ put_in r (p ∷ results)) ≡ true
    by_same e rest true s = ap (λ (l : List CachedResult). rises (q ∷ l)) (put_in-same r p results e s) ∙ rises-two q r results before (rises-same r p results (same_bytes p.key r.key s) rest)
    by_same e rest false s = ap (λ (l : List CachedResult). rises (q ∷ l)) (put_in-after r p results e s) ∙ rises-two q r (p ∷ results) before (rises-two r p results (other_way p.key r.key e s) rest)

    by : (b : Bool) → is_before p.key r.key ≡ b → (is_before q.key p.key ≡ true) × (rises (p ∷ results) ≡ true) → (is_before p.key r.key ≡ true → rises (p ∷ results) ≡ true → rises (p ∷ put_in r results) ≡ true) → rises (q ∷ put_in r (p ∷ results)) ≡ true
    by true e parts deeper = ap (λ (l : List CachedResult). rises (q ∷ l)) (put_in-before r p results e) ∙ rises-two q p (put_in r results) parts.0 (deeper e parts.1)
    by false e parts deeper = by_same e parts.1 (bytes_eq p.key r.key) refl

-- keys still rise
pub rises-put_in : (r : CachedResult) (results : List CachedResult) → rises results ≡ true → rises (put_in r results) ≡ true
unfolding rises put_in
rises-put_in r [] h = refl
rises-put_in r (q ∷ results) h = by (is_before q.key r.key) refl
  where
    by_same : is_before q.key r.key ≡ false → (b : Bool) → bytes_eq q.key r.key ≡ b → rises (put_in r (q ∷ results)) ≡ true
    by_same e true s = ap rises (put_in-same r q results e s) ∙ rises-same r q results (same_bytes q.key r.key s) h
    by_same e false s = ap rises (put_in-after r q results e s) ∙ rises-two r q results (other_way q.key r.key e s) h

    by : (b : Bool) → is_before q.key r.key ≡ b → rises (put_in r (q ∷ results)) ≡ true
    by true e = ap rises (put_in-before r q results e) ∙ rises-after q r results e h
    by false e = by_same e (bytes_eq q.key r.key) refl

-- fewer than two results
pub rises-short : (results : List CachedResult) → length results < 2 → rises results ≡ true
unfolding rises
rises-short [] lt = refl
rises-short (r ∷ []) lt = refl
rises-short (r ∷ q ∷ results) lt = absurd (omega arith)
