-- Calls of which keys are made one after another: one more.
use Rattle.std.proofs.Common.{◌≡◌, ℕ, ℤ, Bool, true, false, List, [], ◌∷◌, ◌++◌, length, map, Ok, Err, refl, sym, ap, subst, ◌∙◌, append_assoc, append-nil, arith, take, drop, get_or, ◌<◌, ◌+◌, add-zero}
use Rattle.std.proofs.Math.ListN.{set}
use Rattle.std.proofs.Math.Seq.{drop-drop}
use Rattle.std.proofs.lemmas.List.{take_more, take_more_set, get_or-drop, get_or-map, drop-set-lt, length-drop, length-map, length-take-le}
use Rattle.std.proofs.lemmas.List.Elements.{Contains-append_left}
use Rattle.std.specs.Prelude.{IfOk, string_bytes}
use Rattle.std.specs.List.{AllByRecursion, zip}
use Rattle.base_files.specs.Bytes.{Bytes}
use Rattle.base_files.specs.Tree.{Tree}
use Rattle.cmdlines.specs.Compilers.{Traits}
use Rattle.cmdlines_tables.specs.declared.compiler.CCompilerKind.{CCompilerKind}
use Rattle.ckeys_base.specs.Shelf.{IsEmpty, Shelf}
use Rattle.ckeys_include_records.specs.declared.entry_key.EntryKey.{EntryKey}
use Rattle.ckeys_include_records.specs.Records.{Record}
use Rattle.ckeys.specs.Calls.{PrintedCall, record_by}
use Rattle.ckeys.specs.Entries.{EntryInvariant, EntryPremises, Held, asking}
use Rattle.ckeys.specs.EntryTurns.{KeyFrom}
use Rattle.ckeys_records.specs.Folders.{Settings}
use Rattle.ckeys.specs.HashCalls.{AsksOver, CallView, KeyAnswer, KeyRun, asking_among}
use Rattle.ckeys.specs.Hashers.{call_by, call_of}
use Rattle.ckeys_records.specs.Keys.{key_of}
use Rattle.ckeys_records.specs.Meaning.{Variables}
use Rattle.ckeys.specs.declared.call_list.HashCall.{HashCall}
use Rattle.ckeys.specs.declared.hasher.CCompilerHasher.{CCompilerHasher}
use Rattle.ckeys.specs.declared.place.CallPlace.{CallPlace}

-- a front of a list of calls is assumed no more of
pub front_premises : (digest_of : Bytes → Bytes) (front more : List PrintedCall) → EntryPremises digest_of (front ++ more) → EntryPremises digest_of front
front_premises digest_of front more p = record {
  distinct = λ x y hx hy e. p.distinct x y
      (record { by = hx.by; among = Contains-append_left front more hx.by hx.among; is = hx.is })
      (record { by = hy.by; among = Contains-append_left front more hy.by hy.among; is = hy.is }) e;
  reprinted = λ earlier now text names in_b in_p. p.reprinted earlier now text names (Contains-append_left front more earlier in_b) (Contains-append_left front more now in_p);
}

asking_more : (calls : List PrintedCall) (p : PrintedCall) → asking_among (calls ++ p ∷ []) ≡ asking_among calls ++ asking p
asking_more [] p = append-nil (asking p)
asking_more (q ∷ calls) p = ap (λ l. asking q ++ l) (asking_more calls p) ∙ sym (append_assoc (asking q) (asking_among calls) (asking p))

-- the calls so far that have entry keys, after earlier ones
pub asked_more : (earlier calls : List PrintedCall) (p : PrintedCall) → earlier ++ asking_among (calls ++ p ∷ []) ≡ (earlier ++ asking_among calls) ++ asking p
asked_more earlier calls p = ap (λ l. earlier ++ l) (asking_more calls p) ∙ sym (append_assoc earlier (asking_among calls) (asking p))

module _ {A B : Type 0} where
  -- two lists that grow together
  zip_more : (xs : List A) (ys : List B) (x : A) (y : B) → length xs ≡ length ys → zip (xs ++ x ∷ []) (ys ++ y ∷ []) ≡ zip xs ys ++ (x, y) ∷ []
  zip_more [] [] x y h = refl
  zip_more [] (w ∷ ys) x y h = absurd (omega arith)
  zip_more (v ∷ xs) [] x y h = absurd (omega arith)
  zip_more (v ∷ xs) (w ∷ ys) x y h = ap (λ l. (v, w) ∷ l) (zip_more xs ys x y (omega arith))

  length_zip : (xs : List A) (ys : List B) → length xs ≡ length ys → length (zip xs ys) ≡ length ys
  length_zip [] [] h = refl
  length_zip [] (w ∷ ys) h = absurd (omega arith)
  length_zip (v ∷ xs) [] h = absurd (omega arith)
  length_zip (v ∷ xs) (w ∷ ys) h = let shorter = length_zip xs ys (omega arith) in omega arith

  -- what holds of each holds of one more
  pub all_more : (P : A × B → Type 0) (xs : List (A × B)) (x : A × B) → AllByRecursion P xs → P x → AllByRecursion P (xs ++ x ∷ [])
  all_more P [] x held one = (one, tt)
  all_more P (v ∷ xs) x held one = (held.0, all_more P xs x held.1 one)

  pairs_more : (P : A × B → Type 0) (xs : List A) (ys : List B) (x : A) (y : B) → length xs ≡ length ys → AllByRecursion P (zip xs ys) → P (x, y) → AllByRecursion P (zip (xs ++ x ∷ []) (ys ++ y ∷ []))
  pairs_more P xs ys x y h held one = subst (AllByRecursion P) (sym (zip_more xs ys x y h)) (all_more P (zip xs ys) (x, y) held one)

-- at a loop over a list whose items are replaced one by one: each is followed by what it became, and by an answer
module _ {C B : Type 0} (first now : List C) (rs : List B) (i : ℕ) (rest : drop i now ≡ drop i first) (lt : i < length now) (count : length rs ≡ i) where
  front_lt : i < length first
  front_lt =
      let long : length (drop i now) ≡ length (drop i first) = ap length rest in
      omega (arith, length-drop i now, length-drop i first)

  -- the item that comes next is as it was
  next_was : (d : C) → get_or now i d ≡ get_or first i d
  next_was d =
      let here = rw add-zero at (get_or-drop i now 0 d) in
      let there = rw add-zero at (get_or-drop i first 0 d) in
      sym here ∙ ap (λ l. get_or l 0 d) rest ∙ there

  -- what is left after it
  pub rest_more : (c : C) → drop (i + 1) (set now i c) ≡ drop (i + 1) first
  rest_more c = drop-set-lt (i + 1) now i c (omega arith) ∙ sym (drop-drop 1 i now) ∙ ap (drop 1) rest ∙ drop-drop 1 i first

  pub map_more : {A : Type 0} (f : C → A) (d : C) → take (i + 1) (map f first) ≡ take i (map f first) ++ f (get_or now i d) ∷ []
  map_more f d =
      let item : get_or (map f first) i (f d) ≡ f (get_or now i d) = get_or-map f first i d (f d) front_lt ∙ ap f (sym (next_was d)) in
      take_more (map f first) i (f d) (let shorter = front_lt in omega (arith, length-map first f)) ∙ ap (λ x. take i (map f first) ++ x ∷ []) item

  pub mapped_more : {A : Type 0} (f : C → A) (P : A × B → Type 0) (d : C) (r : B) → AllByRecursion P (zip (take i (map f first)) rs) → P (f (get_or now i d), r) → AllByRecursion P (zip (take (i + 1) (map f first)) (rs ++ r ∷ []))
  mapped_more f P d r held one =
      let level : length (take i (map f first)) ≡ length rs = length-take-le i (map f first) (let shorter = front_lt in omega (arith, length-map first f)) ∙ sym count in
      subst (λ l. AllByRecursion P (zip l (rs ++ r ∷ []))) (sym (map_more f d)) (pairs_more P (take i (map f first)) rs (f (get_or now i d)) r level held one)

  pub zipped_more : (d c : C) (r : B) → zip (zip (take (i + 1) first) (take (i + 1) (set now i c))) (rs ++ r ∷ []) ≡ zip (zip (take i first) (take i now)) rs ++ ((get_or now i d, c), r) ∷ []
  zipped_more d c r =
      let begins : length (take i first) ≡ i = length-take-le i first (let shorter = front_lt in omega arith) in
      let ends : length (take i now) ≡ i = length-take-le i now (omega arith) in
      let pairs : length (zip (take i first) (take i now)) ≡ length rs = length_zip (take i first) (take i now) (begins ∙ sym ends) ∙ ends ∙ sym count in
      let grown : zip (take (i + 1) first) (take (i + 1) (set now i c)) ≡ zip (take i first) (take i now) ++ (get_or now i d, c) ∷ [] =
      ap (λ l. zip l (take (i + 1) (set now i c))) (take_more first i d front_lt ∙ ap (λ x. take i first ++ x ∷ []) (sym (next_was d)))
      ∙ ap (zip (take i first ++ get_or now i d ∷ [])) (take_more_set now i c lt)
      ∙ zip_more (take i first) (take i now) (get_or now i d) c (begins ∙ sym ends) in
      ap (λ l. zip l (rs ++ r ∷ [])) grown ∙ zip_more (zip (take i first) (take i now)) rs (get_or now i d, c) r pairs

-- a run goes on by one call
pub run_more : {I F T : Type 0} (digest_of : Bytes → Bytes) (view : CallView I F T) (settings : Settings) (old mid new : Shelf EntryKey Record) (run : List ((HashCall I F T × HashCall I F T) × KeyAnswer)) (begin end : HashCall I F T) (answer : KeyAnswer) → KeyRun digest_of view settings old run mid → AsksOver digest_of view settings mid new begin end answer → KeyRun digest_of view settings old (run ++ ((begin, end), answer) ∷ []) new
run_more digest_of view settings old mid new [] begin end answer r asks = (new, subst (λ s. AsksOver digest_of view settings s new begin end answer) r asks, refl)
run_more digest_of view settings old mid new (x ∷ run) begin end answer r asks = (r.0, r.1, run_more digest_of view settings r.0 mid new run begin end answer r.2 asks)

-- a call at a place is one under what the place holds
pub call_at_place : {I : Type 0} (kind_of : I → CCompilerKind) (traits : I → Traits) (hasher : CCompilerHasher I) (place : CallPlace) (dir : Bytes) (env : Variables) (moment : ℤ) (settings : Settings) (files : Tree)
    → place.dir.now ≡ dir → place.env.now ≡ env → place.moment ≡ moment → place.config.now ≡ settings → call_by kind_of traits hasher place files ≡ call_of kind_of traits hasher dir env moment settings files
call_at_place kind_of traits hasher place dir env moment settings files d e m s = cc

-- where no record gave the key, it is that of the text
pub text_key : (digest_of : Bytes → Bytes) (p : PrintedCall) (held : Held) (answer : KeyAnswer) → IfOk answer (λ made. KeyFrom digest_of p held made.2 (string_bytes made.0)) → IfOk answer (λ made. made.2 ≡ false → string_bytes made.0 ≡ key_of digest_of (record_by p))
text_key digest_of p held (Ok made) from = by made.2 from
  where
    by : (b : Bool) → KeyFrom digest_of p held b (string_bytes made.0) → b ≡ false → string_bytes made.0 ≡ key_of digest_of (record_by p)
    by true k h = cc
    by false k h = k
text_key digest_of p held (Err fault) from = tt

-- an empty store says nothing of earlier calls
pub no_records : (digest_of : Bytes → Bytes) (settings : Settings) (shelf : Shelf EntryKey Record) → IsEmpty shelf → EntryInvariant digest_of settings [] shelf.held
no_records digest_of settings shelf empty key entry h = let none = empty key in cc
