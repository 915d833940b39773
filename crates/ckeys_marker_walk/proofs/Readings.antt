-- What the grammar of lines says, a scanner finds.
use Rattle.std.proofs.Common.{◌≡◌, ◌≤◌, ◌==◌, ◌||◌, ◌&&◌, ◌++◌, ℕ, Bool, true, false, cond, List, [], ◌∷◌, Option, None, Some, drop, refl, ap, sym, ◌∙◌, arith}
use Rattle.std.proofs.lemmas.Bool.{leb-true}
use Rattle.std.specs.List.{AllByRecursion, starts_with}
use Rattle.std.specs.Prelude.{codes, nat_eq, nat_le}
use Rattle.ckeys_marker_walk.proofs.Meaning.{meant-spelled, not_slash}
use Rattle.ckeys_marker_walk.proofs.Quoting.{led_all}
use Rattle.ckeys_marker_walk.specs.Markers.{Start, bare, worded, start_text, is_digit, is_space, IsMarker, IsNumbered, IsRefusing, IsRunOf, begins_special, misspelled, unreadable}
use Rattle.ckeys_marker_walk.specs.Scanning.{Name, closed, unclosed, Sight, named, refused, after_digits, after_hash, after_run, after_spaces, led_by, name_from, past, quoted_at, sight_by, sight_in, sight_with}
use Rattle.ckeys_marker_walk.specs.Scanning as scan
use Rattle.ckeys_marker_walk.specs.Spelling.{is_special, meant, spelled, spelled_byte}

-- whether the first byte passes
abbrev pub heads : (ℕ → Bool) → List ℕ → Bool
heads test [] = false
heads test (b ∷ rest) = test b

pub ends_run : (test : ℕ → Bool) (rest : List ℕ) → heads test rest ≡ false → after_run test rest ≡ rest
ends_run test [] h = refl
ends_run test (b ∷ rest) h = ap (λ (t : Bool). cond t (after_run test rest) (b ∷ rest)) h

over_run : (test : ℕ → Bool) (run rest : List ℕ) → AllByRecursion (λ b. test b ≡ true) run → after_run test (run ++ rest) ≡ after_run test rest
over_run test [] rest h = refl
over_run test (b ∷ run) rest h = ap (λ (t : Bool). cond t (after_run test (run ++ rest)) (b ∷ (run ++ rest))) h.0 ∙ over_run test run rest h.1

pub past_run : (test : ℕ → Bool) (run rest : List ℕ) → IsRunOf test run → past test (run ++ rest) ≡ Some (after_run test rest)
past_run test [] rest h = absurd (omega (arith, h.some))
past_run test (b ∷ run) rest h = ap (λ (t : Bool). cond t (Some (after_run test (run ++ rest))) None) h.each.0 ∙ ap Some (over_run test run rest h.each.1)

split_and : (a b : Bool) → (a && b) ≡ true → (a ≡ true) × (b ≡ true)
split_and true b h = (refl, h)
split_and false b h = cc

pub is_the_space : (b : ℕ) → is_space b ≡ true → b ≡ 32
is_the_space b h =
    let both = split_and (nat_le 32 b) (nat_le b 32) h in
    let low : 32 ≤ b = leb-true 32 b both.0 in
    let high : b ≤ 32 = leb-true b 32 both.1 in
    omega arith

unspaced : (b : ℕ) (space : Bool) → is_space b ≡ space → is_digit b ≡ true → is_space b ≡ false
unspaced b false e h = e
unspaced b true e h = let t = is_the_space b e in let f : is_digit b ≡ false = ap is_digit t in cc

no_space : (digits rest : List ℕ) → IsRunOf is_digit digits → heads is_space (digits ++ rest) ≡ false
no_space [] rest h = absurd (omega (arith, h.some))
no_space (b ∷ digits) rest h = unspaced b (is_space b) refl h.each.0

no_digit : (gap rest : List ℕ) → IsRunOf is_space gap → heads is_digit (gap ++ rest) ≡ false
no_digit [] rest h = absurd (omega (arith, h.some))
no_digit (b ∷ gap) rest h = ap is_digit (is_the_space b h.each.0)

no_line : (spaces rest : List ℕ) → IsRunOf is_space spaces → starts_with nat_eq (spaces ++ rest) (codes "line") ≡ false
no_line [] rest h = absurd (omega (arith, h.some))
no_line (b ∷ spaces) rest h = ap (λ (n : ℕ). starts_with nat_eq (n ∷ (spaces ++ rest)) (codes "line")) (is_the_space b h.each.0)

-- after its start
with_start : (start : Start) (spaces digits rest : List ℕ) → IsRunOf is_space spaces → IsRunOf is_digit digits → sight_with start (spaces ++ (digits ++ rest)) ≡ sight_by start (quoted_at (past is_space (after_run is_digit rest)))
with_start start spaces digits rest s d =
    ap (after_spaces start) (past_run is_space spaces (digits ++ rest) s ∙ ap Some (ends_run is_space (digits ++ rest) (no_space digits rest d)))
    ∙ ap (after_digits start) (past_run is_digit digits rest d)

started : (start : Start) (spaces digits rest : List ℕ) → IsRunOf is_space spaces → IsRunOf is_digit digits → sight_in (start_text start ++ (spaces ++ (digits ++ rest))) ≡ sight_with start (spaces ++ (digits ++ rest))
started bare spaces digits rest s d =
    let more = spaces ++ (digits ++ rest) in
    ap (λ (t : Bool). cond t (sight_with worded (drop 4 more)) (sight_with bare more)) (no_line spaces (digits ++ rest) s)
started worded spaces digits rest s d = refl

-- what a line says that begins with a number
pub numbered_reads : (start : Start) (line rest : List ℕ) → IsNumbered start line rest → sight_in line ≡ sight_by start (quoted_at (past is_space (after_run is_digit rest)))
numbered_reads start line rest n = ap sight_in n.whole ∙ started start n.spaces n.digits rest n.are_spaces n.are_digits ∙ with_start start n.spaces n.digits rest n.are_spaces n.are_digits

-- and then a quote
pub quoted_reads : (start : Start) (line gap rest : List ℕ) → IsRunOf is_space gap → IsNumbered start line (gap ++ 34 ∷ rest) → sight_in line ≡ sight_by start (name_from false rest)
quoted_reads start line gap rest g n =
    numbered_reads start line (gap ++ 34 ∷ rest) n
    ∙ ap (λ (l : List ℕ). sight_by start (quoted_at (past is_space l))) (ends_run is_digit (gap ++ 34 ∷ rest) (no_digit gap (34 ∷ rest) g))
    ∙ ap (λ (o : Option (List ℕ)). sight_by start (quoted_at o)) (past_run is_space gap (34 ∷ rest) g)

not_quote : (b : ℕ) (quote slash : Bool) → (b == 34) ≡ quote → (b == 92) ≡ slash → is_special b ≡ false → (b == 34) ≡ false
not_quote b false slash q s h = q
not_quote b true slash q s h = let t : is_special b ≡ (true || slash) = (λ j. q j || s j) in cc

led_twice : (b : ℕ) (bytes : List ℕ) (name : Name) → led_by b (led_all bytes name) ≡ led_all (b ∷ bytes) name
led_twice b bytes (closed raw) = refl
led_twice b bytes unclosed = refl
led_twice b bytes scan.misspelled = refl

byte_reads : (b : ℕ) (bytes rest : List ℕ) (name : Name) (special : Bool) → is_special b ≡ special → name_from false (bytes ++ rest) ≡ led_all bytes name → name_from false ((spelled_byte b ++ bytes) ++ rest) ≡ led_all (spelled_byte b ++ bytes) name
byte_reads b bytes rest name true is h =
    ap (λ (t : Bool). name_from false ((cond t (92 ∷ b ∷ []) (b ∷ []) ++ bytes) ++ rest)) is
    ∙ ap (λ (t : Bool). led_by 92 (cond t (led_by b (name_from false (bytes ++ rest))) scan.misspelled)) is
    ∙ ap (λ (n : Name). led_by 92 (led_by b n)) h
    ∙ ap (led_by 92) (led_twice b bytes name) ∙ led_twice 92 (b ∷ bytes) name
    ∙ sym (ap (λ (t : Bool). led_all (cond t (92 ∷ b ∷ []) (b ∷ []) ++ bytes) name) is)
byte_reads b bytes rest name false is h =
    let quote = not_quote b (b == 34) (b == 92) refl refl is in
    let slash = not_slash b (b == 34) (b == 92) refl refl is in
    ap (λ (t : Bool). name_from false ((cond t (92 ∷ b ∷ []) (b ∷ []) ++ bytes) ++ rest)) is
    ∙ ap (λ (t : Bool). cond t (closed []) (led_by b (name_from (b == 92) (bytes ++ rest)))) quote
    ∙ ap (λ (t : Bool). led_by b (name_from t (bytes ++ rest))) slash
    ∙ ap (led_by b) h ∙ led_twice b bytes name
    ∙ sym (ap (λ (t : Bool). led_all (cond t (92 ∷ b ∷ []) (b ∷ []) ++ bytes) name) is)

nothing_led : (name : Name) → name ≡ led_all [] name
nothing_led (closed raw) = refl
nothing_led unclosed = refl
nothing_led scan.misspelled = refl

-- a spelled name is put in front of what comes after it
pub spelled_reads : (name rest : List ℕ) → name_from false (spelled name ++ rest) ≡ led_all (spelled name) (name_from false rest)
spelled_reads [] rest = nothing_led (name_from false rest)
spelled_reads (b ∷ name) rest = byte_reads b (spelled name) rest (name_from false rest) (is_special b) refl (spelled_reads name rest)

closed_at : (bytes : List ℕ) → bytes ++ [] ≡ bytes
closed_at [] = refl
closed_at (b ∷ bytes) = ap (λ (l : List ℕ). b ∷ l) (closed_at bytes)

pub marker_reads : (line name : List ℕ) → IsMarker line name → sight_in line ≡ Some (named (spelled name))
marker_reads line name m =
    quoted_reads m.start line m.gap (spelled name ++ 34 ∷ m.after) m.is_gap m.numbered
    ∙ ap (sight_by m.start) (spelled_reads name (34 ∷ m.after) ∙ ap closed (closed_at (spelled name)))

named_alike : (a b : List ℕ) → Some (named a) ≡ Some (named b) → a ≡ b
named_alike a b h = cc

pub one_name : (line name other : List ℕ) → IsMarker line name → IsMarker line other → name ≡ other
one_name line name other m n =
    sym (meant-spelled name) ∙ ap meant (named_alike (spelled name) (spelled other) (sym (marker_reads line name m) ∙ marker_reads line other n)) ∙ meant-spelled other

broken_at : (after : List ℕ) → begins_special after ≡ false → name_from false (92 ∷ after) ≡ scan.misspelled
broken_at [] h = refl
broken_at (b ∷ rest) h = ap (λ (t : Bool). led_by 92 (cond t (led_by b (name_from false rest)) scan.misspelled)) h

sure : (line : List ℕ) (name : Name) → sight_in line ≡ sight_by bare name → ((raw : List ℕ) → sight_in line ≡ Some (named raw) → ⊥) → sight_in line ≡ Some refused
sure line (closed raw) e h = absurd (h raw e)
sure line unclosed e h = e
sure line scan.misspelled e h = e

module _ (back : (line raw : List ℕ) → sight_in line ≡ Some (named raw) → IsMarker line (meant raw)) where
  pub refusing_reads : (line : List ℕ) → IsRefusing line → sight_in line ≡ Some refused
  refusing_reads line (unreadable rest n none) = sure line (quoted_at (past is_space (after_run is_digit rest))) (numbered_reads bare line rest n) (λ raw e. none (meant raw) (back line raw e))
  refusing_reads line (misspelled start gap front after g h n) =
      quoted_reads start line gap (spelled front ++ 92 ∷ after) g n
      ∙ ap (sight_by start) (spelled_reads front (92 ∷ after) ∙ ap (led_all (spelled front)) (broken_at after h))
      ∙ refl
