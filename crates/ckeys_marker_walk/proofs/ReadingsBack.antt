-- What a scanner finds, the grammar of lines says.
use Rattle.std.proofs.Common.{◌≡◌, ◌<◌, ◌==◌, ◌⊎◌, inl, inr, ◌++◌, ℕ, Bool, true, false, cond, if◌then◌else◌, List, [], ◌∷◌, Option, None, Some, length, take, drop, refl, ap, sym, subst, ◌∙◌, arith}
use Rattle.std.proofs.lemmas.Bool.Decides.{Decides-eqb}
use Rattle.std.specs.List.{AllByRecursion, starts_with}
use Rattle.std.specs.Prelude.{codes, nat_eq}
use Rattle.std.proofs.lemmas.Slice.Eq.{bytes_eq-Decides}
use Rattle.std.proofs.lemmas.List.{take-append-drop}
use Rattle.ckeys_marker_walk.proofs.Meaning.{not_special}
use Rattle.ckeys_marker_walk.proofs.Readings.{marker_reads}
use Rattle.ckeys_marker_walk.proofs.Spellings.{well_quoted, IsWellAfter}
use Rattle.ckeys_marker_walk.specs.Markers.{Start, bare, worded, start_text, is_digit, is_space, IsMarker, IsNumbered, IsRefusing, IsRunOf, begins_special, misspelled, unreadable}
use Rattle.ckeys_marker_walk.specs.Scanning.{Name, closed, unclosed, Sight, named, refused, after_digits, after_hash, after_run, after_spaces, led_by, name_from, past, quoted_at, sight_by, sight_in, sight_with}
use Rattle.ckeys_marker_walk.specs.Scanning as scan
use Rattle.ckeys_marker_walk.specs.Spelling.{is_special, meant, spelled}

-- the run that is passed over
record Run (test : ℕ → Bool) (bytes rest : List ℕ) : Type 0 where
  run : List ℕ
  each : AllByRecursion (λ b. test b ≡ true) run
  whole : bytes ≡ run ++ rest

run_by : (test : ℕ → Bool) (b : ℕ) (rest : List ℕ) (passes : Bool) → test b ≡ passes → Run test rest (after_run test rest) → Run test (b ∷ rest) (if passes then after_run test rest else b ∷ rest)
run_by test b rest true is r = record { run = b ∷ r.run; each = (is, r.each); whole = ap (λ (l : List ℕ). b ∷ l) r.whole }
run_by test b rest false is r = record { run = []; each = tt; whole = refl }

run_of : (test : ℕ → Bool) (bytes : List ℕ) → Run test bytes (after_run test bytes)
run_of test [] = record { run = []; each = tt; whole = refl }
run_of test (b ∷ rest) = run_by test b rest (test b) refl (run_of test rest)

some_of : (b : ℕ) (run : List ℕ) → 0 < length (b ∷ run)
some_of b run = omega arith

-- bytes of which one or more are passed over
abbrev Passed : (ℕ → Bool) → List ℕ → Option (List ℕ) → Type 0
Passed test bytes None = Unit {0}
Passed test bytes (Some rest) = (run : List ℕ) × IsRunOf test run × (bytes ≡ run ++ rest)

passed_by : (test : ℕ → Bool) (b : ℕ) (rest : List ℕ) (passes : Bool) → test b ≡ passes → Passed test (b ∷ rest) (if passes then Some (after_run test rest) else None)
passed_by test b rest true is =
    let r = run_of test rest in
    (b ∷ r.run, record { some = some_of b r.run; each = (is, r.each) }, ap (λ (l : List ℕ). b ∷ l) r.whole)
passed_by test b rest false is = tt

passed : (test : ℕ → Bool) (bytes : List ℕ) → Passed test bytes (past test bytes)
passed test [] = tt
passed test (b ∷ rest) = passed_by test b rest (test b) refl

-- a faulty escape in a name
record Faulty (bytes : List ℕ) : Type 0 where
  front : List ℕ
  after : List ℕ
  is : begins_special after ≡ false
  whole : bytes ≡ spelled front ++ 92 ∷ after

-- what comes after a backslash, where the name is faulty
abbrev FaultyAfter : List ℕ → Type 0
FaultyAfter bytes = (begins_special bytes ≡ false) ⊎ ((b : ℕ) × (rest : List ℕ) × (is_special b ≡ true) × (bytes ≡ b ∷ rest) × Faulty rest)

abbrev Reads : Bool → List ℕ → Name → Type 0
Reads escaped bytes (closed raw) = (after : List ℕ) × (bytes ≡ raw ++ 34 ∷ after)
Reads escaped bytes unclosed = Unit {0}
Reads true bytes scan.misspelled = FaultyAfter bytes
Reads false bytes scan.misspelled = Faulty bytes

special_reads : (b : ℕ) (rest : List ℕ) (special : Bool) (name : Name) → is_special b ≡ special → Reads false rest name → Reads true (b ∷ rest) (if special then led_by b name else scan.misspelled)
special_reads b rest true (closed raw) is h = (h.0, ap (λ (l : List ℕ). b ∷ l) h.1)
special_reads b rest true unclosed is h = tt
special_reads b rest true scan.misspelled is h = inr (b, rest, is, refl, h)
special_reads b rest false name is h = inl is

slash_faulty : (b : ℕ) (rest : List ℕ) → (b == 92) ≡ true → FaultyAfter rest → Faulty (b ∷ rest)
slash_faulty b rest s (inl h) = record { front = []; after = rest; is = h; whole = ap (λ (n : ℕ). n ∷ rest) ((Decides-eqb b 92).0 s) }
slash_faulty b rest s (inr (c, more, special, whole, f)) = record {
  front = c ∷ f.front;
  after = f.after;
  is = f.is;
  whole = ap (λ (n : ℕ). n ∷ rest) ((Decides-eqb b 92).0 s) ∙ ap (λ (l : List ℕ). 92 ∷ l) (whole ∙ ap (λ (l : List ℕ). c ∷ l) f.whole)
      ∙ sym (ap (λ (t : Bool). (cond t (92 ∷ c ∷ []) (c ∷ []) ++ spelled f.front) ++ 92 ∷ f.after) special);
}

plain_reads : (b : ℕ) (rest : List ℕ) (quote slash : Bool) (name : Name) → (b == 34) ≡ quote → (b == 92) ≡ slash → Reads slash rest name → Reads false (b ∷ rest) (if quote then closed [] else led_by b name)
plain_reads b rest true slash name q s h = (rest, ap (λ (n : ℕ). n ∷ rest) ((Decides-eqb b 34).0 q))
plain_reads b rest false slash (closed raw) q s h = (h.0, ap (λ (l : List ℕ). b ∷ l) h.1)
plain_reads b rest false slash unclosed q s h = tt
plain_reads b rest false true scan.misspelled q s h = slash_faulty b rest s h
plain_reads b rest false false scan.misspelled q s h = record {
  front = b ∷ h.front;
  after = h.after;
  is = h.is;
  whole = ap (λ (l : List ℕ). b ∷ l) h.whole ∙ sym (ap (λ (t : Bool). (cond t (92 ∷ b ∷ []) (b ∷ []) ++ spelled h.front) ++ 92 ∷ h.after) (not_special b q s));
}

name_reads : (escaped : Bool) (bytes : List ℕ) → Reads escaped bytes (name_from escaped bytes)
name_reads true [] = inl refl
name_reads false [] = tt
name_reads true (b ∷ rest) = special_reads b rest (is_special b) (name_from false rest) refl (name_reads false rest)
name_reads false (b ∷ rest) = plain_reads b rest (b == 34) (b == 92) (name_from (b == 92) rest) refl refl (name_reads (b == 92) rest)

-- what comes after the gap of a marker
abbrev Quotes : List ℕ → Name → Type 0
Quotes bytes (closed raw) = (after : List ℕ) × (bytes ≡ 34 ∷ (raw ++ 34 ∷ after))
Quotes bytes unclosed = Unit {0}
Quotes bytes scan.misspelled = (rest : List ℕ) × (bytes ≡ 34 ∷ rest) × Faulty rest

quotes_by : (b : ℕ) (rest : List ℕ) (quote : Bool) (name : Name) → (b == 34) ≡ quote → Reads false rest name → Quotes (b ∷ rest) (if quote then name else unclosed)
quotes_by b rest true (closed raw) q h = (h.0, ap (λ (n : ℕ). n ∷ rest) ((Decides-eqb b 34).0 q) ∙ ap (λ (l : List ℕ). 34 ∷ l) h.1)
quotes_by b rest true unclosed q h = tt
quotes_by b rest true scan.misspelled q h = (rest, ap (λ (n : ℕ). n ∷ rest) ((Decides-eqb b 34).0 q), h)
quotes_by b rest false name q h = tt

quotes : (bytes : List ℕ) → Quotes bytes (quoted_at (Some bytes))
quotes [] = tt
quotes (b ∷ rest) = quotes_by b rest (b == 34) (name_from false rest) refl (name_reads false rest)

-- what a line says, by the grammar
abbrev Says : List ℕ → Option Sight → Type 0
Says line None = Unit {0}
Says line (Some (named raw)) = IsMarker line (meant raw)
Says line (Some refused) = IsRefusing line

no_marker : (line name : List ℕ) → sight_in line ≡ Some refused → ¬ IsMarker line name
no_marker line name e m = let h = marker_reads line name m in cc

module _ (start : Start) (line rest : List ℕ) (n : IsNumbered start line rest) where
  moved : (more : List ℕ) → rest ≡ more → IsNumbered start line more
  moved more e = subst (IsNumbered start line) e n

  says_name : (gap gone : List ℕ) (name : Name) → IsRunOf is_space gap → rest ≡ gap ++ gone → Quotes gone name → IsWellAfter false name → sight_in line ≡ sight_by start name
      → (unclosed_says : sight_in line ≡ sight_by start unclosed → Says line (sight_by start unclosed)) → Says line (sight_by start name)
  says_name gap gone (closed raw) g e q well is u = record {
    start = start;
    gap = gap;
    after = q.0;
    is_gap = g;
    numbered = moved _ (e ∙ ap (λ (l : List ℕ). gap ++ l) (q.1 ∙ ap (λ (l : List ℕ). 34 ∷ (l ++ 34 ∷ q.0)) (sym well)));
  }
  says_name gap gone unclosed g e q well is u = u is
  says_name gap gone scan.misspelled g e q well is u =
      misspelled start gap q.2.front q.2.after g q.2.is (moved _ (e ∙ ap (λ (l : List ℕ). gap ++ l) (q.1 ∙ ap (λ (l : List ℕ). 34 ∷ l) q.2.whole)))

unclosed_says : (start : Start) (line rest : List ℕ) → IsNumbered start line rest → sight_in line ≡ sight_by start unclosed → Says line (sight_by start unclosed)
unclosed_says bare line rest n e = unreadable rest n (λ name. no_marker line name e)
unclosed_says worded line rest n e = tt

says_gone : (start : Start) (line rest : List ℕ) → IsNumbered start line rest → (gone : Option (List ℕ)) → Passed is_space rest gone → sight_in line ≡ sight_by start (quoted_at gone) → Says line (sight_by start (quoted_at gone))
says_gone start line rest n None p e = unclosed_says start line rest n e
says_gone start line rest n (Some gone) p e =
    says_name start line rest n p.0 gone (quoted_at (Some gone)) p.1 p.2 (quotes gone) (well_quoted (Some gone)) e (unclosed_says start line rest n)

says_digits : (start : Start) (line spaces digits : List ℕ) → IsRunOf is_space spaces → line ≡ start_text start ++ (spaces ++ digits) → (gone : Option (List ℕ)) → Passed is_digit digits gone
    → sight_in line ≡ after_digits start gone → Says line (after_digits start gone)
says_digits start line spaces digits s whole None p e = tt
says_digits start line spaces digits s whole (Some rest) p e =
    let n : IsNumbered start line rest = record { spaces = spaces; digits = p.0; are_spaces = s; are_digits = p.1; whole = whole ∙ ap (λ (l : List ℕ). start_text start ++ (spaces ++ l)) p.2 } in
    says_gone start line rest n (past is_space rest) (passed is_space rest) e

says_spaces : (start : Start) (line rest : List ℕ) → line ≡ start_text start ++ rest → (gone : Option (List ℕ)) → Passed is_space rest gone → sight_in line ≡ after_spaces start gone → Says line (after_spaces start gone)
says_spaces start line rest whole None p e = tt
says_spaces start line rest whole (Some digits) p e =
    says_digits start line p.0 digits p.1 (whole ∙ ap (λ (l : List ℕ). start_text start ++ l) p.2) (past is_digit digits) (passed is_digit digits) e

line_split : (rest : List ℕ) → starts_with nat_eq rest (codes "line") ≡ true → rest ≡ codes "line" ++ drop 4 rest
line_split rest h = sym (take-append-drop 4 rest) ∙ ap (λ (l : List ℕ). l ++ drop 4 rest) (sym ((bytes_eq-Decides (codes "line") (take 4 rest)).0 h))

says_hash : (line rest : List ℕ) (word : Bool) → starts_with nat_eq rest (codes "line") ≡ word → line ≡ 35 ∷ rest → sight_in line ≡ (if word then sight_with worded (drop 4 rest) else sight_with bare rest)
    → Says line (if word then sight_with worded (drop 4 rest) else sight_with bare rest)
says_hash line rest true w whole e =
    says_spaces worded line (drop 4 rest) (whole ∙ ap (λ (l : List ℕ). 35 ∷ l) (line_split rest w)) (past is_space (drop 4 rest)) (passed is_space (drop 4 rest)) e
says_hash line rest false w whole e = says_spaces bare line rest whole (past is_space rest) (passed is_space rest) e

says_line : (b : ℕ) (rest : List ℕ) (hash : Bool) → (b == 35) ≡ hash → sight_in (b ∷ rest) ≡ (if hash then after_hash rest else None) → Says (b ∷ rest) (if hash then after_hash rest else None)
says_line b rest true h e = says_hash (b ∷ rest) rest (starts_with nat_eq rest (codes "line")) refl (ap (λ (n : ℕ). n ∷ rest) ((Decides-eqb b 35).0 h)) e
says_line b rest false h e = tt

says : (line : List ℕ) → Says line (sight_in line)
says [] = tt
says (b ∷ rest) = says_line b rest (b == 35) refl refl

pub reads_marker : (line raw : List ℕ) → sight_in line ≡ Some (named raw) → IsMarker line (meant raw)
reads_marker line raw e = subst (Says line) e (says line)

pub reads_refusing : (line : List ℕ) → sight_in line ≡ Some refused → IsRefusing line
reads_refusing line e = subst (Says line) e (says line)
