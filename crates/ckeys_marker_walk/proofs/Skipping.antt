-- Lines that don't begin with `#`, passed over.
use Rattle.std.proofs.Common.{◌≡◌, ◌<◌, ◌+◌, ◌==◌, ℕ, zero, suc, Bool, true, false, not, cond, List, [], ◌∷◌, Option, None, Some, length, take, drop, get_or, refl, ap, sym, ◌∙◌, arith}
use Rattle.std.proofs.lemmas.Bool.Decides.{Decides-eqb}
use Rattle.std.specs.List.{cons_option, position_or_len}
use Rattle.memchr.specs.Find.{FindsNeedle, OccursAt}
use Rattle.ckeys_marker_walk.proofs.Cutting.{sights-cut}
use Rattle.ckeys_marker_walk.specs.Lines.{after_line, is_line_end, line_of}
use Rattle.ckeys_marker_walk.specs.Scanning.{Sight, begins_with_hash, after_hash, sight_in, sights}

untrue : (b : Bool) → (b ≡ true → ⊥) → b ≡ false
untrue true h = absurd (h refl)
untrue false h = refl

one_and : (n : ℕ) → 1 + n ≡ suc n
one_and n = omega arith

suc-add : (k n : ℕ) → suc k + n ≡ suc (k + n)
suc-add k n = omega arith

one-add-one : (n : ℕ) → 1 + n + 1 ≡ suc (n + 1)
one-add-one n = omega arith

zero-add : (n : ℕ) → 0 + n ≡ n
zero-add n = omega arith

plain_by : (b : ℕ) (rest : List ℕ) (ends : Bool) → (b == 10) ≡ ends → (b == 35) ≡ false → sight_in (line_of (b ∷ rest)) ≡ None
plain_by b rest true is h = ap (λ (t : Bool). sight_in (take (cond (not t) (1 + position_or_len is_line_end rest) 0) (b ∷ rest))) is
plain_by b rest false is h =
    ap (λ (t : Bool). sight_in (take (cond (not t) (1 + position_or_len is_line_end rest) 0) (b ∷ rest))) is
    ∙ ap (λ (n : ℕ). sight_in (take n (b ∷ rest))) (one_and (position_or_len is_line_end rest))
    ∙ ap (λ (t : Bool). cond t (after_hash (take (position_or_len is_line_end rest) rest)) None) h

-- the first line is plain, unless it begins with `#`
plain_line : (text : List ℕ) → begins_with_hash text ≡ false → sight_in (line_of text) ≡ None
plain_line [] h = refl
plain_line (b ∷ rest) h = plain_by b rest (b == 10) refl h

sights-plain : (text : List ℕ) → begins_with_hash text ≡ false → sights text ≡ sights (after_line text)
sights-plain text h = sights-cut text ∙ ap (λ (o : Option Sight). cons_option o (sights (after_line text))) (plain_line text h)

after_on : (b : ℕ) (rest : List ℕ) → (b == 10) ≡ false → after_line (b ∷ rest) ≡ after_line rest
after_on b rest is =
    ap (λ (t : Bool). drop (cond (not t) (1 + position_or_len is_line_end rest) 0 + 1) (b ∷ rest)) is
    ∙ ap (λ (n : ℕ). drop n (b ∷ rest)) (one-add-one (position_or_len is_line_end rest))

after_end : (b : ℕ) (rest : List ℕ) → (b == 10) ≡ true → after_line (b ∷ rest) ≡ rest
after_end b rest is = ap (λ (t : Bool). drop (cond (not t) (1 + position_or_len is_line_end rest) 0 + 1) (b ∷ rest)) is

-- a line end and `#` are at this place
abbrev Ends : List ℕ → ℕ → Type 0
Ends text k = OccursAt text (10 ∷ 35 ∷ []) k

later : (b : ℕ) (rest : List ℕ) (k : ℕ) → Ends rest k → Ends (b ∷ rest) (suc k)
later b rest k h = record { fits = omega (arith, h.fits); reads = λ j lt. ap (λ (n : ℕ). get_or (b ∷ rest) n 0) (suc-add k j) ∙ h.reads j lt }

earlier : (b : ℕ) (rest : List ℕ) (k : ℕ) → Ends (b ∷ rest) (suc k) → Ends rest k
earlier b rest k h = record { fits = omega (arith, h.fits); reads = λ j lt. sym (ap (λ (n : ℕ). get_or (b ∷ rest) n 0) (suc-add k j)) ∙ h.reads j lt }

reads_both : (b c : ℕ) (more : List ℕ) → b ≡ 10 → c ≡ 35 → (j : ℕ) → j < 2 → get_or (b ∷ c ∷ more) j 0 ≡ get_or (10 ∷ 35 ∷ []) j 0
reads_both b c more e f zero lt = e
reads_both b c more e f (suc zero) lt = f
reads_both b c more e f (suc (suc j)) lt = absurd (omega (arith, lt))

ends_here : (b : ℕ) (rest : List ℕ) → (b == 10) ≡ true → begins_with_hash rest ≡ true → Ends (b ∷ rest) 0
ends_here b [] is h = cc
ends_here b (c ∷ more) is h = record { fits = omega arith; reads = λ j lt. ap (λ (n : ℕ). get_or (b ∷ c ∷ more) n 0) (zero-add j) ∙ reads_both b c more ((Decides-eqb b 10).0 is) ((Decides-eqb c 35).0 h) j lt }

unhashed : (b : ℕ) (rest : List ℕ) → (b == 10) ≡ true → ¬ Ends (b ∷ rest) 0 → begins_with_hash rest ≡ false
unhashed b rest is none = untrue _ (λ hash. none (ends_here b rest is hash))

none_by : (b : ℕ) (rest : List ℕ) (ends : Bool) → (b == 10) ≡ ends → ¬ Ends (b ∷ rest) 0 → sights (after_line rest) ≡ [] → sights (after_line (b ∷ rest)) ≡ []
none_by b rest false is none more = ap sights (after_on b rest is) ∙ more
none_by b rest true is none more = ap sights (after_end b rest is) ∙ sights-plain rest (unhashed b rest is none) ∙ more

none_after : (text : List ℕ) → ((k : ℕ) → k < length text → ¬ Ends text k) → sights (after_line text) ≡ []
none_after [] none = refl
none_after (b ∷ rest) none =
    none_by b rest (b == 10) refl (none 0 (omega arith)) (none_after rest (λ k lt w. none (suc k) (omega (arith, lt)) (later b rest k w)))

some_by : (b : ℕ) (rest : List ℕ) (k : ℕ) (ends : Bool) → (b == 10) ≡ ends → ¬ Ends (b ∷ rest) 0 → sights (after_line rest) ≡ sights (drop (k + 1) rest)
    → sights (after_line (b ∷ rest)) ≡ sights (drop (suc k + 1) (b ∷ rest))
some_by b rest k false is none more = ap sights (after_on b rest is) ∙ more ∙ sym (ap (λ (n : ℕ). sights (drop n (b ∷ rest))) (suc-add k 1))
some_by b rest k true is none more =
    ap sights (after_end b rest is) ∙ sights-plain rest (unhashed b rest is none) ∙ more ∙ sym (ap (λ (n : ℕ). sights (drop n (b ∷ rest))) (suc-add k 1))

some_after : (text : List ℕ) (k : ℕ) → ((i : ℕ) → i < k → ¬ Ends text i) → Ends text k → sights (after_line text) ≡ sights (drop (k + 1) text)
some_after [] k none h = absurd (omega (arith, h.fits))
some_after (b ∷ rest) zero none h = ap sights (after_end b rest ((Decides-eqb b 10).1 (h.reads 0 (omega arith))))
some_after (b ∷ rest) (suc k) none h =
    some_by b rest k (b == 10) refl (none 0 (omega arith)) (some_after rest k (λ i lt w. none (suc i) (omega (arith, lt)) (later b rest i w)) (earlier b rest k h))

-- after the first line end that `#` follows, a text says what it says
pub sights-found : (text : List ℕ) (k : ℕ) → begins_with_hash text ≡ false → FindsNeedle text (10 ∷ 35 ∷ []) 0 (Some k) → sights (drop (k + 1) text) ≡ sights text
sights-found text k h found = sym (sights-plain text h ∙ some_after text k (λ i lt. found.0.before i (omega arith) lt) found.1)

-- without one it says nothing
pub sights-nowhere : (text : List ℕ) → begins_with_hash text ≡ false → FindsNeedle text (10 ∷ 35 ∷ []) 0 None → sights text ≡ []
sights-nowhere text h none = sights-plain text h ∙ none_after text (λ k lt. none k (omega arith) (omega (arith, lt)))
