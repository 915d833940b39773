-- Each text has one reading.
use Rattle.std.proofs.Common.{◌≡◌, ◌⊎◌, inl, inr, ℕ, Bool, true, false, ◌==◌, cond, if◌then◌else◌, ◌<◌, ◌++◌, length, arith, List, [], ◌∷◌, Option, None, Some, refl, ap, sym, ◌∙◌}
use Rattle.std.proofs.lemmas.Bool.Decides.{Decides-eqb}
use Rattle.std.proofs.lemmas.List.{length-append}
use Rattle.std.specs.List.{AllByRecursion}
use Rattle.base_files.specs.Bytes.{Bytes}
use Rattle.cmdlines_response_files.specs.Gathering.{Mark, gathered}
use Rattle.cmdlines_response_files.specs.Scanning.{gnu_marks, gnu_arguments}
use Rattle.cmdlines_response_files.specs.Gnu.{is_white, is_quote, Letter, plain, escaped, Piece, gap, single, run, Ending, clean, slash, open_run, open_slash, letters_text, ending_text, text_of, letters_marks, ending_marks, marks_of, InRun, IsQuote, IsBare, IsEnding, ArePieces, IsGnuText}

chosen_false : {X : Type 0} (b : Bool) (x y : X) → b ≡ false → cond b x y ≡ y
chosen_false true x y h = cc
chosen_false false x y h = refl

chosen_true : {X : Type 0} (b : Bool) (x y : X) → b ≡ true → cond b x y ≡ x
chosen_true true x y h = refl
chosen_true false x y h = cc

in_run : (quote : ℕ) (ls : List Letter) (more : List ℕ) → InRun quote ls → gnu_marks false (Some quote) (letters_text ls more) ≡ letters_marks ls (gnu_marks false (Some quote) more)
in_run quote [] more h = refl
in_run quote (plain b ∷ ls) more h =
    chosen_false (b == 92) _ _ h.0 ∙ chosen_false (b == quote) _ _ h.1 ∙ ap (λ (l : List Mark). Some (b ∷ []) ∷ l) (in_run quote ls more h.2)
in_run quote (escaped b ∷ ls) more h = ap (λ (l : List Mark). Some (b ∷ []) ∷ l) (in_run quote ls more h)

opens_run : (quote : ℕ) (more : List ℕ) → IsQuote quote → gnu_marks false None (quote ∷ more) ≡ gnu_marks false (Some quote) more
opens_run quote more h = chosen_false (quote == 92) _ _ h.0 ∙ chosen_true (is_quote quote) _ _ h.1

same_byte : (b : ℕ) → (b == b) ≡ true
same_byte b = (Decides-eqb b b).1 refl

closes_run : (quote : ℕ) (more : List ℕ) → IsQuote quote → gnu_marks false (Some quote) (quote ∷ more) ≡ gnu_marks false None more
closes_run quote more h = chosen_false (quote == 92) _ _ h.0 ∙ chosen_true (quote == quote) _ _ (same_byte quote)

at_end : (e : Ending) → IsEnding e → gnu_marks false None (ending_text e) ≡ ending_marks e
at_end clean h = refl
at_end slash h = refl
at_end (open_run quote ls) h = opens_run quote (letters_text ls []) h.0 ∙ in_run quote ls [] h.1
at_end (open_slash quote ls) h = opens_run quote (letters_text ls (92 ∷ [])) h.0 ∙ in_run quote ls (92 ∷ []) h.1

bare : (b : ℕ) (white : Bool) (more : List ℕ) → IsBare b white → gnu_marks false None (b ∷ more) ≡ cond white None (Some (b ∷ [])) ∷ gnu_marks false None more
bare b white more h =
    chosen_false (b == 92) _ _ h.0 ∙ chosen_false (is_quote b) _ _ h.1 ∙ ap (λ (w : Bool). cond w None (Some (b ∷ [])) ∷ gnu_marks false None more) h.2

-- the marks of a text are those of its pieces
pub marks_are : (ps : List Piece) (e : Ending) → ArePieces ps → IsEnding e → gnu_marks false None (text_of ps e) ≡ marks_of ps e
marks_are [] e h k = at_end e k
marks_are (gap b ∷ ps) e h k = bare b true (text_of ps e) h.0 ∙ ap (λ (l : List Mark). None ∷ l) (marks_are ps e h.1 k)
marks_are (single (plain b) ∷ ps) e h k = bare b false (text_of ps e) h.0 ∙ ap (λ (l : List Mark). Some (b ∷ []) ∷ l) (marks_are ps e h.1 k)
marks_are (single (escaped b) ∷ ps) e h k = ap (λ (l : List Mark). Some (b ∷ []) ∷ l) (marks_are ps e h k)
marks_are (run quote ls ∷ ps) e h k =
    opens_run quote _ h.0 ∙ in_run quote ls (quote ∷ text_of ps e) h.1 ∙ ap (letters_marks ls) (closes_run quote (text_of ps e) h.0 ∙ marks_are ps e h.2 k)

pub only : (text : List ℕ) (arguments : List (List ℕ)) → IsGnuText text arguments → arguments ≡ gnu_arguments text
only text arguments r =
    r.read ∙ ap (λ (ms : List Mark). gathered None ms) (sym (ap (gnu_marks false None) r.whole ∙ marks_are r.pieces r.ending r.are r.ends))

-- a text as pieces, outside of a run
record Outside (text : List ℕ) : Type 0 where
  pieces : List Piece
  ending : Ending
  are : ArePieces pieces
  ends : IsEnding ending
  whole : text ≡ text_of pieces ending

-- the rest of a run, and what comes after it
record Inside (quote : ℕ) (text : List ℕ) : Type 0 where
  run_letters : List Letter
  tail : List ℕ
  are : InRun quote run_letters
  after : (tail ≡ []) ⊎ ((tail ≡ 92 ∷ []) ⊎ ((rest : List ℕ) × (tail ≡ quote ∷ rest) × Outside rest))
  whole : text ≡ letters_text run_letters tail

-- a quote and what follows it
quoted : (b : ℕ) (rest : List ℕ) → IsQuote b → (i : Inside b rest) →
    (i.tail ≡ []) ⊎ ((i.tail ≡ 92 ∷ []) ⊎ ((more : List ℕ) × (i.tail ≡ b ∷ more) × Outside more)) → Outside (b ∷ rest)
quoted b rest q i (inl e) = record {
  pieces = [];
  ending = open_run b i.run_letters;
  are = tt;
  ends = (q, i.are);
  whole = ap (λ (l : List ℕ). b ∷ l) (i.whole ∙ ap (letters_text i.run_letters) e);
}
quoted b rest q i (inr (inl e)) = record {
  pieces = [];
  ending = open_slash b i.run_letters;
  are = tt;
  ends = (q, i.are);
  whole = ap (λ (l : List ℕ). b ∷ l) (i.whole ∙ ap (letters_text i.run_letters) e);
}
quoted b rest q i (inr (inr r)) = record {
  pieces = run b i.run_letters ∷ r.2.pieces;
  ending = r.2.ending;
  are = (q, i.are, r.2.are);
  ends = r.2.ends;
  whole = ap (λ (l : List ℕ). b ∷ l) (i.whole ∙ ap (letters_text i.run_letters) (r.1 ∙ ap (λ (l : List ℕ). b ∷ l) r.2.whole));
}

unquoted : (b : ℕ) (rest : List ℕ) (white : Bool) → IsBare b white → Outside rest → Outside (b ∷ rest)
unquoted b rest true h o = record { pieces = gap b ∷ o.pieces; ending = o.ending; are = (h, o.are); ends = o.ends; whole = ap (λ (l : List ℕ). b ∷ l) o.whole }
unquoted b rest false h o = record { pieces = single (plain b) ∷ o.pieces; ending = o.ending; are = (h, o.are); ends = o.ends; whole = ap (λ (l : List ℕ). b ∷ l) o.whole }

out_plain : (b : ℕ) (rest : List ℕ) (quote : Bool) → is_quote b ≡ quote → (b == 92) ≡ false → Outside rest → ((q : ℕ) → Inside q rest) → Outside (b ∷ rest)
out_plain b rest true k e o i = quoted b rest (e, k) (i b) (i b).after
out_plain b rest false k e o i = unquoted b rest (is_white b) (e, k, refl) o

in_plain : (b : ℕ) (rest : List ℕ) (q : ℕ) (same : Bool) → (b == q) ≡ same → (b == 92) ≡ false → Outside rest → Inside q rest → Inside q (b ∷ rest)
in_plain b rest q true k e o i = record {
  run_letters = [];
  tail = b ∷ rest;
  are = tt;
  after = inr (inr (rest, ap (λ (x : ℕ). x ∷ rest) ((Decides-eqb b q).0 k), o));
  whole = refl;
}
in_plain b rest q false k e o i = record { run_letters = plain b ∷ i.run_letters; tail = i.tail; are = (e, k, i.are); after = i.after; whole = ap (λ (l : List ℕ). b ∷ l) i.whole }

one_byte : (b : ℕ) (slashed : Bool) → (b == 92) ≡ slashed → Outside [] × ((quote : ℕ) → Inside quote []) → Outside (b ∷ []) × ((quote : ℕ) → Inside quote (b ∷ []))
one_byte b true e r =
    let is : b ∷ [] ≡ 92 ∷ [] = ap (λ (x : ℕ). x ∷ []) ((Decides-eqb b 92).0 e) in (
      record { pieces = []; ending = slash; are = tt; ends = tt; whole = is },
      λ quote. record { run_letters = []; tail = b ∷ []; are = tt; after = inr (inl is); whole = refl },
    )
one_byte b false e r = (out_plain b [] (is_quote b) refl e r.0 r.1, λ quote. in_plain b [] quote (b == quote) refl e r.0 (r.1 quote))

more_bytes : (b c : ℕ) (rest : List ℕ) (slashed : Bool) → (b == 92) ≡ slashed →
    Outside (c ∷ rest) × ((quote : ℕ) → Inside quote (c ∷ rest)) → Outside rest × ((quote : ℕ) → Inside quote rest) →
    Outside (b ∷ c ∷ rest) × ((quote : ℕ) → Inside quote (b ∷ c ∷ rest))
more_bytes b c rest true e r s =
    let is : b ∷ c ∷ rest ≡ 92 ∷ c ∷ rest = ap (λ (x : ℕ). x ∷ c ∷ rest) ((Decides-eqb b 92).0 e) in (
      record { pieces = single (escaped c) ∷ s.0.pieces; ending = s.0.ending; are = s.0.are; ends = s.0.ends; whole = is ∙ ap (λ (l : List ℕ). 92 ∷ c ∷ l) s.0.whole },
      λ quote. let i = s.1 quote in
          record { run_letters = escaped c ∷ i.run_letters; tail = i.tail; are = i.are; after = i.after; whole = is ∙ ap (λ (l : List ℕ). 92 ∷ c ∷ l) i.whole },
    )
more_bytes b c rest false e r s =
    (out_plain b (c ∷ rest) (is_quote b) refl e r.0 r.1, λ quote. in_plain b (c ∷ rest) quote (b == quote) refl e r.0 (r.1 quote))

splits : (text : List ℕ) → Outside text × ((quote : ℕ) → Inside quote text)
splits [] = (
  record { pieces = []; ending = clean; are = tt; ends = tt; whole = refl },
  λ quote. record { run_letters = []; tail = []; are = tt; after = inl refl; whole = refl },
)
splits (b ∷ []) = one_byte b (b == 92) refl (splits [])
splits (b ∷ c ∷ rest) = more_bytes b c rest (b == 92) refl (splits (c ∷ rest)) (splits rest)

pub reads : (text : List ℕ) → IsGnuText text (gnu_arguments text)
reads text =
    let o = (splits text).0 in
    record {
      pieces = o.pieces;
      ending = o.ending;
      are = o.are;
      ends = o.ends;
      whole = o.whole;
      read = ap (λ (ms : List Mark). gathered None ms) (ap (gnu_marks false None) o.whole ∙ marks_are o.pieces o.ending o.are o.ends);
    }

-- a mark that adds something, or separates
abbrev pub IsFull : Mark → Type 0
IsFull None = Unit {0}
IsFull (Some bytes) = 0 < length bytes

choose : {X : Type 0} (P : X → Type 0) (c : Bool) {x y : X} → P x → P y → P (if c then x else y)
choose P true p q = p
choose P false p q = q

one_byte_is_full : (b : ℕ) → 0 < length (b ∷ [])
one_byte_is_full b = omega arith

marks_full : (slashed : Bool) (quote : Option ℕ) (text : Bytes) → AllByRecursion IsFull (gnu_marks slashed quote text)
marks_full slashed quote [] = tt
marks_full true quote (b ∷ rest) = (one_byte_is_full b, marks_full false quote rest)
marks_full false None (b ∷ rest) =
    choose (AllByRecursion IsFull) (b == 92) (marks_full true None rest)
    (choose (AllByRecursion IsFull) (is_quote b) (marks_full false (Some b) rest) (choose IsFull (is_white b) tt (one_byte_is_full b), marks_full false None rest))
marks_full false (Some quote) (b ∷ rest) =
    choose (AllByRecursion IsFull) (b == 92) (marks_full true (Some quote) rest)
    (choose (AllByRecursion IsFull) (b == quote) (marks_full false None rest) (one_byte_is_full b, marks_full false (Some quote) rest))

longer : (front bytes : Bytes) → 0 < length bytes → 0 < length (front ++ bytes)
longer front bytes h = omega (arith, h, length-append front bytes)

-- what such marks gather isn't empty
gathered_full : (begun : Mark) (marks : List Mark) → IsFull begun → AllByRecursion IsFull marks → AllByRecursion (λ (argument : Bytes). 0 < length argument) (gathered begun marks)
gathered_full None [] h k = tt
gathered_full (Some bytes) [] h k = (h, tt)
gathered_full None (None ∷ marks) h k = gathered_full None marks tt k.1
gathered_full (Some bytes) (None ∷ marks) h k = (h, gathered_full None marks tt k.1)
gathered_full None (Some more ∷ marks) h k = gathered_full (Some ([] ++ more)) marks k.0 k.1
gathered_full (Some bytes) (Some more ∷ marks) h k = gathered_full (Some (bytes ++ more)) marks (longer bytes more k.0) k.1

pub none_empty : (text : Bytes) → AllByRecursion (λ (argument : Bytes). 0 < length argument) (gnu_arguments text)
none_empty text = gathered_full None (gnu_marks false None text) tt (marks_full false None text)
