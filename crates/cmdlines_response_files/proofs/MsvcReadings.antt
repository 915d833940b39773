-- Each text has one list of arguments by the MSVC grammar.
use Rattle.std.proofs.Common.{◌≡◌, ℕ, zero, suc, ◌+◌, Bool, true, false, not, ◌==◌, ◌&&◌, if◌then◌else◌, List, [], ◌∷◌, ◌++◌, None, Some, refl, ap, sym, ◌∙◌, arith, append-nil}
use Rattle.std.proofs.lemmas.Bool.Decides.{Decides-eqb}
use Rattle.base_files.specs.Bytes.{Bytes}
use Rattle.cmdlines_response_files.specs.Gathering.{gathered}
use Rattle.cmdlines_response_files.specs.Msvc.{is_separator, backslashes, Piece, text_of, quotes, is_even, quoted_after, slashes_marks, quote_adds, piece_marks, marks_of, ArePieces, IsMsvcText}
use Rattle.cmdlines_response_files.specs.Scanning.{msvc_marks, msvc_arguments}

-- backslashes are counted
after_slashes : (quoted : Bool) (n m : ℕ) (rest : Bytes) → msvc_marks quoted n (backslashes m ++ rest) ≡ msvc_marks quoted (n + m) rest
after_slashes quoted n zero rest = ap (λ k. msvc_marks quoted k rest) {x = n} {y = n + 0} (omega arith)
after_slashes quoted n (suc m) rest = after_slashes quoted (n + 1) m rest ∙ ap (λ k. msvc_marks quoted k rest) {x = n + 1 + m} {y = n + suc m} (omega arith)

after_none : (quoted : Bool) (m : ℕ) (rest : Bytes) → msvc_marks quoted 0 (backslashes m ++ rest) ≡ msvc_marks quoted m rest
after_none quoted m rest = after_slashes quoted 0 m rest ∙ ap (λ k. msvc_marks quoted k rest) {x = 0 + m} {y = m} (omega arith)

-- a byte that is no backslash makes a piece with those before it
of_piece : (quoted : Bool) (p : Piece) (rest : Bytes) → (p.byte == 92) ≡ false → msvc_marks quoted p.slashes (p.byte ∷ rest) ≡ piece_marks quoted p (msvc_marks (quoted_after quoted p) 0 rest)
of_piece quoted p rest other = rw other (by (quotes p) refl)
  where
    by : (q : Bool) → quotes p ≡ q
        → (if q then Some (quote_adds p.slashes) ∷ msvc_marks (if is_even p.slashes then not quoted else quoted) 0 rest
        else (if is_separator p.byte && not quoted then slashes_marks p.slashes (None ∷ msvc_marks quoted 0 rest)
        else Some (backslashes p.slashes ++ (p.byte ∷ [])) ∷ msvc_marks quoted 0 rest))
        ≡ (if q then Some (quote_adds p.slashes) ∷ msvc_marks (if q && is_even p.slashes then not quoted else quoted) 0 rest
        else (if is_separator p.byte && not quoted then slashes_marks p.slashes (None ∷ msvc_marks (if q && is_even p.slashes then not quoted else quoted) 0 rest)
        else Some (backslashes p.slashes ++ (p.byte ∷ [])) ∷ msvc_marks (if q && is_even p.slashes then not quoted else quoted) 0 rest))
    by true h = refl
    by false h = refl

-- the marks of a text are those of its pieces
marks_are : (quoted : Bool) (ps : List Piece) (left : ℕ) → ArePieces ps → msvc_marks quoted 0 (text_of ps left) ≡ marks_of quoted ps left
marks_are quoted [] left h = ap (msvc_marks quoted 0) (sym (append-nil (backslashes left))) ∙ after_none quoted left []
marks_are quoted (p ∷ ps) left h =
    after_none quoted p.slashes (p.byte ∷ text_of ps left) ∙ of_piece quoted p (text_of ps left) h.0 ∙ ap (piece_marks quoted p) (marks_are (quoted_after quoted p) ps left h.1)

pub only : (text : Bytes) (arguments : List Bytes) → IsMsvcText text arguments → arguments ≡ msvc_arguments text
only text arguments r = r.read ∙ ap (gathered None) (sym (ap (msvc_marks false 0) r.whole ∙ marks_are false r.pieces r.left r.are))

-- a text after backslashes, in pieces
record Cut (n : ℕ) (text : Bytes) : Type 0 where
  pieces : List Piece
  left : ℕ
  are : ArePieces pieces
  whole : backslashes n ++ text ≡ text_of pieces left

one_more : (n : ℕ) (rest : Bytes) → backslashes n ++ (92 ∷ rest) ≡ backslashes (suc n) ++ rest
one_more zero rest = refl
one_more (suc n) rest = ap (λ (l : Bytes). 92 ∷ l) (one_more n rest)

cut_by : (n b : ℕ) (rest : Bytes) (slashed : Bool) → (b == 92) ≡ slashed → Cut (suc n) rest → Cut 0 rest → Cut n (b ∷ rest)
cut_by n b rest true is more none = record {
  pieces = more.pieces;
  left = more.left;
  are = more.are;
  whole = ap (λ (x : ℕ). backslashes n ++ (x ∷ rest)) ((Decides-eqb b 92).0 is) ∙ one_more n rest ∙ more.whole;
}
cut_by n b rest false is more none = record {
  pieces = record { slashes = n; byte = b } ∷ none.pieces;
  left = none.left;
  are = (is, none.are);
  whole = ap (λ (l : Bytes). backslashes n ++ (b ∷ l)) none.whole;
}

cut : (n : ℕ) (text : Bytes) → Cut n text
cut n [] = record { pieces = []; left = n; are = tt; whole = append-nil (backslashes n) }
cut n (b ∷ rest) = cut_by n b rest (b == 92) refl (cut (suc n) rest) (cut 0 rest)

pub reads : (text : Bytes) → IsMsvcText text (msvc_arguments text)
reads text =
    let c = cut 0 text in
    record {
      pieces = c.pieces;
      left = c.left;
      are = c.are;
      whole = c.whole;
      read = ap (gathered None) (ap (msvc_marks false 0) c.whole ∙ marks_are false c.pieces c.left c.are);
    }
