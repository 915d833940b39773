-- The MSVC grammar of response texts: each byte that is no backslash makes a piece together with the backslashes before it.
use Rattle.std.specs.Prelude.{◌≡◌, ℕ, ◌/◌, ◌%◌, Bool, false, not, ◌==◌, ◌&&◌, ◌||◌, List, [], ◌∷◌, ◌++◌, None, Some, if◌then◌else◌}
use Rattle.std.specs.List.{AllByRecursion}
use Rattle.std.proofs.Math.ListN.{replicate}
use Rattle.base_files.specs.Bytes.{Bytes}
use Rattle.cmdlines_response_files.specs.Gathering.{Mark, gathered}

-- 09, 0a, 0d and 20
abbrev pub is_separator : ℕ → Bool
is_separator b = b == 32 || b == 9 || b == 10 || b == 13

abbrev pub backslashes : ℕ → Bytes
backslashes n = replicate n 92

-- some backslashes, and the byte after them
pub record Piece : Type 0 where
  pub slashes : ℕ
  pub byte : ℕ

abbrev pub text_of : List Piece → ℕ → Bytes
text_of [] left = backslashes left
text_of (p ∷ pieces) left = backslashes p.slashes ++ (p.byte ∷ text_of pieces left)

-- 34 is '"'
abbrev pub quotes : Piece → Bool
quotes p = p.byte == 34

-- a quote after an odd number of backslashes stands for itself
abbrev pub is_even : ℕ → Bool
is_even n = n % 2 == 0

-- whether what comes after the piece is in quotes
abbrev pub quoted_after : Bool → Piece → Bool
quoted_after quoted p = if quotes p && is_even p.slashes then not quoted else quoted

-- backslashes that stand for themselves
abbrev pub slashes_marks : ℕ → List Mark → List Mark
slashes_marks n more = if n == 0 then more else Some (backslashes n) ∷ more

-- what a quote after n backslashes adds: half of them, and a quote byte where one is left over
abbrev pub quote_adds : ℕ → Bytes
quote_adds n = backslashes (n / 2) ++ (if is_even n then [] else 34 ∷ [])

-- what a piece adds, before more marks: a separator that isn't in quotes separates
abbrev pub piece_marks : Bool → Piece → List Mark → List Mark
piece_marks quoted p more =
    if quotes p then Some (quote_adds p.slashes) ∷ more
    else (if is_separator p.byte && not quoted then slashes_marks p.slashes (None ∷ more)
    else Some (backslashes p.slashes ++ (p.byte ∷ [])) ∷ more)

-- what pieces mean, in quotes or not, and the backslashes that are left at the end
abbrev pub marks_of : Bool → List Piece → ℕ → List Mark
marks_of quoted [] left = slashes_marks left []
marks_of quoted (p ∷ pieces) left = piece_marks quoted p (marks_of (quoted_after quoted p) pieces left)

abbrev pub ArePieces : List Piece → Type 0
ArePieces pieces = AllByRecursion (λ (p : Piece). (p.byte == 92) ≡ false) pieces

-- These are the arguments of the text.
pub record IsMsvcText (text : Bytes) (arguments : List Bytes) : Type 0 where
  pub pieces : List Piece
  pub left : ℕ
  pub are : ArePieces pieces
  pub whole : text ≡ text_of pieces left
  pub read : arguments ≡ gathered None (marks_of false pieces left)
