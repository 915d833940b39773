-- The GNU grammar of response texts: a text is cut into pieces, and its arguments are what these add between gaps.
use Rattle.std.specs.Prelude.{◌≡◌, ℕ, nat_lt, Bool, true, false, ◌==◌, ◌&&◌, ◌||◌, List, [], ◌∷◌, None, Some}
use Rattle.base_files.specs.Bytes.{Bytes}
use Rattle.cmdlines_response_files.specs.Gathering.{Mark, gathered}

-- white space: 09 to 0d and 20
abbrev pub is_white : ℕ → Bool
is_white b = b == 32 || (nat_lt 8 b && nat_lt b 14)

-- 34 is '"', 39 is '\''
abbrev pub is_quote : ℕ → Bool
is_quote b = b == 34 || b == 39

-- a letter: a byte that stands for itself, or one after a backslash, which is 92
pub data Letter : Type 0 where
  plain : ℕ → Letter
  escaped : ℕ → Letter

-- a piece of a text: white space, a letter, or a quoted run of letters
pub data Piece : Type 0 where
  gap : ℕ → Piece
  single : Letter → Piece
  run : ℕ → List Letter → Piece

-- how a text ends: clean, after a backslash, in an open run, or in one after a backslash
pub data Ending : Type 0 where
  clean : Ending
  slash : Ending
  open_run : ℕ → List Letter → Ending
  open_slash : ℕ → List Letter → Ending

-- the text of letters, before more text
abbrev pub letters_text : List Letter → Bytes → Bytes
letters_text [] more = more
letters_text (plain b ∷ letters) more = b ∷ letters_text letters more
letters_text (escaped b ∷ letters) more = 92 ∷ b ∷ letters_text letters more

abbrev pub ending_text : Ending → Bytes
ending_text clean = []
ending_text slash = 92 ∷ []
ending_text (open_run quote letters) = quote ∷ letters_text letters []
ending_text (open_slash quote letters) = quote ∷ letters_text letters (92 ∷ [])

abbrev pub text_of : List Piece → Ending → Bytes
text_of [] ending = ending_text ending
text_of (gap b ∷ pieces) ending = b ∷ text_of pieces ending
text_of (single (plain b) ∷ pieces) ending = b ∷ text_of pieces ending
text_of (single (escaped b) ∷ pieces) ending = 92 ∷ b ∷ text_of pieces ending
text_of (run quote letters ∷ pieces) ending = quote ∷ letters_text letters (quote ∷ text_of pieces ending)

-- what letters add, before more marks
abbrev pub letters_marks : List Letter → List Mark → List Mark
letters_marks [] more = more
letters_marks (plain b ∷ letters) more = Some (b ∷ []) ∷ letters_marks letters more
letters_marks (escaped b ∷ letters) more = Some (b ∷ []) ∷ letters_marks letters more

abbrev pub ending_marks : Ending → List Mark
ending_marks clean = []
ending_marks slash = []
ending_marks (open_run quote letters) = letters_marks letters []
ending_marks (open_slash quote letters) = letters_marks letters []

-- what pieces mean: a gap separates, and each letter adds its byte; a run without letters adds nothing, and begins no argument
abbrev pub marks_of : List Piece → Ending → List Mark
marks_of [] ending = ending_marks ending
marks_of (gap b ∷ pieces) ending = None ∷ marks_of pieces ending
marks_of (single (plain b) ∷ pieces) ending = Some (b ∷ []) ∷ marks_of pieces ending
marks_of (single (escaped b) ∷ pieces) ending = Some (b ∷ []) ∷ marks_of pieces ending
marks_of (run quote letters ∷ pieces) ending = letters_marks letters (marks_of pieces ending)

-- letters of a run: neither its quote nor a backslash stands for itself
abbrev pub InRun : ℕ → List Letter → Type 0
InRun quote [] = Unit {0}
InRun quote (plain b ∷ letters) = ((b == 92) ≡ false) × ((b == quote) ≡ false) × InRun quote letters
InRun quote (escaped b ∷ letters) = InRun quote letters

abbrev pub IsQuote : ℕ → Type 0
IsQuote b = ((b == 92) ≡ false) × (is_quote b ≡ true)

-- a byte that neither quotes nor escapes: white or not
abbrev pub IsBare : ℕ → Bool → Type 0
IsBare b white = ((b == 92) ≡ false) × (is_quote b ≡ false) × (is_white b ≡ white)

abbrev pub IsEnding : Ending → Type 0
IsEnding clean = Unit {0}
IsEnding slash = Unit {0}
IsEnding (open_run quote letters) = IsQuote quote × InRun quote letters
IsEnding (open_slash quote letters) = IsQuote quote × InRun quote letters

abbrev pub ArePieces : List Piece → Type 0
ArePieces [] = Unit {0}
ArePieces (gap b ∷ pieces) = IsBare b true × ArePieces pieces
ArePieces (single (plain b) ∷ pieces) = IsBare b false × ArePieces pieces
ArePieces (single (escaped b) ∷ pieces) = ArePieces pieces
ArePieces (run quote letters ∷ pieces) = IsQuote quote × InRun quote letters × ArePieces pieces

-- These are the arguments of the text.
pub record IsGnuText (text : Bytes) (arguments : List Bytes) : Type 0 where
  pub pieces : List Piece
  pub ending : Ending
  pub are : ArePieces pieces
  pub ends : IsEnding ending
  pub whole : text ≡ text_of pieces ending
  pub read : arguments ≡ gathered None (marks_of pieces ending)
