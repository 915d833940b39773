-- What scanners of response texts compute, byte by byte; laws tie it to the grammars.
use Rattle.std.specs.Prelude.{◌≡◌, ℕ, ◌+◌, Bool, true, false, not, ◌==◌, ◌&&◌, List, [], ◌∷◌, ◌++◌, Option, None, Some, Result, Ok, Err, if◌then◌else◌}
use Rattle.std.specs.declared.alloc.AllocError.{AllocError}
use Rattle.base_files.specs.Bytes.{Bytes}
use Rattle.cmdlines_response_files.specs.Gathering.{Mark, gathered}
use Rattle.cmdlines_response_files.specs.Gnu.{is_white, is_quote}
use Rattle.cmdlines_response_files.specs.Msvc.{is_separator, backslashes, is_even, quote_adds, slashes_marks}

-- what each byte of the rest adds, after a backslash or not, in a run of this quote or in none
abbrev pub gnu_marks : Bool → Option ℕ → Bytes → List Mark
gnu_marks escaped quote [] = []
gnu_marks true quote (b ∷ rest) = Some (b ∷ []) ∷ gnu_marks false quote rest
gnu_marks false None (b ∷ rest) =
    if b == 92 then gnu_marks true None rest
    else (if is_quote b then gnu_marks false (Some b) rest
    else (if is_white b then None else Some (b ∷ [])) ∷ gnu_marks false None rest)
gnu_marks false (Some quote) (b ∷ rest) =
    if b == 92 then gnu_marks true (Some quote) rest
    else (if b == quote then gnu_marks false None rest else Some (b ∷ []) ∷ gnu_marks false (Some quote) rest)

-- the argument that has begun, if one has
abbrev pub begun_with : Bool → Bytes → Option Bytes
begun_with false current = None
begun_with true current = Some current

abbrev pub gnu_arguments : Bytes → List Bytes
gnu_arguments text = gathered None (gnu_marks false None text)

-- what the rest adds, in quotes or not, after n backslashes
abbrev pub msvc_marks : Bool → ℕ → Bytes → List Mark
msvc_marks quoted n [] = slashes_marks n []
msvc_marks quoted n (b ∷ rest) =
    if b == 92 then msvc_marks quoted (n + 1) rest
    else (if b == 34 then Some (quote_adds n) ∷ msvc_marks (if is_even n then not quoted else quoted) 0 rest
    else (if is_separator b && not quoted then slashes_marks n (None ∷ msvc_marks quoted 0 rest)
    else Some (backslashes n ++ (b ∷ [])) ∷ msvc_marks quoted 0 rest))

abbrev pub msvc_arguments : Bytes → List Bytes
msvc_arguments text = gathered None (msvc_marks false 0 text)

-- One call of the iterator: it gives the first argument of the text and leaves the rest. At the end, and where memory ran out, nothing is left.
abbrev pub Steps : Bytes → Option (Result Bytes AllocError) → Bytes → Type 0
Steps old None new = (msvc_arguments old ≡ []) × (new ≡ [])
Steps old (Some (Ok argument)) new = msvc_arguments old ≡ argument ∷ msvc_arguments new
Steps old (Some (Err e)) new = new ≡ []

-- the argument that has begun with these bytes; where there are none, none has
abbrev pub begun_by : Bytes → Option Bytes
begun_by [] = None
begun_by (b ∷ bytes) = Some (b ∷ bytes)

-- the arguments so far, and those that the argument begun and the marks to come give
abbrev pub arguments_with : List Bytes → Bytes → List Mark → List Bytes
arguments_with arguments current marks = arguments ++ gathered (begun_by current) marks
