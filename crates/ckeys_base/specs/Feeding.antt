-- What a digest is fed with, and what a closure was shown of it.
use Rattle.std.specs.Prelude.{◌≡◌, ◌<◌, List, [], ◌∷◌, ◌++◌, codes, length, Option, IfSome}
use Rattle.std.specs.List.{All, FoldsTo, flat_map}
use Rattle.std.specs.Fn.{Mut, CalledAt}
use Rattle.base_files.specs.Bytes.{Bytes}
use denote.Ref.{Bor}
use Rattle.ckeys_base.specs.Hex.{hex_of}

-- the delimiter of a name: a zero byte, `SCCACHE`, a zero byte, the name, a zero byte
abbrev pub delimiter_of : Bytes → Bytes
delimiter_of name = (0 ∷ codes "SCCACHE") ++ (0 ∷ []) ++ name ++ (0 ∷ [])

-- the pieces, one after another
abbrev pub joined : List Bytes → Bytes
joined pieces = flat_map (λ piece. piece) pieces

-- no piece is empty
abbrev pub AreFilled : List Bytes → Type 0
AreFilled pieces = All (λ piece. 0 < length piece) pieces

-- the closure was called at each of the pieces, in order, and ends as last
abbrev pub IsCalledAtEach : {F : Type 0} → Mut F (Bor Bytes × Unit {0}) (Unit {0}) → F → List Bytes → F → Type 0
IsCalledAtEach calls first pieces last = FoldsTo (λ before piece after. CalledAt calls before piece tt after) first pieces last

-- a reader that reports its bytes had these and no others
abbrev pub WasAll : Option Bytes → Bytes → Type 0
WasAll known bytes = IfSome known (λ all. all ≡ bytes)

-- A reader was read to its end, the closure was shown each piece that it gave, in order and none of them empty, and the text is that of
-- the digest of them all.
pub record IsReadAndShown {F : Type 0} (calls : Mut F (Bor Bytes × Unit {0}) (Unit {0})) (each : F) (known : Option Bytes) (digest_of : Bytes → Bytes) (text : Bytes) : Type 0 where
  pub pieces : List Bytes
  pub last : F
  pub shown : IsCalledAtEach calls each pieces last
  pub filled : AreFilled pieces
  pub read : WasAll known (joined pieces)
  pub digested : text ≡ hex_of (digest_of (joined pieces))
