-- The nodes of a table, read byte by byte: entries whose flags begin alike are adjacent, since flags rise.
use Rattle.std.specs.Prelude.{◌≡◌, ℕ, ◌≤◌, ◌<◌, List, ◌++◌, length, take, IsTrue, All, slice_index_or}
use Rattle.base_files.specs.Bytes.{Bytes}
use Rattle.cmdlines_base.specs.Table.{Entry, is_table}

-- the flag begins as the word does, by that many bytes
pub record Begins {K : Type 0} (depth : ℕ) (word : Bytes) (e : Entry K) : Type 0 where
  pub long : depth ≤ length e.flag
  pub alike : take depth e.flag ≡ take depth word

-- a node: flags that begin as the word does, and rise
pub record IsNode {K : Type 0} (depth : ℕ) (word : Bytes) (entries : List (Entry K)) : Type 0 where
  pub begin : All (Begins depth word) entries
  pub rise : IsTrue (is_table entries)

-- the flag goes on after that many bytes
abbrev pub GoesOn : {K : Type 0} → ℕ → Entry K → Type 0
GoesOn depth e = depth < length e.flag

-- the byte of a flag after that many bytes
abbrev pub byte_at : {K : Type 0} → ℕ → Entry K → ℕ
byte_at depth e = slice_index_or e.flag depth 0

abbrev pub HasByte : {K : Type 0} → ℕ → ℕ → Entry K → Type 0
HasByte depth byte e = byte_at depth e ≡ byte

abbrev pub LacksByte : {K : Type 0} → ℕ → ℕ → Entry K → Type 0
LacksByte depth byte e = ¬ HasByte depth byte e

-- Of these entries, those with that byte: they are adjacent, and no other has it.
pub record IsPicked {K : Type 0} (depth byte : ℕ) (entries picked : List (Entry K)) : Type 0 where
  pub front : List (Entry K)
  pub back : List (Entry K)
  pub whole : entries ≡ front ++ (picked ++ back)
  pub before : All (LacksByte depth byte) front
  pub have : All (HasByte depth byte) picked
  pub after : All (LacksByte depth byte) back
