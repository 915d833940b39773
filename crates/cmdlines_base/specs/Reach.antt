-- How far a tree of flags is walked for a word.
use Rattle.std.specs.Prelude.{ℕ, suc, max, ◌==◌, if◌then◌else◌, List, [], ◌∷◌}
use Rattle.base_files.specs.Bytes.{Bytes}
use Rattle.cmdlines_base.specs.Table.{Entry}

-- how many bytes a flag and a word begin alike with
abbrev pub shared : Bytes → Bytes → ℕ
shared [] word = 0
shared (b ∷ flag) [] = 0
shared (b ∷ flag) (c ∷ word) = if b == c then suc (shared flag word) else 0

-- the length of the longest beginning of the word that begins a flag; the empty one always counts
abbrev pub reach : {K : Type 0} → List (Entry K) → Bytes → ℕ
reach [] word = 0
reach (e ∷ es) word = max (shared e.flag word) (reach es word)

-- the nodes that are looked at: the root, and one for each byte of that beginning
abbrev pub node_steps : {K : Type 0} → List (Entry K) → Bytes → ℕ
node_steps entries word = suc (reach entries word)
