-- How often a tool was asked for a key: rustc on dependencies, and then for the names of outputs; and for the digest of each static library.
use Rattle.std.specs.Prelude.{◌≡◌, ◌⊎◌, ℕ, List, [], ◌∷◌}
use Rattle.base_files.specs.Bytes.{ticked}

-- it was asked at most twice
abbrev pub AtMostTwice : ℕ → ℕ → Type 0
AtMostTwice before after = (after ≡ before) ⊎ ((after ≡ ticked before) ⊎ (after ≡ ticked (ticked before)))

-- one question more for each of these
abbrev pub ticked_for : {A : Type 0} → List A → ℕ → ℕ
ticked_for [] before = before
ticked_for (x ∷ rest) before = ticked_for rest (ticked before)

-- at most one question more for each of these
abbrev pub AtMostFor : {A : Type 0} → List A → ℕ → ℕ → Type 0
AtMostFor [] before after = after ≡ before
AtMostFor (x ∷ rest) before after = (after ≡ before) ⊎ AtMostFor rest (ticked before) after
