-- What a tool that may compile so many times does.
use Rattle.std.specs.Prelude.{◌≡◌, ◌+◌, ◌⊎◌, ℕ}
use Rattle.ckeys_records.specs.declared.step.Step.{Step}
use Rattle.ckeys_records.specs.declared.step.Step.TheVariants.{Preprocess, Compile, DepInfo, FileNames, ArchiveDigest}
use Rattle.wrap.specs.Bytes.{ticked}

-- no compile was left, and none ran; or one ran, and one less is left
abbrev pub TakesOne : ℕ → ℕ → ℕ → ℕ → Type 0
TakesOne left left_new compiled compiled_new = ((left ≡ 0) × (left_new ≡ 0) × (compiled_new ≡ compiled)) ⊎ ((left_new + 1 ≡ left) × (compiled_new ≡ ticked compiled))

-- in that step it fails for want of compiles: only in a compile, where none is left
abbrev pub IsSpent : Step → ℕ → Type 0
IsSpent Preprocess left = ⊥
IsSpent Compile left = left ≡ 0
IsSpent DepInfo left = ⊥
IsSpent FileNames left = ⊥
IsSpent ArchiveDigest left = ⊥
