-- In which part two fingerprints differ.
use Rattle.std.specs.Prelude.{◌≡◌, ◌⊎◌, List, [], ◌∷◌, ◌++◌, Option, None, Some}
use Rattle.std.specs.List.{AllByRecursion}
use Rattle.rustc_parts.specs.declared.parts.Parts.{Parts}
use Rattle.wrap_fingerprints.specs.declared.c_parts.CParts.{CParts}
use Rattle.wrap_fingerprints.specs.declared.fingerprint.Fingerprint.{Fingerprint}
use Rattle.wrap_fingerprints.specs.declared.fingerprint.Fingerprint.TheVariants.{C, Rustc}
use Rattle.wrap_fingerprints.specs.declared.part.Part.{Part}
use Rattle.wrap_fingerprints.specs.declared.part.Part.TheVariants.{Family, Compiler, Plusplus, Language, Words, Variables, ExtraContents, Assembler, Text, Names, Toolchain, Version, KeptWords, Sources, Externs, Archives, Target, Profile, EnvDeps, CargoPairs, Directory}

-- both have the same in this part; of parts of the other family there is nothing to say
abbrev pub AgreeByC : CParts → CParts → Part → Type 0
AgreeByC one other Compiler = one.compiler ≡ other.compiler
AgreeByC one other Plusplus = one.plusplus ≡ other.plusplus
AgreeByC one other Language = one.language ≡ other.language
AgreeByC one other Words = one.words ≡ other.words
AgreeByC one other Variables = one.variables ≡ other.variables
AgreeByC one other ExtraContents = one.extra_hashes ≡ other.extra_hashes
AgreeByC one other Assembler = one.assembler ≡ other.assembler
AgreeByC one other Text = one.text ≡ other.text
AgreeByC one other Names = one.names ≡ other.names
AgreeByC one other Family = Unit {0}
AgreeByC one other Toolchain = Unit {0}
AgreeByC one other Version = Unit {0}
AgreeByC one other KeptWords = Unit {0}
AgreeByC one other Sources = Unit {0}
AgreeByC one other Externs = Unit {0}
AgreeByC one other Archives = Unit {0}
AgreeByC one other Target = Unit {0}
AgreeByC one other Profile = Unit {0}
AgreeByC one other EnvDeps = Unit {0}
AgreeByC one other CargoPairs = Unit {0}
AgreeByC one other Directory = Unit {0}

abbrev pub AgreeByRustc : Parts → Parts → Part → Type 0
AgreeByRustc one other Toolchain = one.toolchain ≡ other.toolchain
AgreeByRustc one other Version = one.version ≡ other.version
AgreeByRustc one other KeptWords = one.words ≡ other.words
AgreeByRustc one other Sources = one.sources ≡ other.sources
AgreeByRustc one other Externs = one.externs ≡ other.externs
AgreeByRustc one other Archives = one.archives ≡ other.archives
AgreeByRustc one other Target = one.target ≡ other.target
AgreeByRustc one other Profile = one.profile ≡ other.profile
AgreeByRustc one other EnvDeps = one.env_deps ≡ other.env_deps
AgreeByRustc one other CargoPairs = one.variables ≡ other.variables
AgreeByRustc one other Directory = one.dir ≡ other.dir
AgreeByRustc one other Family = Unit {0}
AgreeByRustc one other Compiler = Unit {0}
AgreeByRustc one other Plusplus = Unit {0}
AgreeByRustc one other Language = Unit {0}
AgreeByRustc one other Words = Unit {0}
AgreeByRustc one other Variables = Unit {0}
AgreeByRustc one other ExtraContents = Unit {0}
AgreeByRustc one other Assembler = Unit {0}
AgreeByRustc one other Text = Unit {0}
AgreeByRustc one other Names = Unit {0}

-- two fingerprints are of one family and have the same in this part
abbrev pub AgreeIn : Fingerprint → Fingerprint → Part → Type 0
AgreeIn (C one) (C other) part = AgreeByC one other part
AgreeIn (Rustc one names) (Rustc other others) Names = names ≡ others
AgreeIn (Rustc one names) (Rustc other others) part = AgreeByRustc one other part
AgreeIn (C one) (Rustc other others) part = ⊥
AgreeIn (Rustc one names) (C other) part = ⊥

-- the parts of a fingerprint, in the order in which they are compared
abbrev pub parts_in : Fingerprint → List Part
parts_in (C parts) = Family ∷ Compiler ∷ Plusplus ∷ Language ∷ Words ∷ Variables ∷ ExtraContents ∷ Assembler ∷ Text ∷ Names ∷ []
parts_in (Rustc parts names) = Family ∷ Toolchain ∷ Version ∷ KeptWords ∷ Sources ∷ Externs ∷ Archives ∷ Target ∷ Profile ∷ EnvDeps ∷ CargoPairs ∷ Directory ∷ Names ∷ []

-- The part is among these, something doesn't hold of it, and it holds of each part before it.
pub record ComesFirst (P : Part → Type 0) (parts : List Part) (part : Part) : Type 0 where
  pub before : List Part
  pub after : List Part
  pub listed : parts ≡ before ++ part ∷ after
  pub fails : P part → ⊥
  pub holds : AllByRecursion P before

-- The first of these parts of which something doesn't hold, where there is one; where there is none, it holds of each.
abbrev pub IsFirst : (Part → Type 0) → List Part → Option Part → Type 0
IsFirst P parts None = AllByRecursion P parts
IsFirst P parts (Some part) = ComesFirst P parts part

-- The same, as a search finds it: it holds of the first part, and the first of the others is looked for; or it doesn't, and that part is it.
abbrev pub IsFound : (Part → Type 0) → List Part → Option Part → Type 0
IsFound P [] None = Unit {0}
IsFound P [] (Some part) = ⊥
IsFound P (part ∷ parts) found = (P part × IsFound P parts found) ⊎ ((P part → ⊥) × (found ≡ Some part))
