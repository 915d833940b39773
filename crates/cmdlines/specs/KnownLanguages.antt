-- The language of what words ask for.
use Rattle.std.specs.Prelude.{◌≡◌, true}
use Rattle.cmdlines_tables.specs.Languages.{knows}
use Rattle.cmdlines_tables.specs.declared.compiler.CCompilerKind.{CCompilerKind}
use Rattle.cmdlines_tables.specs.declared.language.Language.{Language}
use Rattle.cmdlines_tables.specs.declared.language.Language.TheVariants.{Rust}
use Rattle.cmdlines.specs.Parsing.{Decision, asks}
use Rattle.cmdlines_tables.specs.declared.parsed.ParsedArguments.{ParsedArguments}

-- the compiler knows the language, and it isn't Rust
abbrev pub IsKnownTo : CCompilerKind → Language → Type 0
IsKnownTo kind language = (knows kind language ≡ true) × (language ≡ Rust → ⊥)

-- what words ask for is in such a language
abbrev pub HasKnownLanguageIn : CCompilerKind → Decision → Type 0
HasKnownLanguageIn kind decision = (p : ParsedArguments) → decision ≡ asks p → IsKnownTo kind p.language
