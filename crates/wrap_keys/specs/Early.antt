-- Which files are asked for before there is a verdict.
use Rattle.base_files.specs.Bytes.{Bytes}
use Rattle.base_files.specs.Tree.{Tree}
use Rattle.cmdlines.specs.Opening.{IsAskedByKind}
use Rattle.rustkeys_base.specs.Asking.{IsAskedByRustc}
use Rattle.wrap_base.specs.Commands.{NamedBy, by_c, by_rustc}
use Rattle.wrap_base.specs.declared.request.Request.{Request}
use Rattle.wrap_keys.specs.Account.{Account, passed, worked}

-- the request's words ask for the file, of this compiler
abbrev pub IsAskedEarly : NamedBy → Request → Tree → Bytes → Type 0
IsAskedEarly (by_c found) request tree name = IsAskedByKind found.kind request.dir tree request.words name
IsAskedEarly (by_rustc rust) request tree name = IsAskedByRustc request.dir tree request.words name

-- a fact of a request that is passed through
abbrev pub OfPassed : Account → Type 0 → Type 0
OfPassed (passed why) P = P
OfPassed (worked w) P = Unit {0}
