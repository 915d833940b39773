-- The compiler of a request, and its commands.
use Rattle.std.specs.Prelude.{List, string_bytes}
use Rattle.base_files.specs.Bytes.{Bytes}
use Rattle.base_files.specs.Tree.{Tree}
use Rattle.cmdlines.specs.Commands.{compile_words, output_path}
use Rattle.cmdlines_tables.specs.Small.{command_at}
use Rattle.cmdlines.specs.Compilers.{Traits}
use Rattle.cmdlines.specs.Compilers as compilers
use Rattle.cmdlines.specs.Opening.{opened_words}
use Rattle.cmdlines_tables.specs.declared.parsed.ParsedArguments.{ParsedArguments}
use Rattle.ckeys.specs.declared.compiler.CCompiler.{CCompiler}
use Rattle.cmdlines_base.specs.declared.command.SingleCompileCommand.{SingleCompileCommand}
use Rattle.cmdlines_tables.specs.declared.compiler.CCompilerKind.{CCompilerKind}
use Rattle.cmdlines_tables.specs.declared.compiler.CCompilerKind.TheVariants as kinds
use Rattle.rustc_compiler.specs.Compiler.{Rustc}
use Rattle.wrap_base.specs.declared.compiler.AnyC.{AnyC}
use Rattle.wrap_base.specs.declared.compiler.CDescription.{CDescription}
use Rattle.wrap_base.specs.declared.compiler.Compiler.{Compiler}
use Rattle.wrap_base.specs.declared.compiler.Compiler.TheVariants.{Gcc, Clang, Diab, Msvc, TaskingVX, Rust}
use Rattle.wrap_base.specs.declared.compiler.Named.{Named}
use Rattle.wrap_base.specs.declared.compiler.Named.TheVariants as families
use Rattle.wrap_base.specs.declared.request.Request.{Request}

abbrev pub kind_of : AnyC → CCompilerKind
kind_of compiler = compiler.found.now.kind

-- what is known of it
abbrev pub traits_of : AnyC → Traits
traits_of compiler = compiler.found.now.traits

abbrev pub executable_of : AnyC → Bytes
executable_of compiler = compiler.executable.now

-- the digest that represents it
abbrev pub digest_of : AnyC → Bytes
digest_of compiler = compiler.executable_digest.now

-- a C compiler as plain values
pub record CFound : Type 0 where
  pub kind : CCompilerKind
  pub traits : Traits
  pub executable : Bytes
  pub digest : Bytes

abbrev pub found_of : AnyC → CFound
found_of compiler = record { kind = kind_of compiler; traits = traits_of compiler; executable = executable_of compiler; digest = digest_of compiler }

-- a compiler as plain values, by its family
pub data NamedBy : Type 0 where
  by_c : CFound → NamedBy
  by_rustc : Rustc → NamedBy

-- a compiler of that kind
abbrev pub c_of : CCompilerKind → CCompiler Traits → NamedBy
c_of kind found = by_c (record { kind = kind; traits = found.compiler; executable = found.executable; digest = string_bytes found.executable_digest })

-- and one of which that is known
abbrev pub c_described : CCompilerKind → CDescription → NamedBy
c_described kind d = by_c (record { kind = kind; traits = compilers.traits_of d.plusplus d.version d.assembler_digest; executable = d.executable; digest = string_bytes d.executable_digest })

-- the compiler of a request
abbrev pub named_by : Compiler → NamedBy
named_by (Gcc found) = c_of kinds.Gcc found
named_by (Clang found) = c_of kinds.Clang found
named_by (Diab found) = c_of kinds.Diab found
named_by (Msvc found) = c_of kinds.Msvc found
named_by (TaskingVX found) = c_of kinds.TaskingVX found
named_by (Rust rust) = by_rustc rust

abbrev pub named_in : Named → NamedBy
named_in (families.C compiler) = by_c (found_of compiler)
named_in (families.Rustc rust) = by_rustc rust.now

-- a request's words, in which response files that this compiler opens are replaced by their words
abbrev pub words_at : CFound → Request → Tree → List Bytes
words_at found request tree = opened_words found.kind request.dir tree request.words

-- these words, run by this compiler as the request says
abbrev pub command_of : CFound → Request → List Bytes → SingleCompileCommand
command_of found request words = command_at found.executable words request.env request.dir

abbrev pub compile_command_of : CFound → Request → ParsedArguments → SingleCompileCommand
compile_command_of found request p = command_of found request (compile_words found.kind p (output_path p))
