-- A request to rustc with its key.
use Rattle.std.specs.Prelude.{◌≡◌}
use Rattle.base_files.specs.Bytes.{Bytes}
use Rattle.cmdlines_tables.specs.Small.{command_at}
use Rattle.cmdlines_base.specs.declared.command.SingleCompileCommand.{SingleCompileCommand}
use Rattle.rustc_compiler.specs.Compiler.{Rustc}
use Rattle.rustc_texts.specs.Words.{compile_words}
use Rattle.rustc_options.specs.Asks.{RustAsks}
use Rattle.rustkeys.specs.Questions.{compile_env_of}
use Rattle.wrap_keys.specs.CallRecords.{IsTold}
use Rattle.wrap_keys.specs.Account.{Work}
use Rattle.wrap_keys.specs.StoreKeys.{HasRecord, store_key_of}
use Rattle.wrap.specs.declared.rust_calls.RustPrepared.{RustPrepared}
use Rattle.wrap_base.specs.declared.request.Request.{Request}

-- what is run for a request to this rustc that asks for this
abbrev pub rust_command_of : Rustc → Request → RustAsks → SingleCompileCommand
rust_command_of rust request asked = command_at rust.executable (compile_words asked) (compile_env_of request.env) request.dir

-- It has the work's key, which determines its record, and no fault; the work's outputs and its text on dependencies; and the command that makes them.
pub record IsRustPrepared (digest_of : Bytes → Bytes) (rust : Rustc) (request : Request) (asked : RustAsks) (w : Work) (made : RustPrepared) : Type 0 where
  pub is_key : made.key ≡ store_key_of digest_of w
  pub told : IsTold digest_of w.rec
  pub fine : HasRecord w
  pub outputs : made.compilation.outputs ≡ w.outputs
  pub command : made.compilation.command ≡ rust_command_of rust request asked
  pub dep_info : made.dep_info ≡ w.dep_info
