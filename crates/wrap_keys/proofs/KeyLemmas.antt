-- The call of which a request's key is made, and what is said of a fault.
use Rattle.std.proofs.Common.{◌≡◌, ℕ, Result, Ok, Err, IfErr, IsErrAnd, sym, subst, ◌∙◌}
use Rattle.base_files.specs.Bytes.{Bytes}
use Rattle.base_files.specs.Fails.{FailsOn}
use Rattle.base_files.specs.Tree.{Tree}
use Rattle.cmdlines.specs.Compilers.{Found, kind_in, traits_in}
use Rattle.cmdlines_tables.specs.declared.parsed.ParsedArguments.{ParsedArguments}
use Rattle.ckeys_records.specs.Folders.{Settings}
use Rattle.ckeys.specs.Hashers.{call_by}
use Rattle.ckeys_records.specs.Meaning.{scene_with}
use Rattle.ckeys_records.specs.declared.fault.Fault.{Fault}
use Rattle.ckeys.specs.declared.place.CallPlace.{CallPlace}
use Rattle.ckeys.specs.declared.hasher.CCompilerHasher.{CCompilerHasher}
use Rattle.wrap_keys.specs.Account.{call_at}
use Rattle.wrap_base.specs.Commands.{executable_of, digest_of, found_of}
use Rattle.wrap_base.specs.declared.compiler.AnyC.{AnyC}
use Rattle.wrap_base.specs.declared.request.Request.{Request}

-- the hasher of a C compiler makes the key of the request's call to it
pub call_is : (named : AnyC) (request : Request) (tree : Tree) (settings : Settings) (p : ParsedArguments) (hasher : CCompilerHasher Found) (place : CallPlace)
    → hasher.compiler.now ≡ named.found.now → hasher.executable.now ≡ executable_of named → hasher.executable_digest.now ≡ digest_of named → hasher.parsed.now ≡ p → place.dir.now ≡ request.dir → place.env.now ≡ request.env → place.moment ≡ request.moment → place.config.now ≡ settings
    → call_by kind_in traits_in hasher place tree ≡ call_at (found_of named) request tree settings p
call_is named request tree settings p hasher place compiler executable digest parsed dir env moment config = λ i. record {
  kind = kind_in (compiler i);
  traits = traits_in (compiler i);
  compiler_digest = digest i;
  parsed = parsed i;
  scene = scene_with (executable i) (dir i) (env i) tree (moment i);
  settings = config i;
}

-- what holds of a fault holds of what it became
pub on_exit : {A : Type 0} (P : Fault → Type 0) (result : Result A Fault) (fault : Fault) → IsErrAnd result (λ f. f ≡ fault) → P fault → IfErr result P
on_exit P (Ok x) fault h p = absurd h
on_exit P (Err f) fault h p = subst P (sym h) p

-- an I/O error on a file after calls without one
pub fails_on_later : {F : Type 0} (tree : F → Tree) (failed : F → ℕ) (fails_on : F → Bytes → F → Type 0) (old mid new : F) → tree mid ≡ tree old → failed mid ≡ failed old → (name : Bytes) → FailsOn tree failed fails_on mid new name → FailsOn tree failed fails_on old new name
fails_on_later tree failed fails_on old mid new m f name h = record { from = h.from; same = h.same ∙ m; steady = h.steady ∙ f; ticks = h.ticks; leads = h.leads }
