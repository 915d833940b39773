use Rattle.std.proofs.Common.{subst, sym}
use Rattle.std.specs.Bool.{Decides}
use Rattle.std.proofs.lemmas.Slice.Eq.{slice_eq-Decides}
use Rattle.wrap_fingerprints.specs.Explaining.{AgreeByRustc}
use Rattle.wrap_fingerprints.proofs.EqualLemmas.{bytes_are, env_deps_are, pairs_are}
use Rattle.wrap_fingerprints.proofs.explain.agree_by_rustc.Goals as goal

pub returns-in-Toolchain : goal.returns-in-Toolchain
returns-in-Toolchain c = subst (λ part. Decides c.eq.result (AgreeByRustc c.args.one.now c.args.other.now part)) (sym c.in-Toolchain.is) (slice_eq-Decides bytes_are _ _ c.eq.result c.eq.ensures)

pub returns-in-KeptWords : goal.returns-in-KeptWords
returns-in-KeptWords c = subst (λ part. Decides c.eq-in-KeptWords.result (AgreeByRustc c.args.one.now c.args.other.now part)) (sym c.in-KeptWords.is) (slice_eq-Decides bytes_are _ _ c.eq-in-KeptWords.result c.eq-in-KeptWords.ensures)

pub returns-in-Sources : goal.returns-in-Sources
returns-in-Sources c = subst (λ part. Decides c.eq-in-Sources.result (AgreeByRustc c.args.one.now c.args.other.now part)) (sym c.in-Sources.is) (slice_eq-Decides bytes_are _ _ c.eq-in-Sources.result c.eq-in-Sources.ensures)

pub returns-in-Externs : goal.returns-in-Externs
returns-in-Externs c = subst (λ part. Decides c.eq-in-Externs.result (AgreeByRustc c.args.one.now c.args.other.now part)) (sym c.in-Externs.is) (slice_eq-Decides bytes_are _ _ c.eq-in-Externs.result c.eq-in-Externs.ensures)

pub returns-in-Archives : goal.returns-in-Archives
returns-in-Archives c = subst (λ part. Decides c.eq-in-Archives.result (AgreeByRustc c.args.one.now c.args.other.now part)) (sym c.in-Archives.is) (slice_eq-Decides bytes_are _ _ c.eq-in-Archives.result c.eq-in-Archives.ensures)

pub returns-in-EnvDeps : goal.returns-in-EnvDeps
returns-in-EnvDeps c = subst (λ part. Decides c.eq-in-EnvDeps.result (AgreeByRustc c.args.one.now c.args.other.now part)) (sym c.in-EnvDeps.is) (slice_eq-Decides env_deps_are _ _ c.eq-in-EnvDeps.result c.eq-in-EnvDeps.ensures)

pub returns-in-CargoPairs : goal.returns-in-CargoPairs
returns-in-CargoPairs c = subst (λ part. Decides c.eq-in-CargoPairs.result (AgreeByRustc c.args.one.now c.args.other.now part)) (sym c.in-CargoPairs.is) (slice_eq-Decides pairs_are _ _ c.eq-in-CargoPairs.result c.eq-in-CargoPairs.ensures)
