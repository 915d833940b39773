use Rattle.std.proofs.Common.{[], subst}
use Rattle.cmdlines_base.specs.Texts.{PathText}
use Rattle.rustc_options.proofs.types.ArgTargetIntoArg.into_arg_string.Goals as goal

pub returns-in-Path-clause-text : goal.returns-in-Path-clause-text
returns-in-Path-clause-text g c = rw c.in-Path.is (subst (λ path. PathText g.F.FnMut [] path c.args.path_transformer.now c.path_to_string.result c.path_to_string.new.path_transformer) c.as_bytes.ensures c.path_to_string.ensures.text)
