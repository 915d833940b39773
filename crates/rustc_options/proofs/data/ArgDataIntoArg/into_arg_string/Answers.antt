use Rattle.std.proofs.Common.{[], subst, inl, inr}
use Rattle.cmdlines_base.specs.Texts.{PathText}
use Rattle.rustc_options.proofs.data.ArgDataIntoArg.into_arg_string.Goals as goal

pub returns-in-TooHardPath-clause-text : goal.returns-in-TooHardPath-clause-text
returns-in-TooHardPath-clause-text g c =
    let text = subst (λ path. PathText g.F.FnMut [] path c.args.path_transformer.now c.path_to_string.result c.path_to_string.new.path_transformer) c.as_bytes-in-TooHardPath.ensures c.path_to_string.ensures.text in
    elim c.in-TooHardPath.is [
      | inl is ↦ rw is text
      | inr is ↦ rw is text
    ]
