use Rattle.cmdlines.proofs.InputLemmas.{input_safe}
use Rattle.cmdlines.proofs.laws.inputs_are_safe.Goals as goal

pub returns : goal.returns
returns c = input_safe c.only_msvc_gives_inputs_by_options.ensures
