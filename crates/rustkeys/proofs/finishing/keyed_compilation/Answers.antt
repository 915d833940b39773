use Rattle.std.proofs.Common.{◌∙◌}
use Rattle.std.specs.Option.{option_copied}
use Rattle.rustc_texts.specs.Outputs.{output_names}
use Rattle.rustc_options.specs.Asks.{asks_in}
use Rattle.rustkeys.specs.Fresh.{dep_info_by}
use Rattle.rustkeys.proofs.finishing.keyed_compilation.Goals as goal

pub returns-clause-dep_info : goal.returns-clause-dep_info
returns-clause-dep_info g c =
    let parsed = c.args.place.now.parsed.now in
    c.in_ok-command.ensures.dep_info ∙ (λ i. dep_info_by (asks_in parsed) (option_copied c.args.known.now.archive) (c.as_str-text.ensures.value i) (output_names parsed.emit (c.as_str.ensures.value i)))
