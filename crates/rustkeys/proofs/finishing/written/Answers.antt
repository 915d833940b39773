use Rattle.std.proofs.Common.{◌≡◌, ◌∙◌, ap}
use Rattle.std.specs.Option.{option_copied}
use Rattle.rustc_texts.specs.Outputs.{output_names}
use Rattle.rustc_options.specs.Asks.{asks_in}
use Rattle.rustkeys.specs.Fresh.{dep_info_by}
use Rattle.rustkeys.proofs.finishing.written.Goals as goal

pub returns-clause-dep_info : goal.returns-clause-dep_info
returns-clause-dep_info c =
    let parsed = c.args.place.now.parsed.now in
    let told = c.args.names.now in
    let names : c.as_slice-names.result.now ≡ output_names parsed.emit told = c.as_slice-names.ensures ∙ c.in_ok-names.ensures ∙ ap (λ emit. output_names emit told) c.as_slice.ensures in
    c.in_ok-dep_info.ensures ∙ ap (dep_info_by (asks_in parsed) (option_copied c.args.known.now.archive) c.args.text.now) names
