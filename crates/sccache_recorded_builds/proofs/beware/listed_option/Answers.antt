use Rattle.std.proofs.Common.{◌∙◌, ap, Bor, List, ℕ, Option}
use Rattle.std.specs.Option.{option_map}
use Rattle.std.specs.Str.{bytes_eq}
use Rattle.sccache_recorded_builds.specs.Beware.{begins_with}
use Rattle.sccache_recorded_builds.proofs.Texts.{later_found, read-find, sooner_found}
use Rattle.sccache_recorded_builds.proofs.beware.listed_option.Goals as goal

abbrev read : Option (Bor (List ℕ)) → Option (List ℕ)
read o = option_map (λ text. text.now) o

pub returns-in-Some : goal.returns-in-Some
returns-in-Some c =
    sooner_found _ _ _
    (ap read c.in-Some.ensures ∙ read-find (bytes_eq c.args.word.now) c.args.options.now)

pub returns-in-Some-front_option : goal.returns-in-Some-front_option
returns-in-Some-front_option c =
    later_found _ _ _
    (ap read c.in_default.ensures ∙ read-find (bytes_eq c.args.word.now) c.args.options.now)
    (sooner_found _ _ _
    (ap read c.in-Some-front_option.ensures
    ∙ read-find (begins_with c.args.word.now) c.args.fronts.now))

pub returns : goal.returns
returns c =
    later_found _ _ _
    (ap read c.in_default.ensures ∙ read-find (bytes_eq c.args.word.now) c.args.options.now)
    (later_found _ _ _
    (ap read c.in_default-front_option.ensures
    ∙ read-find (begins_with c.args.word.now) c.args.fronts.now)
    c.naming_option.ensures)
