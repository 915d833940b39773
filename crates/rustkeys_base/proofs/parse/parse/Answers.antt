use Rattle.std.proofs.Common.{◌≡◌, List, map, ap, subst, ◌∙◌}
use Rattle.std.specs.List.{Contains}
use Rattle.std.proofs.lemmas.Result.{IfErr-weaker}
use Rattle.base_files.specs.Bytes.{Bytes}
use Rattle.rustc_options.specs.Table.{rustc_reading}
use Rattle.rustkeys_base.specs.Asking.{IsAskedByItems, for_library, library_places}
use Rattle.rustkeys_base.specs.Facts.{facts_of}
use Rattle.rustkeys_base.specs.Parsing.{after_rustc, request_reading}
use Rattle.rustkeys_base.specs.Saying.{token_of}
use Rattle.rustkeys_base.specs.declared.facts.Facts.{Facts}
use Rattle.rustkeys_base.proofs.AskedLemmas.{cause_by}
use Rattle.rustkeys_base.proofs.CauseLemmas.{cause-later}
use Rattle.rustkeys_base.proofs.parse.parse.Goals as goal

pub returns-in-Ok-None-clause-cause : goal.returns-in-Ok-None-clause-cause
returns-in-Ok-None-clause-cause g c =
    IfErr-weaker c.close.result _ _
    (cause-later g.F.Files c.args.files.now c.gather_words.new.files c.close.new.files c.in-Ok-None.ensures.tree c.in-Ok-None.ensures.steady)
    c.close.ensures.cause

pub returns-in-Ok-None-clause-names : goal.returns-in-Ok-None-clause-names
returns-in-Ok-None-clause-names g c =
    let dir = c.args.dir.now in
    let items = (request_reading c.args.words.now).items in
    let words : c.after_rustc.result.now ≡ after_rustc c.args.words.now = c.after_rustc.ensures in
    let gathered = rw c.in-Ok-None.field-0-is at c.in-Ok-None.ensures.gathered in
    let facts : c.gather_words.new.facts ≡ facts_of (map token_of items) = gathered.1 ∙ ap (λ (given : List Bytes). facts_of (map token_of (rustc_reading given).items)) words in
    IfErr-weaker c.close.result _ _
    (cause_by (Contains (library_places dir c.gather_words.new.facts)) (IsAskedByItems dir items) (λ name h. for_library (subst (λ (f : Facts). Contains (library_places dir f) name) facts h)))
    c.close.ensures.names
