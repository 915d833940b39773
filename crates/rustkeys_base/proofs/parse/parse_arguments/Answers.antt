use Rattle.std.proofs.Common.{◌≡◌, List, subst, ◌∙◌}
use Rattle.std.proofs.lemmas.Result.{IfErr-weaker, IfOk-weaker}
use Rattle.base_files.specs.Bytes.{Bytes}
use Rattle.rustkeys_base.specs.Asking.{IsAskedByItems, IsAskedByRustc, IsNamedIn, by_items, by_word}
use Rattle.rustkeys_base.specs.Expansion.{expanded_by_rustc}
use Rattle.rustkeys_base.specs.Parsing.{request_reading}
use Rattle.rustkeys_base.proofs.AskLemmas.{asks-from}
use Rattle.rustkeys_base.proofs.AskedLemmas.{cause_by, exit_by}
use Rattle.rustkeys_base.proofs.parse.parse_arguments.Goals as goal

pub returns-clause-asks : goal.returns-clause-asks
returns-clause-asks g c =
    let tree = g.F.Files.tree c.args.files.now in
    let items = (request_reading (expanded_by_rustc c.args.dir.now tree c.args.words.now)).items in
    IfOk-weaker c.parse.result _ _ (asks-from c.args.dir.now tree items) (rw (c.in_ok-expanded.ensures.tree, c.as_slice.ensures, c.in_ok-expanded.ensures.words) at c.parse.ensures.asked)

pub returns-in_err-expanded-clause-names : goal.returns-in_err-expanded-clause-names
returns-in_err-expanded-clause-names g c =
    let dir = c.args.dir.now in
    let tree = g.F.Files.tree c.args.files.now in
    exit_by (IsNamedIn dir c.args.words.now) (IsAskedByRustc dir tree c.args.words.now) (λ name h. by_word h)
    c.from_residual.result c.in_err-expanded.field-0.0 c.from_residual.ensures.1 c.in_err-expanded.ensures.asked

pub returns-clause-names : goal.returns-clause-names
returns-clause-names g c =
    let dir = c.args.dir.now in
    let tree = g.F.Files.tree c.args.files.now in
    let words : c.as_slice.result.now ≡ expanded_by_rustc dir tree c.args.words.now = c.as_slice.ensures ∙ c.in_ok-expanded.ensures.words in
    IfErr-weaker c.parse.result _ _
    (cause_by (IsAskedByItems dir (request_reading c.as_slice.result.now).items) (IsAskedByRustc dir tree c.args.words.now) (λ name h. by_items (subst (λ (given : List Bytes). IsAskedByItems dir (request_reading given).items name) words h)))
    c.parse.ensures.names
