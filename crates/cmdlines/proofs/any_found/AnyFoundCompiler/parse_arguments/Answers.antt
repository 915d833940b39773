use Rattle.std.proofs.Common.{◌≡◌, ◌∙◌, List, Option, ap, sym}
use Rattle.base_files.specs.Bytes.{Bytes}
use Rattle.cmdlines_base.specs.Table.{all_entries}
use Rattle.cmdlines_response_files.specs.declared.style.Style.{Style}
use Rattle.cmdlines.specs.Opening.{opened_by, opened_words}
use Rattle.cmdlines_tables.specs.CompilerFacts.{style_of}
use Rattle.cmdlines.specs.Compilers.{Found}
use Rattle.cmdlines.specs.Parsing.{decision_by, parse_of}
use Rattle.cmdlines.proofs.any_found.AnyFoundCompiler.parse_arguments.Goals as goal
use Rattle.cmdlines.proofs.any_found.AnyFoundCompiler.parse_arguments.Goals.{in_default-via-in-Some+else-opens_any, in_default-via-in_default}

pub returns-in_ok-parse-in-Some-clause-decision : goal.returns-in_ok-parse-in-Some-clause-decision
returns-in_ok-parse-in-Some-clause-decision g c =
    let kind : c.self.inside.kind ≡ c.args.self.now.kind = ap (λ (f : Found). f.kind) c.self.view_is in
    let style = sym c.in-Some.is ∙ c.style.ensures ∙ ap style_of kind in
    let words = c.as_slice.ensures ∙ c.in_ok-opened-in-Some.ensures.words
    ∙ ap (λ s. opened_by s c.args.dir.now (g.F.Files.tree c.args.files.now) c.args.words.now) style in
    c.in_ok-parse-in-Some.ensures ∙ (λ i. decision_by c.self.inside.kind (all_entries (c.self.invariant i)) (words i))
    ∙ ap (λ k. parse_of k (opened_words c.args.self.now.kind c.args.dir.now (g.F.Files.tree c.args.files.now) c.args.words.now)) kind

pub returns-in_ok-parse-in-Some-clause-input : goal.returns-in_ok-parse-in-Some-clause-input
returns-in_ok-parse-in-Some-clause-input g c p asks_this =
    let words = opened_words c.args.self.now.kind c.args.dir.now (g.F.Files.tree c.args.files.now) c.args.words.now in
    c.inputs_are_safe.ensures c.args.self.now.kind words p (sym (returns-in_ok-parse-in-Some-clause-decision g c) ∙ asks_this)

pub returns-in_ok-parse-in-Some-clause-object : goal.returns-in_ok-parse-in-Some-clause-object
returns-in_ok-parse-in-Some-clause-object g c p asks_this =
    let words = opened_words c.args.self.now.kind c.args.dir.now (g.F.Files.tree c.args.files.now) c.args.words.now in
    c.requests_have_an_object.ensures c.args.self.now.kind words p (sym (returns-in_ok-parse-in-Some-clause-decision g c) ∙ asks_this)

pub returns-in_ok-parse-in_default-clause-decision : goal.returns-in_ok-parse-in_default-clause-decision
returns-in_ok-parse-in_default-clause-decision g c =
    let dir = c.args.dir.now in
    let tree = g.F.Files.tree c.args.files.now in
    let given = c.args.words.now in
    let kind : c.self.inside.kind ≡ c.args.self.now.kind = ap (λ (f : Found). f.kind) c.self.view_is in
    let style = c.style.ensures ∙ ap style_of kind in
    let opened : Option Style → List Bytes = λ s. opened_by s dir tree given in
    let words : given ≡ opened_words c.args.self.now.kind dir tree given = elim c.in_default.branch [
      | in_default-via-in-Some+else-opens_any w ↦ sym (c.other_words_stay.ensures w.in-Some.style dir tree given (sym w.opens_any.ensures ∙ w.if-opens_any.false)) ∙ ap opened (sym w.in-Some.is ∙ style)
      | in_default-via-in_default w ↦ ap opened (sym w.in_default.is ∙ style)
    ] in
    c.in_ok-parse-in_default.ensures ∙ (λ i. decision_by c.self.inside.kind (all_entries (c.self.invariant i)) (words i))
    ∙ ap (λ k. parse_of k (opened_words c.args.self.now.kind c.args.dir.now (g.F.Files.tree c.args.files.now) c.args.words.now)) kind

pub returns-in_ok-parse-in_default-clause-input : goal.returns-in_ok-parse-in_default-clause-input
returns-in_ok-parse-in_default-clause-input g c p asks_this =
    let words = opened_words c.args.self.now.kind c.args.dir.now (g.F.Files.tree c.args.files.now) c.args.words.now in
    c.inputs_are_safe.ensures c.args.self.now.kind words p (sym (returns-in_ok-parse-in_default-clause-decision g c) ∙ asks_this)

pub returns-in_ok-parse-in_default-clause-object : goal.returns-in_ok-parse-in_default-clause-object
returns-in_ok-parse-in_default-clause-object g c p asks_this =
    let words = opened_words c.args.self.now.kind c.args.dir.now (g.F.Files.tree c.args.files.now) c.args.words.now in
    c.requests_have_an_object.ensures c.args.self.now.kind words p (sym (returns-in_ok-parse-in_default-clause-decision g c) ∙ asks_this)
