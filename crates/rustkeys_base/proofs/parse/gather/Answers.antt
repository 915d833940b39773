use Rattle.std.proofs.Common.{◌≡◌, ◌∙◌, List, [], ◌∷◌, ◌++◌, None, Some, ap, refl, sym, subst, append-nil, map, rules}
use Rattle.std.specs.List.{AllZip, Contains}
use Rattle.std.specs.Prelude.{is_some}
use Rattle.std.specs.Option.{option_map}
use Rattle.cmdlines_base.specs.Cutting.{place_of, reading_at, reading_by}
use Rattle.cmdlines_base.specs.Reading.{Reading}
use Rattle.cmdlines_base.specs.declared.argument.Argument.{Argument}
use Rattle.rustc_options.specs.Table.{rustc_entries, rustc_reading}
use Rattle.rustc_options.specs.declared.data.ArgData.{ArgData}
use Rattle.rustc_options.specs.declared.kind.ArgKind.{ArgKind}
use Rattle.rustkeys_base.specs.Asking.{IsTargetFile, target_file_in}
use Rattle.rustkeys_base.specs.Facts.{facts_with, no_facts}
use Rattle.rustkeys_base.specs.Requests.{IsArgument, wanted}
use Rattle.rustkeys_base.specs.Saying.{token_in, token_of}
use Rattle.rustkeys_base.specs.Parsing.{decides, decision_of_refusal}
use Rattle.rustkeys_base.proofs.AskedLemmas.{exit_by, first_in, later_in}
use Rattle.rustkeys_base.proofs.CauseLemmas.{cause-later}
use Rattle.rustkeys_base.proofs.DeciderLaws.{decision_is}
use Rattle.rustkeys_base.proofs.FactLemmas.{facts-more, facts-none, facts-of}
use Rattle.rustkeys_base.proofs.ItemLemmas.{Continues, continues-more, token_is}
use Rattle.rustkeys_base.proofs.ParsingLemmas.{nothing_is, decision_at, decision-more}
use Rattle.rustkeys_base.proofs.parse.gather.Goals as goal

pub loop-next-init : goal.loop-next-init
loop-next-init g c =
    let dir = c.args.dir.now in
    let tree = g.F.Files.tree c.args.files.now in
    let all = rustc_reading c.args.words.now in
    let new = c.new-arguments.ensures in
    let start : reading_at rustc_entries (place_of c.new-arguments.result) ≡ all = λ i. reading_by rustc_entries (new.dashes i) (new.words i) in
    let from_start : decision_at dir tree c.args.facts.now (reading_at rustc_entries (place_of c.new-arguments.result)) ≡ decision_at dir tree no_facts all = λ i. decision_at dir tree (c.requires.facts i) (start i) in
    let said_from_start : facts_with c.args.facts.now (map token_of (reading_at rustc_entries (place_of c.new-arguments.result)).items) ≡ facts_with no_facts (map token_of all.items) = λ i. facts_with (c.requires.facts i) (map token_of (start i).items) in
    record {
      table = new.table ∙ c.requires.tree;
      within = λ item h. subst (λ (r : Reading ArgKind). Contains r.items item) start h;
      decision = from_start ∙ decision_is dir tree all.items all.cut_short;
      facts = said_from_start ∙ facts-of (map token_of all.items);
      kept = λ rest h. subst (λ (l : List (Argument ArgData)). AllZip IsArgument (wanted all.items) (l ++ rest)) (sym c.requires.kept) (subst (λ (r : Reading ArgKind). AllZip IsArgument (wanted r.items) rest) start h);
      tree = refl;
      steady = refl;
    }

pub returns-in_err-why-in-Ok-clause-cause : goal.returns-in_err-why-in-Ok-clause-cause
returns-in_err-why-in-Ok-clause-cause g c = search (rules, cause-later)

pub returns-in_err-why-in-Ok-clause-asked : goal.returns-in_err-why-in-Ok-clause-asked
returns-in_err-why-in-Ok-clause-asked g c =
    let inv = c.loop-next.invariant in
    let steps = rw c.in-Ok.is at c.in-Some.ensures.steps in
    let step = rw inv.table at steps.0 in
    let dir = c.args.dir.now in
    let argument = c.in-Ok.argument in
    let left = reading_at rustc_entries (place_of c.next.new.self) in
    let all = rustc_reading c.args.words.now in
    let token = token_is step.item argument step.is in
    let among : Contains all.items step.item = inv.within step.item (subst (λ (r : Reading ArgKind). Contains r.items step.item) (sym step.reads) (first_in step.item left.items)) in
    exit_by (λ name. target_file_in dir (token_in argument) ≡ Some name) (IsTargetFile dir all.items) (λ name is. (step.item, among, ap (target_file_in dir) (sym token) ∙ is))
    c.from_residual-in_err-why-in-Ok.result c.in_err-why-in-Ok.field-0.0 c.from_residual-in_err-why-in-Ok.ensures.1 c.in_err-why-in-Ok.ensures.asked

pub loop-next-preserved : goal.loop-next-preserved
loop-next-preserved g c =
    let inv = c.loop-next.invariant in
    let steps = rw c.in-Ok.is at c.in-Some.ensures.steps in
    let step = rw inv.table at steps.0 in
    let dir = c.args.dir.now in
    let tree = g.F.Files.tree c.args.files.now in
    let f = c.loop-next.facts in
    let argument = c.in-Ok.argument in
    let left = reading_at rustc_entries (place_of c.next.new.self) in
    let all = rustc_reading c.args.words.now in
    let none = nothing_is c.in_ok-why-in-Ok.why c.if-is_some.ensures in
    let token = token_is step.item argument step.is in
    let nothing : decides dir tree f (token_of step.item) ≡ None =
    ap (λ t. decides dir t f (token_of step.item)) (sym inv.tree) ∙ ap (decides dir (g.F.Files.tree c.loop-next.files) f) (sym token) ∙ sym c.in_ok-why-in-Ok.ensures.decides ∙ ap (option_map decision_of_refusal) none in
    let noted : c.take.new.facts ≡ facts_with f (token_of step.item ∷ []) = (rw none at c.in_ok-why-in-Ok.ensures.noted) ∙ ap (λ t. facts_with f (t ∷ [])) token in
    record {
      table = steps.1 ∙ inv.table;
      within = λ item h. inv.within item (subst (λ (r : Reading ArgKind). Contains r.items item) (sym step.reads) (later_in step.item left.items item h));
      decision = ap (λ h. decision_at dir tree h left) noted ∙ sym (decision-more dir tree f step.item left (ap is_some step.accepted) nothing) ∙ ap (decision_at dir tree f) (sym step.reads) ∙ inv.decision;
      facts = ap (λ h. facts_with h (map token_of left.items)) noted ∙ facts-more f (token_of step.item) (map token_of left.items) ∙ ap (λ (r : Reading ArgKind). facts_with f (map token_of r.items)) (sym step.reads) ∙ inv.facts;
      kept = continues-more step.item left.items all.items argument c.loop-next.kept c.take.new.kept step.is (rw none at c.in_ok-why-in-Ok.ensures.kept) (subst (λ (r : Reading ArgKind). Continues r.items c.loop-next.kept all.items) step.reads inv.kept);
      tree = c.in_ok-why-in-Ok.ensures.tree ∙ inv.tree;
      steady = c.in_ok-why-in-Ok.ensures.steady ∙ inv.steady;
    }

pub returns-clause-gathered : goal.returns-clause-gathered
returns-clause-gathered g c =
    let inv = c.loop-next.invariant in
    let steps = rw inv.table at c.in_default.ensures.steps in
    let dir = c.args.dir.now in
    let tree = g.F.Files.tree c.args.files.now in
    let f = c.loop-next.facts in
    let all = rustc_reading c.args.words.now in
    let stands = subst (λ (r : Reading ArgKind). Continues r.items c.loop-next.kept all.items) steps.0.0 inv.kept [] tt in (
      ap (decision_at dir tree f) (sym steps.0.0) ∙ inv.decision,
      sym (facts-none f) ∙ ap (λ (r : Reading ArgKind). facts_with f (map token_of r.items)) (sym steps.0.0) ∙ inv.facts,
      subst (λ (l : List (Argument ArgData)). AllZip IsArgument (wanted all.items) l) (append-nil c.loop-next.kept) stands,
    )
