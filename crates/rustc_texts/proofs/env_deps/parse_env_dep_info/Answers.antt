use Rattle.std.proofs.Common.{◌≡◌, ℕ, List, [], ◌∷◌, ◌++◌, Some, None, ◌∙◌, ap, sym}
use Rattle.std.specs.Borrow.{Bor}
use Rattle.std.specs.Prelude.{filter_map}
use Rattle.std.proofs.lemmas.Iterator.Consumers.{YieldsList-at, YieldsList-end}
use Rattle.std.proofs.lemmas.Iterator.Splits.{YieldsList-from_lines}
use Rattle.rustc_parts.specs.declared.parts.EnvDep.{EnvDep}
use Rattle.rustc_texts.specs.EnvDeps.{env_dep_in}
use Rattle.rustc_texts.proofs.MoreLines.{one_told, none_told}
use Rattle.rustc_texts.proofs.env_deps.parse_env_dep_info.Goals as goal

pub loop-line-preserved : goal.loop-line-preserved
loop-line-preserved c =
    let told : env_dep_in c.in-Some.line.now ≡ None = ap env_dep_in (sym c.as_bytes.ensures.value) ∙ sym c.in_ok-dep.ensures ∙ c.in_default.is in
    c.loop-line.invariant ∙ sym (none_told (λ (line : Bor (List ℕ)). line.now) env_dep_in c.loop-line.yielded c.in-Some.line told)

pub loop-line-preserved-in-Continue-branch-3 : goal.loop-line-preserved-in-Continue-branch-3
loop-line-preserved-in-Continue-branch-3 c =
    let told : env_dep_in c.in-Some.line.now ≡ Some c.in-Some-2.dep = ap env_dep_in (sym c.as_bytes.ensures.value) ∙ sym c.in_ok-dep.ensures ∙ c.in-Some-2.is in
    c.in_ok-push.ensures.items ∙ ap (λ (deps : List EnvDep). deps ++ c.in-Some-2.dep ∷ []) c.loop-line.invariant ∙ sym (one_told (λ (line : Bor (List ℕ)). line.now) env_dep_in c.loop-line.yielded c.in-Some.line c.in-Some-2.dep told)

pub returns : goal.returns
returns c =
    let done =
    YieldsList-end
    (YieldsList-at c.into_iter-line-iterator.ensures.into_iter_gives
    (YieldsList-from_lines c.args.text.now c.lines-line-items.ensures.rest))
    c.loop-line.yielded _ c.loop-line.yielded_by _ _ c.in-None.is c.next.ensures.steps in
    c.from_vec.ensures ∙ c.loop-line.invariant ∙ ap (filter_map env_dep_in) done.0
