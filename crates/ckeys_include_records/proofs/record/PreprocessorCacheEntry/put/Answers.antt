use Rattle.std.proofs.Common.{◌≡◌, ◌<◌, List, length, ap, sym, ◌∙◌, arith}
use Rattle.std.proofs.lemmas.List.Sums.{prefix_len-le-length}
use Rattle.ckeys_include_records.specs.Records.{Record, is_before}
use Rattle.ckeys_include_records.specs.Results.{place_for}
use Rattle.ckeys_include_records.specs.declared.entry.CachedResult.{CachedResult}
use Rattle.ckeys_include_records.proofs.Insertion.{StandsElse, get_or_any, inserted, inserted-kept, replaced, replaced-kept}
use Rattle.ckeys_include_records.proofs.record.PreprocessorCacheEntry.put.Goals as goal
use Rattle.ckeys_include_records.proofs.record.PreprocessorCacheEntry.put.Goals.{else-at-len-via-then-at-len+else-eq, else-at-len-via-else-at-len}

pub insert-requires : goal.insert-requires
insert-requires c = omega (arith, prefix_len-le-length (λ (q : CachedResult). is_before q.key c.args.newest.key) c.deref.result.now)

pub invariant_of-self : goal.invariant_of-self
invariant_of-self c =
    let r = c.args.newest in
    let items = c.self.inside.results.items in
    let place : c.place_for-at.result ≡ place_for items r.key = c.place_for-at.ensures ∙ ap (λ (l : List CachedResult). place_for l r.key) c.deref.ensures.value in
    let lt : c.place_for-at.result < length items = omega arith in
    let kept = replaced-kept r c.index.result.now items c.args.self.now.results c.place_for-at.result (ap (λ (e : Record). e.results) c.self.view_is) place lt c.index.ensures c.self.inside.includes (sym c.eq.ensures ∙ c.if-eq.true) c.requires c.self.invariant in
    let other : length c.index-then-eq.result.now.includes ≡ length c.index.result.now.includes =
    ap (λ (q : CachedResult). length q.includes) (c.index-then-eq.ensures ∙ get_or_any items c.place_for-at.result c.index-then-eq.result.now c.index.result.now lt ∙ sym c.index.ensures) in
    (omega (arith, kept.0, c.len-then-eq.ensures, c.len-more.ensures, other), kept.1)

pub returns-then-eq-clause-ok : goal.returns-then-eq-clause-ok
returns-then-eq-clause-ok c =
    let r = c.args.newest in
    let items = c.self.inside.results.items in
    let place : c.place_for-at.result ≡ place_for items r.key = c.place_for-at.ensures ∙ ap (λ (l : List CachedResult). place_for l r.key) c.deref.ensures.value in
    replaced r c.index.result.now items c.args.self.now.results c.place_for-at.result (ap (λ (e : Record). e.results) c.self.view_is) place (omega arith) c.index.ensures (sym c.eq.ensures ∙ c.if-eq.true)

pub invariant_of-self-else-at-len : goal.invariant_of-self-else-at-len
invariant_of-self-else-at-len c =
    let r = c.args.newest in
    let items = c.self.inside.results.items in
    let place : c.place_for-at.result ≡ place_for items r.key = c.place_for-at.ensures ∙ ap (λ (l : List CachedResult). place_for l r.key) c.deref.ensures.value in
    let absent : c.place_for-at.result < length items → StandsElse r items c.place_for-at.result = elim c.else-at-len.branch [
      | else-at-len-via-then-at-len+else-eq w ↦ λ lt. (w.index.result.now, w.index.ensures, sym w.eq.ensures ∙ w.if-eq.false)
      | else-at-len-via-else-at-len w ↦ λ lt. absurd (omega arith)
    ] in
    let kept = inserted-kept r items c.args.self.now.results c.insert.new.self.items c.place_for-at.result (ap (λ (e : Record). e.results) c.self.view_is) place absent c.in_ok-insert.ensures.items c.self.inside.includes c.requires c.self.invariant in
    (omega (arith, kept.0, c.len-more.ensures), kept.1)

pub returns-in_ok-insert-clause-ok : goal.returns-in_ok-insert-clause-ok
returns-in_ok-insert-clause-ok c =
    let r = c.args.newest in
    let items = c.self.inside.results.items in
    let place : c.place_for-at.result ≡ place_for items r.key = c.place_for-at.ensures ∙ ap (λ (l : List CachedResult). place_for l r.key) c.deref.ensures.value in
    let absent : c.place_for-at.result < length items → StandsElse r items c.place_for-at.result = elim c.else-at-len.branch [
      | else-at-len-via-then-at-len+else-eq w ↦ λ lt. (w.index.result.now, w.index.ensures, sym w.eq.ensures ∙ w.if-eq.false)
      | else-at-len-via-else-at-len w ↦ λ lt. absurd (omega arith)
    ] in
    inserted r items c.args.self.now.results c.insert.new.self.items c.place_for-at.result (ap (λ (e : Record). e.results) c.self.view_is) place absent c.in_ok-insert.ensures.items

pub returns-then-eq-clause-small : goal.returns-then-eq-clause-small
returns-then-eq-clause-small c = (invariant_of-self c).1

pub returns-in_ok-insert-clause-small : goal.returns-in_ok-insert-clause-small
returns-in_ok-insert-clause-small c = (invariant_of-self-else-at-len c).1
