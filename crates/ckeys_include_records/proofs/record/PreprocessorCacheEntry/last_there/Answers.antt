use Rattle.std.proofs.Common.{◌≡◌, ℕ, ◌+◌, ◌-◌, ◌<◌, length, take, get_or, List, refl, sym, ap, subst, ◌∙◌, arith, false}
use Rattle.std.proofs.lemmas.List.{take_all}
use Rattle.base_files.specs.Tree.{Tree}
use Rattle.ckeys_include_records.specs.LookUps.{last_there}
use Rattle.ckeys_include_records.specs.Records.{Record}
use Rattle.ckeys_include_records.specs.Sightings.{AreTrue}
use Rattle.ckeys_include_records.specs.Surroundings.{are_there, place_with}
use Rattle.ckeys_include_records.specs.declared.entry.CachedResult.{CachedResult}
use Rattle.ckeys_include_records.specs.declared.entry.IncludeEntry.{IncludeEntry}
use Rattle.ckeys_include_records.proofs.Looking.{last_there-before}
use Rattle.ckeys_include_records.proofs.record.PreprocessorCacheEntry.last_there.Goals as goal

pub loop-left-init : goal.loop-left-init
loop-left-init g c =
    let place = place_with c.args.dir.now (g.F.Files.tree c.args.files.now) c.args.day in
    let results = c.args.self.now.results in
    let same : c.self.inside.results.items ≡ results = ap (λ (e : Record). e.results) c.self.view_is in
    let lens : length c.self.inside.results.items ≡ length results = ap (λ (l : List CachedResult). length l) same in
    let whole : c.len-left.result ≡ length results = omega (arith, lens, c.len-left.ensures) in
    record {
      within = omega (arith, whole);
      so_far = ap (last_there g.H.HashState.digest_of place) (take_all c.len-left.result results (omega (arith, whole)));
      seen = c.new-sightings.ensures g.H.HashState.digest_of place;
      tree = refl;
      steady = refl;
    }

pub loop-left-preserved : goal.loop-left-preserved
loop-left-preserved g c =
    let digest_of = g.H.HashState.digest_of in
    let inv = c.loop-left.invariant in
    let place = place_with c.args.dir.now (g.F.Files.tree c.args.files.now) c.args.day in
    let results = c.args.self.now.results in
    let at = c.loop-left.left - 1 in
    let r = c.index-result.result.now in
    let same : c.self.inside.results.items ≡ results = ap (λ (e : Record). e.results) c.self.view_is in
    let is : r ≡ get_or results at r = c.index-result.ensures ∙ ap (λ (l : List CachedResult). get_or l at r) same in
    let lt : at < length results = omega (arith, inv.within, c.loop-left-test.true) in
    let up : at + 1 ≡ c.loop-left.left = omega (arith, c.loop-left-test.true) in
    let gone : are_there place digest_of r.includes ≡ false =
    ap (λ (tree : Tree). are_there (place_with c.args.dir.now tree c.args.day) digest_of r.includes) (sym inv.tree)
    ∙ ap (λ (l : List IncludeEntry). are_there (place_with c.args.dir.now (g.F.Files.tree c.loop-left.files) c.args.day) digest_of l) (sym c.as_slice.ensures)
    ∙ sym c.in_ok-are_there.ensures.there ∙ c.if-branch.false in
    record {
      within = omega (arith, lt);
      so_far = sym (last_there-before digest_of place results at r lt is gone) ∙ ap (λ (n : ℕ). last_there digest_of place (take n results)) up ∙ inv.so_far;
      seen = subst (λ (tree : Tree). AreTrue digest_of (place_with c.args.dir.now tree c.args.day) c.are_there.new.self) inv.tree c.are_there.ensures.seen;
      tree = c.are_there.ensures.tree ∙ inv.tree;
      steady = c.in_ok-are_there.ensures.steady ∙ inv.steady;
    }
