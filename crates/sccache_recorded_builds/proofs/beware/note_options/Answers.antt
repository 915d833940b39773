use Rattle.std.proofs.Common.{rules, ◌≡◌, ◌∷◌, ◌∙◌, ◌||◌, ap, Bool, subst}
use Rattle.std.specs.List.{list_any}
use Rattle.std.proofs.Math.Bool.{or_assoc}
use Rattle.sccache_recorded_builds.specs.Beware.{is_among, is_option}
use Rattle.sccache_recorded_builds.proofs.beware.note_options.Goals as goal

pub loop-word-preserved : goal.loop-word-preserved
loop-word-preserved c = record {
  once = c.in_ok-note_option.ensures.once;
  held = λ option.
      let split : c.loop-word.rest.now ≡ c.in-Some.word.now ∷ c.in-Some.more.now = search rules in
      let any = list_any (is_option option) in
      let before = is_among option c.loop-word.found.items in
      ap (λ (b : Bool). b || any c.in-Some.more.now) (c.in_ok-note_option.ensures.held option)
      ∙ ap (λ word. before || is_option option word || any c.in-Some.more.now) c.as_bytes.ensures
      ∙ or_assoc before (is_option option c.in-Some.word.now) (any c.in-Some.more.now)
      ∙ subst
      (λ rest.
      (before || any rest) ≡ (is_among option c.args.found.now.items || any c.args.words.now))
      split (c.loop-word.invariant.held option);
}
