use Rattle.std.proofs.Common.{◌≡◌, ◌∙◌, ap, sym, refl, List, [], ◌∷◌, ◌++◌, ℕ, Bor, map, false}
use Rattle.std.proofs.lemmas.List.{map-append}
use Rattle.std.specs.BTreeSet.{contains}
use Rattle.std.specs.Cmp.Lexicographic.{slice_cmp}
use Rattle.std.specs.Ordering.{nat_cmp}
use Rattle.cmdlines_tables.specs.Small.{archs_of}
use Rattle.cmdlines_tables.proofs.ArchLemmas.{is_among, left_of, among-set, left-start, left-flag, left-seen, left-new, untrue, unfalse}
use Rattle.cmdlines_tables.proofs.parsed.ParsedArguments.archs.Goals as goal
use Rattle.cmdlines_tables.proofs.parsed.ParsedArguments.archs.Goals.{else-names_arch-via-then-names_arch+in_ok-insert+else-branch, else-names_arch-via-else-names_arch}

pub loop-word-init : goal.loop-word-init
loop-word-init c = record {
  seen = λ q. rw (c.new-seen.ensures.empty, c.new-archs.ensures.items) refl;
  left = rw c.new-archs.ensures.items (left-start c.as_slice-rest.result.now ∙ ap archs_of c.as_slice-rest.ensures);
}

pub loop-word-preserved-in_ok-push : goal.loop-word-preserved-in_ok-push
loop-word-preserved-in_ok-push c =
    let i = c.loop-word.invariant in
    let found = map (λ (arch : Bor (List ℕ)). arch.now) c.loop-word.archs.items in
    let w = c.as_bytes-word.result in
    let no_flag = untrue _ (sym c.names_arch.ensures ∙ c.if-names_arch.true) in
    let fresh : is_among found w.now ≡ false = sym (i.seen w) ∙ untrue _ (sym c.in_ok-insert.ensures.added ∙ c.if-branch.true) in
    let pushed = ap (λ (refs : List (Bor (List ℕ))). map (λ (arch : Bor (List ℕ)). arch.now) refs) c.in_ok-push.ensures.items ∙ map-append (λ (arch : Bor (List ℕ)). arch.now) c.loop-word.archs.items (w ∷ []) in
    let words = ap (λ (word : List ℕ). word ∷ c.in-Some.more.now) c.as_bytes-word.ensures ∙ sym c.in-Some.ensures.cases.0 in
    record {
      seen = λ q. among-set found w.now q.now _ _ (c.in_ok-insert.ensures.updates.0 q) (i.seen q) ∙ sym (ap (λ names. is_among names q.now) pushed);
      left = ap (λ names. names ++ left_of names c.in-Some.more.now) pushed ∙ left-new found w.now c.in-Some.more.now no_flag fresh ∙ ap (λ ws. found ++ left_of found ws) words ∙ i.left;
    }

pub loop-word-preserved : goal.loop-word-preserved
loop-word-preserved c =
    let i = c.loop-word.invariant in
    let found = map (λ (arch : Bor (List ℕ)). arch.now) c.loop-word.archs.items in
    let w = c.as_bytes-word.result in
    let words = ap (λ (word : List ℕ). word ∷ c.in-Some.more.now) c.as_bytes-word.ensures ∙ sym c.in-Some.ensures.cases.0 in
    elim c.else-names_arch.branch [
      | else-names_arch-via-then-names_arch+in_ok-insert+else-branch b ↦
          let seen = sym (i.seen w) ∙ unfalse _ (sym b.in_ok-insert.ensures.added ∙ b.if-branch.false) in
          let unchanged = rw b.if-branch.false at b.in_ok-insert.ensures.unchanged in
          let no_flag = untrue _ (sym c.names_arch.ensures ∙ b.if-names_arch.true) in
          record {
            seen = λ q. rw (b.seen-is, unchanged) (i.seen q);
            left = ap (λ ws. found ++ ws) (sym (left-seen found w.now c.in-Some.more.now no_flag seen)) ∙ ap (λ ws. found ++ left_of found ws) words ∙ i.left;
          }
      | else-names_arch-via-else-names_arch b ↦
          record {
            seen = λ q. ap (λ s. contains (λ x y. slice_cmp nat_cmp x.now y.now) s q) b.seen-is ∙ i.seen q;
            left = ap (λ ws. found ++ ws) (sym (left-flag found w.now c.in-Some.more.now (unfalse _ (sym c.names_arch.ensures ∙ b.if-names_arch.false)))) ∙ ap (λ ws. found ++ left_of found ws) words ∙ i.left;
          }
    ]
