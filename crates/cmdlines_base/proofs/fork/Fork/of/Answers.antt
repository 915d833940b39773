use Rattle.std.proofs.Common.{◌≡◌, ◌+◌, ◌==◌, ◌&&◌, ◌<◌, if◌then◌else◌, length, get_or, refl, sym, ap, ◌∙◌, subst, arith}
use Rattle.std.proofs.lemmas.List.{get_or_default}
use Rattle.cmdlines_base.proofs.ForkLemmas.{Noted, none_noted, one_noted, noted_stand, second}
use Rattle.cmdlines_base.proofs.fork.Fork.of.Goals as goal

pub loop-entry-init : goal.loop-entry-init
loop-entry-init g c = (refl, none_noted second c.args.entries.now (λ b. get_or c.none-fork.result.begins b 0) (λ b. get_or c.none-fork.result.ends b 0) c.none-fork.ensures.begins c.none-fork.ensures.ends)

pub loop-entry-preserved : goal.loop-entry-preserved
loop-entry-preserved g c =
    let i = c.loop-entry.entry-index in
    let xs = c.args.entries.now in
    let old = c.loop-entry.fork in
    let new = c.note.new.self in
    let inv = c.loop-entry.invariant in
    let lt : i < length xs = c.loop-entry-test.true in (
      omega (arith, c.in_ok-next.ensures.1, inv.0),
      one_noted second xs i c.byte_at.result (λ b. get_or old.begins b 0) (λ b. get_or old.ends b 0) (λ b. get_or new.begins b 0) (λ b. get_or new.ends b 0) lt c.requires.rising
          (λ x. ap second (get_or_default xs i x c.entry-item.result lt ∙ sym c.entry-item.is) ∙ sym c.byte_at.ensures)
          (λ b. c.note.ensures.begins b ∙ ap (λ n. if b == c.byte_at.result && get_or old.ends b 0 == 0 then n else get_or old.begins b 0) inv.0)
          (λ b. c.note.ensures.ends b ∙ ap (λ n. if b == c.byte_at.result then n + 1 else get_or old.ends b 0) inv.0)
          inv.1,
    )

pub returns : goal.returns
returns g c =
    let xs = c.args.entries.now in
    let fork = c.loop-entry.fork in
    let all : c.loop-entry.entry-index ≡ length xs = omega (arith, c.loop-entry-test.false, c.loop-entry.auto.entry-index-end) in
    λ byte h. noted_stand xs (λ b. get_or fork.begins b 0) (λ b. get_or fork.ends b 0) (subst (λ n. Noted second xs n (λ b. get_or fork.begins b 0) (λ b. get_or fork.ends b 0)) all c.loop-entry.invariant.1) byte
