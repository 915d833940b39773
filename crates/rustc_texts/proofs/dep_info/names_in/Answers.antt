use Rattle.std.proofs.Common.{◌≡◌, ℕ, ◌==◌, false, List, [], ◌∷◌, ◌++◌, ap, sym, ◌∙◌, arith, length, Vec, Global}
use Rattle.base_files.specs.Bytes.{Bytes}
use Rattle.rustc_texts.specs.DepInfo.{without_empty_last}
use Rattle.rustc_texts.proofs.NameLaws.{all_names, going_on, going_on-start, more-escaped, more-ended, more-letters, no-more, none, last-empty, last-kept}
use Rattle.rustc_texts.proofs.dep_info.names_in.Goals as goal
use Rattle.rustc_texts.proofs.dep_info.names_in.Goals.{then-not-is_empty+in_ok-push-4, else-not-is_empty}

pub loop-byte-init : goal.loop-byte-init
loop-byte-init c = rw (c.new-names.ensures.items, c.new-name.ensures.items) (sym (going_on-start c.args.rule.now))

pub loop-byte-preserved-in-Some-strip_prefix : goal.loop-byte-preserved-in-Some-strip_prefix
loop-byte-preserved-in-Some-strip_prefix c =
    let found = c.in-Some-strip_prefix.ensures.cases in
    more-escaped _ c.loop-byte.names.items c.loop-byte.name.items c.loop-byte.rest.now c.loop-byte.invariant c.in-Some-strip_prefix.later.now found.0 found.1
    ∙ ap (λ (name : Bytes). c.loop-byte.names.items ++ going_on name (all_names 0 c.in-Some-strip_prefix.later.now)) (sym c.in_ok-push.ensures.items)

pub loop-byte-preserved-then-byte-eq32 : goal.loop-byte-preserved-then-byte-eq32
loop-byte-preserved-then-byte-eq32 c =
    let rest = c.in-Some.ensures.cases.0 ∙ ap (λ b. b ∷ c.in-Some.after.now) c.if-byte-eq32.true in
    let ended : c.from_vec.result ≡ c.loop-byte.name.items = c.from_vec.ensures ∙ ap (λ (v : Vec ℕ Global). v.items) c.replace.ensures.value in
    let begun : c.replace.new.dest.items ≡ [] = ap (λ (v : Vec ℕ Global). v.items) c.replace.ensures.after ∙ c.new.ensures.items in
    more-ended _ c.loop-byte.names.items c.loop-byte.name.items c.loop-byte.rest.now c.loop-byte.invariant c.in-Some.after.now rest
    ∙ ap (λ (name : Bytes). (c.loop-byte.names.items ++ name ∷ []) ++ going_on [] (all_names 0 c.in-Some.after.now)) (sym ended)
    ∙ ap (λ (names : List Bytes). names ++ going_on [] (all_names 0 c.in-Some.after.now)) (sym c.in_ok-push-2.ensures.items)
    ∙ ap (λ (name : Bytes). c.push-then-byte-eq32.new.self.items ++ going_on name (all_names 0 c.in-Some.after.now)) (sym begun)

pub loop-byte-preserved : goal.loop-byte-preserved
loop-byte-preserved c =
    let other : (c.in-Some.byte.now == 32) ≡ false = grind (arith, c.if-byte-eq32.false) in
    more-letters _ c.loop-byte.names.items c.loop-byte.name.items c.loop-byte.rest.now c.loop-byte.invariant c.in-Some.byte.now c.in-Some.after.now c.in-Some.ensures.cases.0 other c.in_default-strip_prefix.ensures.cases
    ∙ ap (λ (name : Bytes). c.loop-byte.names.items ++ going_on name (all_names 0 c.in-Some.after.now)) (sym c.in_ok-push-3.ensures.items)

pub returns : goal.returns
returns c =
    let all : all_names 0 c.args.rule.now ≡ c.loop-byte.names.items ++ c.loop-byte.name.items ∷ [] = no-more _ c.loop-byte.names.items c.loop-byte.name.items c.loop-byte.rest.now c.loop-byte.invariant c.in_default.ensures.cases in
    elim c.if-not-is_empty.branch [
      | then-not-is_empty+in_ok-push-4 w ↦
          let kept : (length c.loop-byte.name.items == 0) ≡ false = grind (arith, w.if-not-is_empty.true, c.is_empty.ensures, c.loop-byte.name.ok) in
          ap (λ (v : Vec Bytes Global). v.items) w.names-is ∙ w.in_ok-push-4.ensures.items
          ∙ ap (λ (name : Bytes). c.loop-byte.names.items ++ name ∷ []) w.from_vec-then-not-is_empty.ensures
          ∙ sym (last-kept c.loop-byte.names.items c.loop-byte.name.items kept) ∙ ap without_empty_last (sym all)
      | else-not-is_empty w ↦
          let long : length c.loop-byte.name.items ≡ 0 = grind (arith, w.if-not-is_empty.false, c.is_empty.ensures, c.loop-byte.name.ok) in
          let empty : c.loop-byte.name.items ≡ [] = none c.loop-byte.name.items long in
          ap (λ (v : Vec Bytes Global). v.items) w.names-is ∙ sym (last-empty c.loop-byte.names.items)
          ∙ ap (λ (name : Bytes). without_empty_last (c.loop-byte.names.items ++ name ∷ [])) (sym empty) ∙ ap without_empty_last (sym all)
    ]
