use Rattle.std.proofs.Common.{rules, arith, length, ◌≡◌, ◌∷◌, true, false, refl, ap, sym, ◌∙◌}
use Rattle.cmdlines_base.specs.Table.{entry_at, all_entries}
use Rattle.cmdlines_base.specs.Cutting.{Place, place_of, past_dashes, is_seen}
use Rattle.cmdlines_base.specs.Values.{values_by}
use Rattle.cmdlines_base.proofs.StepLemmas.{cut-raw, cut-taken, cut-fails}
use Rattle.cmdlines_base.proofs.cutting.ArgsIterIterator.next.Goals as goal

pub returns-in-Ok-clause-steps : goal.returns-in-Ok-clause-steps
returns-in-Ok-clause-steps g c =
    let values = values_by g.T.ArgumentValue.flag_value g.T.ArgumentValue.word_value g.T.ArgumentValue.refusal in
    let table = all_entries (g.S.SearchableArgInfo.tables c.args.self.now.table.now) in
    let old = place_of c.args.self.now in
    let word = c.in_ok-word.word.now in
    let left : c.pass_double_dashes.new.self.words.now ≡ word ∷ c.in_ok-word.rest.now = search rules in
    let stand : (past_dashes old).words ≡ word ∷ c.in_ok-word.rest.now = ap (λ (p : Place). p.words) (sym c.pass_double_dashes.ensures.place) ∙ left in
    let dashes : c.pass_double_dashes.new.self.double_dashes ≡ (past_dashes old).dashes = ap (λ (p : Place). p.dashes) c.pass_double_dashes.ensures.place in
    let seen : is_seen (past_dashes old).dashes ≡ true = ap is_seen (sym dashes) ∙ sym c.if-seen_double_dashes.ensures in
    (cut-raw values table old word c.in_ok-word.rest.now stand seen c.in-Ok.copy c.in-Ok.ensures.cases (record { words = c.in_ok-word.rest.now; dashes = c.pass_double_dashes.new.self.double_dashes }) refl dashes, c.pass_double_dashes.ensures.table)

pub returns-in-Ok-first_argument-clause-steps : goal.returns-in-Ok-first_argument-clause-steps
returns-in-Ok-first_argument-clause-steps g c =
    let values = values_by g.T.ArgumentValue.flag_value g.T.ArgumentValue.word_value g.T.ArgumentValue.refusal in
    let table = all_entries (g.S.SearchableArgInfo.tables c.args.self.now.table.now) in
    let old = place_of c.args.self.now in
    let word = c.as_bytes-bytes.result.now in
    let left : c.pass_double_dashes.new.self.words.now ≡ word ∷ c.in_ok-word.rest.now = search rules in
    let stand : (past_dashes old).words ≡ word ∷ c.in_ok-word.rest.now = ap (λ (p : Place). p.words) (sym c.pass_double_dashes.ensures.place) ∙ left in
    let dashes : c.pass_double_dashes.new.self.double_dashes ≡ (past_dashes old).dashes = ap (λ (p : Place). p.dashes) c.pass_double_dashes.ensures.place in
    let unseen : is_seen (past_dashes old).dashes ≡ false = ap is_seen (sym dashes) ∙ search rules in
    let found = rw c.pass_double_dashes.ensures.table at c.search.ensures in
    (cut-taken values table old word c.in_ok-word.rest.now stand unseen (entry_at c.search.result) found c.in-Ok-first_argument.argument c.in-Ok-first_argument.left.now c.in-Ok-first_argument.ensures.takes (record { words = c.in-Ok-first_argument.left.now; dashes = c.pass_double_dashes.new.self.double_dashes }) refl dashes, c.pass_double_dashes.ensures.table)

pub returns-in-Err-first_argument-clause-steps : goal.returns-in-Err-first_argument-clause-steps
returns-in-Err-first_argument-clause-steps g c =
    let values = values_by g.T.ArgumentValue.flag_value g.T.ArgumentValue.word_value g.T.ArgumentValue.refusal in
    let table = all_entries (g.S.SearchableArgInfo.tables c.args.self.now.table.now) in
    let old = place_of c.args.self.now in
    let word = c.as_bytes-bytes.result.now in
    let left : c.pass_double_dashes.new.self.words.now ≡ word ∷ c.in_ok-word.rest.now = search rules in
    let stand : (past_dashes old).words ≡ word ∷ c.in_ok-word.rest.now = ap (λ (p : Place). p.words) (sym c.pass_double_dashes.ensures.place) ∙ left in
    let dashes : c.pass_double_dashes.new.self.double_dashes ≡ (past_dashes old).dashes = ap (λ (p : Place). p.dashes) c.pass_double_dashes.ensures.place in
    let unseen : is_seen (past_dashes old).dashes ≡ false = ap is_seen (sym dashes) ∙ search rules in
    let found = rw c.pass_double_dashes.ensures.table at c.search.ensures in
    ((cut-fails values table old word c.in_ok-word.rest.now stand unseen (entry_at c.search.result) found c.in-Err-first_argument.error c.in-Err-first_argument.ensures.fails, (refl, dashes)), c.pass_double_dashes.ensures.table)

pub returns-in-Ok-first_argument-clause-goes : goal.returns-in-Ok-first_argument-clause-goes
returns-in-Ok-first_argument-clause-goes g c =
    let left : c.pass_double_dashes.new.self.words.now ≡ c.as_bytes-bytes.result.now ∷ c.in_ok-word.rest.now = search rules in
    record {
      on = λ bounded. (tt, tt, omega (arith, c.in-Ok-first_argument.ensures.fewer, ap length left, c.pass_double_dashes.ensures.fewer));
      keeps = tt;
      rests = λ bounded. tt;
    }
