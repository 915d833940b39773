use Rattle.std.proofs.Common.{◌≡◌, ◌∷◌, [], ◌++◌, ◌||◌, nat_lt, List, length, sym, ap, ◌∙◌, arith, option_to_list}
use mir.Val.{bool_byte}
use Rattle.cmdlines_base.specs.Reach.{node_steps, reach}
use Rattle.cmdlines_base.specs.Table.{Entry, all_entries, entries_of, entry_at, longer, longest_fit}
use Rattle.cmdlines_base.proofs.NodeLemmas.{none_fits}
use Rattle.cmdlines_base.proofs.ReachLemmas.{reach-none, reach-within, steps-on, steps-short}
use Rattle.cmdlines_base.proofs.TableLemmas.{all_entries-append, longest_fit-append}
use Rattle.cmdlines_base.proofs.byte_tree.ByteTree.search_counted.Goals as goal

-- the entries of all tables are those of the first one, and then those of the second
both_of : {K : Type 0} (one : List (Entry K)) (others tables : List (List (Entry K))) → one ∷ others ≡ tables → all_entries tables ≡ one ++ all_entries others
both_of one others tables is = ap all_entries (sym is) ∙ all_entries-append (one ∷ []) others

pub returns-then-is_empty-2-clause-entry : goal.returns-then-is_empty-2-clause-entry
returns-then-is_empty-2-clause-entry g c =
    let word = c.args.word.now in
    let one = c.self.inside.first in
    let two = all_entries (option_to_list c.self.inside.second) in
    let best = entry_at c.begun-begins.result.0 in
    let best_second = entry_at c.begun_in-begins_second.result.0 in
    let none : length c.begun-begins.result.1.now ≡ 0 = grind (arith, c.is_empty.ensures, c.if-is_empty.true) in
    let nothing : length c.begun_in-begins_second.result.1.now ≡ 0 = grind (arith, c.is_empty-then-is_empty.ensures, c.if-is_empty-2.true) in
    let first : best ≡ longest_fit one word = sym (ap (longer best) (none_fits word c.begun-begins.result.1.now none)) ∙ c.begun-begins.ensures.fit in
    let second : best_second ≡ longest_fit two word = sym (ap (longer best_second) (none_fits word c.begun_in-begins_second.result.1.now nothing)) ∙ c.begun_in-begins_second.ensures.fit in
    c.longer.ensures ∙ ap (λ e. longer e best_second) first ∙ ap (longer (longest_fit one word)) second
    ∙ sym (longest_fit-append one two word) ∙ ap (λ es. longest_fit es word) (sym (both_of one (option_to_list c.self.inside.second) c.args.self.now c.self.view_is))

pub returns-then-is_empty-2-clause-steps : goal.returns-then-is_empty-2-clause-steps
returns-then-is_empty-2-clause-steps g c =
    let word = c.args.word.now in
    let one = c.self.inside.first in
    let two = all_entries (option_to_list c.self.inside.second) in
    let none : length c.begun-begins.result.1.now ≡ 0 = grind (arith, c.is_empty.ensures, c.if-is_empty.true) in
    let nothing : length c.begun_in-begins_second.result.1.now ≡ 0 = grind (arith, c.is_empty-then-is_empty.ensures, c.if-is_empty-2.true) in
    let bytes = c.from-bytes.ensures ∙ ap (λ b. bool_byte (b || c.begun_in-begins_second.result.2)) c.begun-begins.ensures.first ∙ ap (λ b. bool_byte (nat_lt 0 (reach one word) || b)) c.begun_in-begins_second.ensures.first in
    steps-short word one two (entries_of c.begun-begins.result.1.now) (entries_of c.begun_in-begins_second.result.1.now) c.begun-begins.ensures.reach c.begun_in-begins_second.ensures.reach
    (reach-none word c.begun-begins.result.1.now none) (reach-none word c.begun_in-begins_second.result.1.now nothing) c.from-bytes.result bytes
    ∙ ap (λ es. node_steps es word) (sym (both_of one (option_to_list c.self.inside.second) c.args.self.now c.self.view_is))

pub returns-then-is_empty-2-clause-bound : goal.returns-then-is_empty-2-clause-bound
returns-then-is_empty-2-clause-bound g c = omega (arith, returns-then-is_empty-2-clause-steps g c, reach-within (all_entries c.args.self.now) c.args.word.now)

pub returns-clause-entry : goal.returns-clause-entry
returns-clause-entry g c =
    let word = c.args.word.now in
    let one = c.self.inside.first in
    let two = all_entries (option_to_list c.self.inside.second) in
    c.walk-further.ensures.fit
    ∙ ap (λ e. longer e (longer (entry_at c.begun_in-begins_second.result.0) (longest_fit (entries_of c.begun_in-begins_second.result.1.now) word))) c.begun-begins.ensures.fit
    ∙ ap (longer (longest_fit one word)) c.begun_in-begins_second.ensures.fit
    ∙ sym (longest_fit-append one two word) ∙ ap (λ es. longest_fit es word) (sym (both_of one (option_to_list c.self.inside.second) c.args.self.now c.self.view_is))

pub returns-clause-steps : goal.returns-clause-steps
returns-clause-steps g c =
    let word = c.args.word.now in
    let one = c.self.inside.first in
    let two = all_entries (option_to_list c.self.inside.second) in
    steps-on word one two (entries_of c.begun-begins.result.1.now) (entries_of c.begun_in-begins_second.result.1.now) c.begun-begins.ensures.reach c.begun_in-begins_second.ensures.reach c.walk-further.result.1 c.walk-further.ensures.steps
    ∙ ap (λ es. node_steps es word) (sym (both_of one (option_to_list c.self.inside.second) c.args.self.now c.self.view_is))

pub returns-clause-bound : goal.returns-clause-bound
returns-clause-bound g c = omega (arith, returns-clause-steps g c, reach-within (all_entries c.args.self.now) c.args.word.now)

pub overflow_add-result-3 : goal.overflow_add-result-3
overflow_add-result-3 g c = omega (arith, c.walk-further.ensures.steps, reach-within (entries_of c.begun-begins.result.1.now) c.args.word.now, reach-within (entries_of c.begun_in-begins_second.result.1.now) c.args.word.now)
