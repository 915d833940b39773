use Rattle.std.proofs.Common.{◌≡◌, Option, Some, List, ◌++◌, ap, sym, ◌∙◌}
use Rattle.std.specs.List.{after_first, before_first, flat_map, join_with_byte}
use Rattle.std.specs.Option.{option_copied, option_map}
use Rattle.base_files.specs.Bytes.{Bytes}
use Rattle.rustc_texts.specs.DepInfo.{after_colon}
use Rattle.rustc_texts.specs.Rewriting.{is_line_end, phony_rule, prerequisites, rule_for, rules_of, where_any, without_line_end}
use Rattle.rustc_texts.proofs.rewriting.dep_info_with_targets.Goals as goal

pub returns-clause-written : goal.returns-clause-written
returns-clause-written c =
    let text = c.args.text.now in
    let targets = c.args.targets.now in
    let extras = c.args.extras.now in
    let old = c.in_ok-old.old.now in
    let found : after_colon (before_first is_line_end text) ≡ Some old =
    ap after_colon (sym c.first_line.ensures.line) ∙ sym c.after_colon.ensures ∙ ap option_copied c.in_ok-old.ensures.ok_part in
    let wanted : c.as_bytes.result.now ≡ prerequisites old extras =
    c.as_bytes.ensures ∙ c.in_ok-wanted.ensures
    ∙ ap (λ (paths : List Bytes). join_with_byte 32 (paths ++ where_any old)) (c.as_slice.ensures.value ∙ c.in_ok-extras.ensures) in
    let rules : c.write_rules.new.written.items ≡ flat_map (rule_for (prerequisites old extras)) targets =
    c.in_ok-write_rules.ensures
    ∙ ap (λ (x : Bytes). x ++ flat_map (rule_for c.as_bytes.result.now) targets) c.new-written.ensures.items
    ∙ ap (λ (x : Bytes). flat_map (rule_for x) targets) wanted in
    let all : c.write_phony_rules.new.written.items ≡ rules_of old targets extras =
    c.in_ok-write_phony_rules.ensures
    ∙ ap (λ (x : Bytes). x ++ flat_map phony_rule c.as_slice-2.result.now) rules
    ∙ ap (λ (paths : List Bytes). flat_map (rule_for (prerequisites old extras)) targets ++ flat_map phony_rule paths) (c.as_slice-2.ensures.value ∙ c.in_ok-extras.ensures) in
    let rest : c.without_line_end.result.now ≡ without_line_end (after_first is_line_end text) =
    c.without_line_end.ensures ∙ ap without_line_end c.first_line.ensures.rest in
    let result : c.from_vec.result ≡ rules_of old targets extras ++ without_line_end (after_first is_line_end text) =
    c.from_vec.ensures ∙ c.in_ok-extend_from_slice.ensures.items
    ∙ ap (λ (x : Bytes). x ++ c.without_line_end.result.now) all
    ∙ ap (λ (x : Bytes). rules_of old targets extras ++ x) rest in
    ap (λ (o : Option Bytes). option_map (λ (l : Bytes). rules_of l targets extras ++ without_line_end (after_first is_line_end text)) o) found
    ∙ ap (λ (x : Bytes). Some x) (sym result)
