use Rattle.std.proofs.Common.{◌∙◌}
use Rattle.ckeys_records.specs.Meaning.{text_in}
use Rattle.rustc_texts.specs.Outputs.{output_names}
use Rattle.rustkeys.specs.Questions.{answers_of, dep_info_of, file_names_of}
use Rattle.rustkeys.proofs.RuleLemmas.{asked_where_emitted, rule_fine, told_where_asked}
use Rattle.rustkeys.proofs.laws.dep_info_is_told_where_emitted.Goals as goal

pub returns : goal.returns
returns c meaning call comes fine =
    let q = call.question in
    told_where_asked q.asks call.known.archive (text_in (dep_info_of meaning q).contents) (output_names q.asks.emit (text_in (file_names_of meaning q).contents)) (rule_fine q (answers_of meaning q) fine)
    ∙ asked_where_emitted c.words_in_order_are_a_set.ensures.same q.asks comes
