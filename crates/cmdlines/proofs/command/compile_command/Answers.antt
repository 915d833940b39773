use Rattle.std.proofs.Common.{◌∙◌, ap, sym, subst, []}
use Rattle.std.specs.Prelude.{unwrap_or}
use Rattle.cmdlines.specs.Commands.{ReadsAs, compile_words, compile_items, output_path}
use Rattle.cmdlines_tables.specs.Tables.{reading_of}
use Rattle.cmdlines_base.specs.declared.command.SingleCompileCommand.{SingleCompileCommand}
use Rattle.cmdlines.proofs.CommandLemmas.{compile_again}
use Rattle.cmdlines.proofs.command.compile_command.Goals as goal

pub returns-clause-again : goal.returns-clause-again
returns-clause-again c = λ words asks_this full safe.
    let p = c.args.parsed.now in
    let path_is = c.as_bytes.ensures ∙ ap (λ o. unwrap_or o []) c.in-Some.ensures in
    let words_are = ap (λ (made : SingleCompileCommand). made.arguments) c.in_ok-command.ensures ∙ c.in_ok-words.ensures ∙ ap (compile_words c.args.kind p) path_is in
    subst (λ ws. ReadsAs c.args.kind ws (compile_items c.args.kind p (output_path p) (reading_of c.args.kind words).items)) (sym words_are)
    (compile_again c.words_have_one_reading.ensures.is c.words_have_one_reading.ensures.only c.items_read_again.ensures c.items_read_together.ensures c.args.kind (c.own_words_are_read.ensures c.args.kind) p words asks_this full safe (output_path p))
