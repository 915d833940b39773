use Rattle.std.proofs.Common.{◌≡◌, Result, Ok, Err, IfOk, sym, subst, List}
use Rattle.base_files.specs.Bytes.{Bytes}
use Rattle.cmdlines.specs.Commands.{preprocess_words}
use Rattle.cmdlines.specs.ReadBack.{ReadsAsPreprocess}
use Rattle.cmdlines.proofs.CommandLemmas.{preprocess_again}
use Rattle.cmdlines.proofs.command.preprocess_words_again.Goals as goal

-- what holds of the words holds of those that were made
again_in : {E : Type 0} (r : Result (List Bytes) E) (P : List Bytes → Type 0) (expected : List Bytes) → IfOk r (λ words. words ≡ expected) → P expected → IfOk r P
again_in (Ok words) P expected h p = subst P (sym h) p
again_in (Err error) P expected h p = tt

pub returns-clause-again : goal.returns-clause-again
returns-clause-again c =
    let p = c.args.parsed.now in
    again_in c.preprocess_words.result (ReadsAsPreprocess c.args.kind p) (preprocess_words c.args.kind p) c.preprocess_words.ensures
    (λ words asks_this full safe. preprocess_again c.words_have_one_reading.ensures.is c.words_have_one_reading.ensures.only c.items_read_again.ensures c.items_read_together.ensures c.args.kind (c.own_words_are_read.ensures c.args.kind) p words asks_this full safe)
