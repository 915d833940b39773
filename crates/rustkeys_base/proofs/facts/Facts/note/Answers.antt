use Rattle.std.proofs.Common.{◌≡◌, ◌∷◌, [], inl, inr, ap, sym, ◌∙◌}
use Rattle.std.proofs.lemmas.Result.{on_ok_weaker}
use Rattle.base_files.specs.Bytes.{Bytes}
use Rattle.rustkeys_base.specs.Facts.{facts_with}
use Rattle.rustkeys_base.specs.Saying.{says, token_in}
use Rattle.rustkeys_base.proofs.facts.Facts.note.Goals as goal

pub returns-in-Flag : goal.returns-in-Flag
returns-in-Flag c =
    let told : (flag : Bytes) → says flag c.in-Flag.data ≡ token_in c.args.argument.now → _ = λ flag same. on_ok_weaker c.note_data.result (λ h. h flag ∙ ap (λ t. facts_with c.args.self.now (t ∷ [])) same) c.note_data.ensures in
    elim c.in-Flag.is [
      | inl w ↦ told w.0.now (sym (ap token_in w.1))
      | inr w ↦ told w.0.now (sym (ap token_in w.2))
    ]
