use Rattle.std.proofs.Common.{◌∷◌, [], sym, ap, ◌∙◌}
use Rattle.rustkeys_base.specs.Facts.{facts_with}
use Rattle.rustkeys_base.specs.Saying.{says}
use Rattle.rustkeys_base.proofs.facts.Facts.note_data.Goals as goal

pub returns-in_ok-note_library-in-LinkLibrary : goal.returns-in_ok-note_library-in-LinkLibrary
returns-in_ok-note_library-in-LinkLibrary c = λ flag. c.in_ok-note_library-in-LinkLibrary.ensures flag ∙ ap (λ v. facts_with c.args.self.now (says flag v ∷ [])) (sym c.in-LinkLibrary.is)

pub returns-in_ok-note_folder-in-LinkPath : goal.returns-in_ok-note_folder-in-LinkPath
returns-in_ok-note_folder-in-LinkPath c = λ flag. c.in_ok-note_folder-in-LinkPath.ensures flag ∙ ap (λ v. facts_with c.args.self.now (says flag v ∷ [])) (sym c.in-LinkPath.is)

pub returns-in_ok-note_codegen-in-CodeGen : goal.returns-in_ok-note_codegen-in-CodeGen
returns-in_ok-note_codegen-in-CodeGen c = λ flag. c.in_ok-note_codegen-in-CodeGen.ensures flag ∙ ap (λ v. facts_with c.args.self.now (says flag v ∷ [])) (sym c.in-CodeGen.is)

pub returns-in-Unstable : goal.returns-in-Unstable
returns-in-Unstable c = λ flag. c.note_unstable.ensures flag ∙ ap (λ v. facts_with c.args.self.now (says flag v ∷ [])) (sym c.in-Unstable.is)
