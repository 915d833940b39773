use Rattle.std.proofs.Common.{◌≡◌, ◌∙◌, None, ap, is_some, pos, string_bytes, subst}
use Rattle.std.specs.List.{AllByRecursion}
use Rattle.base_formats.specs.Spelling.{FitsFrame}
use Rattle.rustc_parts.specs.Formed.{IsDigest, digest_digits}
use Rattle.rustc_parts.specs.Material.{material_of}
use Rattle.rustc_parts.specs.Shapes.{shape_of}
use Rattle.rustc_parts.specs.declared.parts.Parts.{Parts}
use Rattle.rustc_texts.specs.Outputs.{output_names}
use Rattle.rustc_options.specs.Asks.{asks_in}
use Rattle.rustkeys.specs.Calls.{record_of, rule_fault_of}
use Rattle.rustkeys.specs.Fresh.{dep_info_by, dep_info_text_of}
use Rattle.rustkeys.specs.Hashers.{known_in}
use Rattle.rustkeys.specs.Questions.{answers_of, question_of}
use Rattle.rustkeys.specs.Records.{digest_text, parts_of}
use Rattle.rustkeys.proofs.RunLemmas.{asked_at, called_at, early_of}
use Rattle.rustkeys.proofs.RuleLemmas.{asked_where_emitted, rule_fine, told_where_asked}
use Rattle.rustkeys.proofs.hasher.RustHasher.generate_hash_key.Goals as goal

-- the pieces are those of the record of this call
made_parts : goal.returns-clause-parts
made_parts g c = λ moment.
    let tree = g.F.Files.tree c.args.files.now in
    let meaning = g.A.Preprocessor.meaning c.args.answers.now in
    let place = c.place-place.ensures in
    let called = called_at c.known-known.result c.place-place.result c.args.self.now c.args.dir.now c.args.env.now tree moment c.known-known.ensures.known place.executable place.parsed place.dir place.env in
    c.in_ok-keyed_compilation.ensures.parts tree moment (answers_of meaning (question_of c.place-place.result tree moment)) (c.in_ok-found.ensures.found moment)
    ∙ (λ i. parts_of g.H.HashState.digest_of (record_of meaning (called i)))

pub returns-clause-parts : goal.returns-clause-parts
returns-clause-parts g c = made_parts g c

pub returns-clause-key : goal.returns-clause-key
returns-clause-key g c = λ moment.
    c.in_ok-keyed_compilation.ensures.key ∙ ap (λ (p : Parts). digest_text g.H.HashState.digest_of (material_of p)) (made_parts g c moment)

pub returns-clause-shape : goal.returns-clause-shape
returns-clause-shape g c = λ moment. c.in_ok-keyed_compilation.ensures.shape ∙ ap shape_of (made_parts g c moment)

pub returns-clause-told : goal.returns-clause-told
returns-clause-told g c = λ moment.
    let parts = made_parts g c moment in
    let meaning = g.A.Preprocessor.meaning c.args.answers.now in
    let place = c.place-place.ensures in
    let called = called_at c.known-known.result c.place-place.result c.args.self.now c.args.dir.now c.args.env.now (g.F.Files.tree c.args.files.now) moment c.known-known.ensures.known place.executable place.parsed place.dir place.env in
    record {
      toolchain = c.known-known.ensures.formed;
      archives = subst (AllByRecursion (IsDigest digest_digits)) ((c.in_ok-found.ensures.found moment).files.archives ∙ (λ i. (record_of meaning (called i)).archives)) c.in_ok-found.ensures.formed;
      fits = subst (λ (p : Parts). FitsFrame (material_of p)) parts c.in_ok-keyed_compilation.ensures.fits;
    }

pub returns-clause-dep_info : goal.returns-clause-dep_info
returns-clause-dep_info g c = λ moment.
    let tree = g.F.Files.tree c.args.files.now in
    let meaning = g.A.Preprocessor.meaning c.args.answers.now in
    let asks = asks_in c.place-place.result.parsed.now in
    let archive = (known_in c.known-known.result).archive in
    let place = c.place-place.ensures in
    let asked = asked_at c.place-place.result c.args.self.now c.args.dir.now c.args.env.now tree moment place.executable place.parsed place.dir place.env in
    c.in_ok-keyed_compilation.ensures.dep_info
    ∙ (λ i. dep_info_by asks archive ((c.in_ok-found.ensures.found moment).text i) (output_names asks.emit ((c.in_ok-found.ensures.found moment).names i)))
    ∙ (λ i. dep_info_text_of meaning (record { known = c.known-known.ensures.known i; question = asked i }))

told_as_asked : goal.returns-clause-asked
told_as_asked g c =
    let q = question_of c.place-place.result (g.F.Files.tree c.args.files.now) (pos 0) in
    let asks = asks_in c.place-place.result.parsed.now in
    let told = (c.in_ok-found.ensures.found (pos 0)).text in
    let fine : rule_fault_of (string_bytes c.in_ok-found.found.sources.text) ≡ None =
    ap rule_fault_of told ∙ rule_fine q (answers_of (g.A.Preprocessor.meaning c.args.answers.now) q) (c.in_ok-found.ensures.fine (pos 0)) in
    ap is_some c.in_ok-keyed_compilation.ensures.dep_info
    ∙ told_where_asked asks (known_in c.known-known.result).archive (string_bytes c.in_ok-found.found.sources.text) (output_names asks.emit (string_bytes c.in_ok-found.found.names)) fine
    ∙ (λ i. is_some (c.place-place.ensures.parsed i).dep_info)

pub returns-clause-asked : goal.returns-clause-asked
returns-clause-asked g c = told_as_asked g c

pub returns-clause-emitted : goal.returns-clause-emitted
returns-clause-emitted g c = λ comes. told_as_asked g c ∙ asked_where_emitted c.words_in_order_are_a_set.ensures.same _ comes

pub returns-in_err-keyed_compilation-clause-early : goal.returns-in_err-keyed_compilation-clause-early
returns-in_err-keyed_compilation-clause-early g c = λ moment.
    let place = c.place-place.ensures in
    let asked = asked_at c.place-place.result c.args.self.now c.args.dir.now c.args.env.now (g.F.Files.tree c.args.files.now) moment place.executable place.parsed place.dir place.env in
    early_of (g.A.Preprocessor.meaning c.args.answers.now) _ _ asked _ _ (c.collect.ensures.early moment)

pub returns-clause-early : goal.returns-clause-early
returns-clause-early g c = λ moment.
    let place = c.place-place.ensures in
    let asked = asked_at c.place-place.result c.args.self.now c.args.dir.now c.args.env.now (g.F.Files.tree c.args.files.now) moment place.executable place.parsed place.dir place.env in
    early_of (g.A.Preprocessor.meaning c.args.answers.now) _ _ asked _ _ (c.collect.ensures.early moment)
