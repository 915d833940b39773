-- The verdict on a request to rustc.
use Rattle.std.proofs.Common.{◌≡◌, Bool, true, false, ◌||◌, List, [], ◌∷◌, ◌++◌, if◌then◌else◌, refl, sym, ap, ◌∙◌}
use Rattle.std.specs.List.{list_any}
use Rattle.base_files.specs.Bytes.{Bytes}
use Rattle.base_files.specs.Tree.{Tree}
use Rattle.cmdlines_base.specs.Reading.{begins_with_at}
use Rattle.cmdlines_base.specs.declared.compiler_arguments.CompilerArguments.{CompilerArguments}
use Rattle.cmdlines_base.specs.declared.compiler_arguments.CompilerArguments.TheVariants as answers
use Rattle.rustkeys_base.specs.Asks.{AsksFor, asks_of}
use Rattle.rustc_options.specs.Asks.{RustAsks, asks_in}
use Rattle.rustkeys_base.specs.Expansion.{expanded_by_rustc}
use Rattle.rustkeys_base.specs.Parsing as parsing
use Rattle.rustkeys_base.specs.Parsing.{request_reading, decision_of, decision_on}
use Rattle.rustc_options.specs.declared.parsed.ParsedArguments.{ParsedArguments}
use Rattle.rustc_texts.specs.Words.{all_words, color_words, compile_words, dep_info_words, file_names_words}
use Rattle.wrap_keys.specs.RustPlans.{OpensNothing}
use Rattle.wrap_keys.specs.RustVerdicts.{RustJudgement, decided, decided_on, is_text, not_text, rust_verdict_of, with_hazards}
use Rattle.wrap_base.specs.declared.request.Request.{Request}

-- where none of all words has it, none of the first ones has
any_front : (p : Bytes → Bool) (one other : List Bytes) → list_any p (one ++ other) ≡ false → list_any p one ≡ false
any_front p [] other h = refl
any_front p (w ∷ ws) other h = by (any_front p ws other) (p w) h
  where
    by : (list_any p (ws ++ other) ≡ false → list_any p ws ≡ false) → (b : Bool) → (b || list_any p (ws ++ other)) ≡ false → (b || list_any p ws) ≡ false
    by rest true e = cc
    by rest false e = rest e

abbrev OpensBy : (RustAsks → List Bytes) → Type 0
OpensBy words = (asks : RustAsks) → list_any begins_with_at (all_words asks.arguments) ≡ false → list_any begins_with_at (words asks) ≡ false

-- where the compile opens no response file, neither does what is asked before it
pub opens_nothing : OpensBy dep_info_words → OpensBy file_names_words → (parsed : ParsedArguments) → list_any begins_with_at (compile_words (asks_in parsed)) ≡ false → OpensNothing parsed
opens_nothing dep_info file_names parsed h =
    let asks = asks_in parsed in
    let front = any_front begins_with_at (all_words asks.arguments) (color_words asks.has_json) h in
    record { compile = h; dep_info = dep_info asks front; file_names = file_names asks front }

-- what is decided of what the words ask for is the verdict
pub judged : (request : Request) (tree : Tree) (words : List Bytes) (decision : RustJudgement) (answer : CompilerArguments ParsedArguments) (parsed : ParsedArguments) → answer ≡ answers.Ok parsed → words ≡ request.words → is_text request ≡ true
    → decision_of answer ≡ decision_on request.dir tree (request_reading (expanded_by_rustc request.dir tree words)) → AsksFor (asks_of request.dir tree (request_reading (expanded_by_rustc request.dir tree words)).items) answer
    → decision ≡ with_hazards (asks_in parsed) → decision ≡ rust_verdict_of request tree
judged request tree words decision answer parsed ok same text said asked is =
    let verdict : parsing.asks ≡ decision_on request.dir tree (request_reading (expanded_by_rustc request.dir tree words)) = rw ok at said in
    let asks : asks_in parsed ≡ asks_of request.dir tree (request_reading (expanded_by_rustc request.dir tree words)).items = rw ok at asked in
    let on : List Bytes → RustJudgement = λ list. decided (decision_on request.dir tree (request_reading (expanded_by_rustc request.dir tree list))) (asks_of request.dir tree (request_reading (expanded_by_rustc request.dir tree list)).items) in
    is ∙ (λ i. decided (verdict i) (asks i)) ∙ ap on same ∙ sym (ap (λ b. if b then decided_on request tree else not_text) text)
