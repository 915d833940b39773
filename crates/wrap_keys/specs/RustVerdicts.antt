-- The verdict on a request to rustc: why it is passed through, or what it asks for.
use Rattle.std.specs.Prelude.{Bool, false, not, ◌&&◌, if◌then◌else◌}
use Rattle.std.specs.List.{list_all, list_any}
use Rattle.std.specs.Str.{is_utf8}
use Rattle.base_files.specs.Bytes.{Bytes}
use Rattle.base_files.specs.Tree.{Tree}
use Rattle.cmdlines_base.specs.Reading.{begins_with_at}
use Rattle.rustkeys_base.specs.Asks.{asks_of}
use Rattle.rustc_options.specs.Asks.{RustAsks}
use Rattle.rustkeys_base.specs.Expansion.{expanded_by_rustc}
use Rattle.rustkeys_base.specs.Parsing as parsing
use Rattle.rustkeys_base.specs.Parsing.{request_reading, decision_on}
use Rattle.rustc_texts.specs.Words.{compile_words}
use Rattle.wrap_keys.specs.Verdicts.{Why, cannot_cache, not_compilation, not_utf8, opens_a_file}
use Rattle.wrap_base.specs.Commands.{NamedBy, by_c, by_rustc}
use Rattle.wrap_base.specs.declared.request.Request.{Request}

-- a request is passed through, or it asks for this
pub data RustJudgement : Type 0 where
  passes : Why → RustJudgement
  asks : RustAsks → RustJudgement

-- the name and the value of a variable are UTF-8
abbrev pub is_text_variable : Bytes × Bytes → Bool
is_text_variable pair = is_utf8 pair.0 && is_utf8 pair.1

-- so are its words, its directory and its variables
abbrev pub is_text : Request → Bool
is_text request = list_all is_utf8 request.words && (is_utf8 request.dir && list_all is_text_variable request.env)

-- whether this is a request to rustc that isn't text
abbrev pub is_rust_no_text : NamedBy → Request → Bool
is_rust_no_text (by_c found) request = false
is_rust_no_text (by_rustc rust) request = not (is_text request)

-- The hazard: a word with which it is compiled would make rustc open a response file.
abbrev pub opens_words : RustAsks → Bool
opens_words asked = list_any begins_with_at (compile_words asked)

abbrev pub with_hazards : RustAsks → RustJudgement
with_hazards asked = if opens_words asked then passes opens_a_file else asks asked

-- what words of that verdict come to, which ask for this if for anything
abbrev pub decided : parsing.Decision → RustAsks → RustJudgement
decided parsing.asks asked = with_hazards asked
decided parsing.not_compilation asked = passes not_compilation
decided (parsing.cannot_cache reason more) asked = passes (cannot_cache reason more)

-- its words, read with the response files opened that they name
abbrev pub decided_on : Request → Tree → RustJudgement
decided_on request tree =
    let reading = request_reading (expanded_by_rustc request.dir tree request.words) in
    decided (decision_on request.dir tree reading) (asks_of request.dir tree reading.items)

-- what isn't UTF-8 is passed through
abbrev pub not_text : RustJudgement
not_text = passes not_utf8

-- the verdict on a request to rustc
abbrev pub rust_verdict_of : Request → Tree → RustJudgement
rust_verdict_of request tree = if is_text request then decided_on request tree else not_text
