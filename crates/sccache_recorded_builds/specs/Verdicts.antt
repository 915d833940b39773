-- The verdict on an entry: what its words come to, unless a hazard that its words don't give as a reason has it passed through.
use Rattle.std.specs.Prelude.{Bool, ◌==◌, ◌&&◌, ◌||◌, List, Option, None, Some, codes, if◌then◌else◌}
use Rattle.std.specs.List.{list_all, list_any}
use Rattle.std.specs.Str.{is_utf8}
use Rattle.base_files.specs.Bytes.{Bytes}
use Rattle.base_files.specs.Tree.{Tree}
use Rattle.cmdlines.specs.Commands.{compile_words, output_path, preprocess_words}
use Rattle.cmdlines.specs.Hazards.{opens_file}
use Rattle.cmdlines.specs.Opening.{opened_words}
use Rattle.cmdlines.specs.Parsing.{Decision, asks, not_compilation, cannot_cache, parse_of}
use Rattle.cmdlines_base.specs.Reading.{begins_with_at}
use Rattle.cmdlines_tables.specs.declared.parsed.ParsedArguments.{ParsedArguments}
use Rattle.cmdlines_tables.specs.declared.compiler.CCompilerKind.{CCompilerKind}
use Rattle.rustc_options.specs.Asks.{RustAsks}
use Rattle.rustc_texts.specs.Words as rustc
use Rattle.rustkeys_base.specs.Asks.{asks_of}
use Rattle.rustkeys_base.specs.Expansion.{expanded_by_rustc}
use Rattle.rustkeys_base.specs.Parsing as rust
use Rattle.sccache_recorded_builds.specs.Outcomes.{Outcome, by_c, by_rustc, unknown}
use Rattle.sccache_recorded_builds.specs.declared.entry.Entry.{Entry}
use Rattle.sccache_recorded_builds.specs.declared.executables.EntryCompiler.{EntryCompiler}
use Rattle.sccache_recorded_builds.specs.declared.executables.EntryCompiler.TheVariants as compilers

-- a word of one of the commands would make the compiler open a response file
abbrev pub commands_open_file : CCompilerKind → ParsedArguments → Bool
commands_open_file kind p =
    opens_file kind (compile_words kind p (output_path p)) || opens_file kind (preprocess_words kind p)

-- a word holds the byte 255, which ends one where it is hashed
abbrev pub holds_255 : Bytes → Bool
holds_255 word = list_any (λ b. b == 255) word

-- The hazard of what is asked for: an option whose value may be attached or separate has an empty one, a word of a command would open a
-- file, or a hashed word holds the byte 255.
abbrev pub hazard_of : CCompilerKind → ParsedArguments → Option Bytes
hazard_of kind p =
    if p.empty_value then Some (codes "empty value")
    else (if commands_open_file kind p then Some (codes "opens file")
    else (if list_any holds_255 p.common_args || list_any holds_255 p.arch_args then Some (codes "byte 255")
    else None))

-- it is asked for, unless there is a reason against it
abbrev pub asked_unless : Option Bytes → ParsedArguments → Decision
asked_unless None p = asks p
asked_unless (Some reason) p = cannot_cache reason None

abbrev pub with_hazards : CCompilerKind → Decision → Decision
with_hazards kind (asks p) = asked_unless (hazard_of kind p) p
with_hazards kind not_compilation = not_compilation
with_hazards kind (cannot_cache reason more) = cannot_cache reason more

-- likewise of rustc: a word with which it is compiled would make it open a file
abbrev pub with_rust_hazard : rust.Decision → RustAsks → rust.Decision
with_rust_hazard rust.asks asked =
    if list_any begins_with_at (rustc.compile_words asked) then rust.cannot_cache (codes "opens file") None else rust.asks
with_rust_hazard rust.not_compilation asked = rust.not_compilation
with_rust_hazard (rust.cannot_cache reason more) asked = rust.cannot_cache reason more

-- words and a folder are UTF-8
abbrev pub are_text : Bytes → List Bytes → Bool
are_text dir words = list_all is_utf8 words && is_utf8 dir

-- what words of rustc that are UTF-8 come to
abbrev pub rust_verdict_by : Bytes → Tree → List Bytes → rust.Decision
rust_verdict_by dir tree words =
    let reading = rust.request_reading (expanded_by_rustc dir tree words) in
    with_rust_hazard (rust.decision_on dir tree reading) (asks_of dir tree reading.items)

abbrev pub not_text : rust.Decision
not_text = rust.cannot_cache (codes "not utf-8") None

-- what isn't UTF-8 is passed through
abbrev pub rust_verdict : Bytes → Tree → List Bytes → rust.Decision
rust_verdict dir tree words = if are_text dir words then rust_verdict_by dir tree words else not_text

-- the verdict on the words of an executable, with the response files that they name opened from that folder
abbrev pub verdict_by : Option EntryCompiler → Bytes → Tree → List Bytes → Outcome
verdict_by None dir tree words = unknown
verdict_by (Some (compilers.C kind)) dir tree words =
    by_c kind (with_hazards kind (parse_of kind (opened_words kind dir tree words)))
verdict_by (Some compilers.Rustc) dir tree words = by_rustc (rust_verdict dir tree words)

abbrev pub verdict_of : Tree → Entry → Outcome
verdict_of tree entry = verdict_by entry.compiler entry.dir tree entry.words
