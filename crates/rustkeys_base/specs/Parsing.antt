-- What rustc's words come to: a request that can be cached, or why there is none.
use Rattle.std.specs.Prelude.{Bool, true, false, not, ◌&&◌, ◌||◌, List, [], ◌∷◌, ◌++◌, Option, None, Some, is_some, codes, if◌then◌else◌, map, string_bytes}
use Rattle.std.specs.List.{list_any}
use Rattle.std.specs.Option.{option_map, option_map_or}
use Rattle.std.specs.Str.{bytes_eq}
use Rattle.std.specs.Str.Lossy.{utf8_lossy}
use Rattle.base_files.specs.Bytes.{Bytes}
use Rattle.base_files.specs.Path.{join}
use Rattle.base_files.specs.Tree.{Tree, is_file_at}
use Rattle.cmdlines_base.specs.Choices.{sooner}
use Rattle.cmdlines_base.specs.Reading.{Item, Reading}
use Rattle.cmdlines_base.specs.Values.{refusal_of, values_by}
use Rattle.cmdlines_base.specs.declared.compiler_arguments.CompilerArguments.{CompilerArguments}
use Rattle.cmdlines_base.specs.declared.compiler_arguments.CompilerArguments.TheVariants as answers
use Rattle.rustc_options.specs.Data.{IsFlagValue, IsWordValue, refusal}
use Rattle.rustc_options.specs.Sets.{between_commas, joined_by_commas}
use Rattle.rustc_options.specs.Table.{rustc_reading}
use Rattle.rustc_options.specs.declared.data.ArgData.{ArgData}
use Rattle.rustc_options.specs.declared.data.ArgData.TheVariants as values
use Rattle.rustc_options.specs.declared.kind.ArgKind.{ArgKind}
use Rattle.rustc_options.specs.declared.types.ArgTarget.{ArgTarget}
use Rattle.rustc_options.specs.declared.types.ArgTarget.TheVariants as targets
use Rattle.rustkeys_base.specs.Facts.{facts_of}
use Rattle.rustkeys_base.specs.Saying.{Token, loose, says, unread, token_of}
use Rattle.rustkeys_base.specs.declared.deciding.Refusal.{Refusal}
use Rattle.rustkeys_base.specs.declared.deciding.Refusal.TheVariants as refusals
use Rattle.rustkeys_base.specs.declared.facts.Facts.{Facts}
use Rattle.rustc_options.specs.declared.parsed.ParsedArguments.{ParsedArguments}

-- the words ask for what can be cached, or don't compile, or can't be cached for a reason, with more text or none
pub data Decision : Type 0 where
  asks : Decision
  not_compilation : Decision
  cannot_cache : Bytes → Option Bytes → Decision

-- an answer, without what is asked for and without where its texts lie in memory
abbrev pub decision_of : CompilerArguments ParsedArguments → Decision
decision_of (answers.Ok parsed) = asks
decision_of answers.NotCompilation = not_compilation
decision_of (answers.CannotCache reason more) = cannot_cache reason.now (option_map string_bytes more)

abbrev pub decision_of_refusal : Refusal → Decision
decision_of_refusal refusals.NotCompilation = not_compilation
decision_of_refusal (refusals.CannotCache reason more) = cannot_cache reason.now (option_map string_bytes more)

-- the answer isn't one that asks for something
abbrev pub AsksNothing : CompilerArguments ParsedArguments → Type 0
AsksNothing (answers.Ok parsed) = ⊥
AsksNothing answers.NotCompilation = Unit {0}
AsksNothing (answers.CannotCache reason more) = Unit {0}

-- refused for this reason, with no more text
abbrev pub refused : Bytes → Decision
refused reason = cannot_cache reason None

-- Each item by itself, after what is known of those before it.
-- a second input: both are reported, as text
abbrev pub second_input : Bytes → Bytes → Decision
second_input previous next = cannot_cache (codes "multiple input files") (Some (codes "prev = " ++ (utf8_lossy previous ++ (codes ", next = " ++ utf8_lossy next))))

-- crates of other types than `lib`, `rlib` and `staticlib`
abbrev pub other_types : List Bytes → Option Decision
other_types [] = None
other_types (name ∷ names) = Some (cannot_cache (codes "crate-type") (Some (utf8_lossy (joined_by_commas (name ∷ names)))))

-- `incremental`, and `extra-filename` without a value
abbrev pub codegen_decides : Bytes → Option Bytes → Option Decision
codegen_decides opt value =
    if bytes_eq opt (codes "incremental") then Some (refused (codes "incremental"))
    else if bytes_eq opt (codes "extra-filename") && not (is_some value) then Some (refused (codes "extra-filename"))
    else None

-- A target's name is unsure where a regular file of the directory has it, with `.json` appended.
abbrev pub is_unsure : Bytes → Tree → ArgTarget → Bool
is_unsure dir files (targets.Name word) = is_file_at files (join dir (word ++ codes ".json"))
is_unsure dir files (targets.Path path) = false
is_unsure dir files (targets.Unsure word) = true

-- an option with what it says
abbrev pub option_decides : Bytes → Tree → Facts → Bytes → ArgData → Option Decision
option_decides dir files so_far flag values.TooHardFlag = Some (refused flag)
option_decides dir files so_far flag (values.TooHardPath path) = Some (refused flag)
option_decides dir files so_far flag values.NotCompilationFlag = Some not_compilation
option_decides dir files so_far flag (values.NotCompilation word) = Some not_compilation
option_decides dir files so_far flag (values.Emit kinds) = if is_some so_far.emit then Some (refused (codes "more than one --emit")) else None
option_decides dir files so_far flag (values.CrateType types) = other_types types.others
option_decides dir files so_far flag (values.CodeGen o) = codegen_decides o.opt o.value
option_decides dir files so_far flag (values.Target target) = if is_unsure dir files target then Some (refused (codes "target unsure")) else None
option_decides dir files so_far flag _ = None

abbrev pub decides : Bytes → Tree → Facts → Token → Option Decision
decides dir files so_far (loose word) = option_map (λ previous. second_input previous word) so_far.input
decides dir files so_far (says flag value) = option_decides dir files so_far flag value
decides dir files so_far unread = None

-- All items, once none of them decides.
abbrev pub has_kind : Bytes → List Bytes → Bool
has_kind name kinds = list_any (bytes_eq name) kinds

-- what is emitted
abbrev pub emitted : Facts → List Bytes
emitted f = option_map_or between_commas f.emit []

abbrev pub is_supported : Bytes → Bool
is_supported kind = bytes_eq kind (codes "link") || (bytes_eq kind (codes "metadata") || bytes_eq kind (codes "dep-info"))

abbrev pub is_unsupported : Bytes → Bool
is_unsupported kind = not (is_supported kind)

-- the words that a request needs, and then the rules on what is emitted and of which type
abbrev pub closing : Facts → Decision
closing f =
    if not (is_some f.input) then refused (codes "missing input")
    else if not (is_some f.output_dir) then refused (codes "missing output_dir")
    else if not (is_some f.emit) then refused (codes "missing emit")
    else if not (is_some f.crate_name) then refused (codes "missing crate_name")
    else if not (has_kind (codes "link") (emitted f) || has_kind (codes "metadata") (emitted f)) then not_compilation
    else if not (f.rlib || f.staticlib) then cannot_cache (codes "crate-type") (Some (codes "No crate-type passed"))
    else if list_any is_unsupported (emitted f) then refused (codes "unsupported --emit")
    else asks

abbrev pub not_parsed : Decision
not_parsed = refused (codes "argument parse")

-- whether the item's value is refused
abbrev pub is_misread : Item ArgKind → Bool
is_misread item = is_some (refusal_of (values_by IsFlagValue IsWordValue refusal) item)

-- What an item decides after those that come before it: one whose value is refused does.
abbrev pub decides_after : Bytes → Tree → List (Item ArgKind) → Item ArgKind → Option Decision
decides_after dir files earlier item =
    let so_far = facts_of (map token_of earlier) in
    if is_misread item then Some not_parsed else decides dir files so_far (token_of item)

-- what the first of them gives that gives anything, each asked with those before it
abbrev pub first_given : {X Y : Type 0} → (List X → X → Option Y) → List X → Option Y
first_given given [] = None
first_given given (x ∷ xs) = sooner (given [] x) (first_given (λ earlier. given (x ∷ earlier)) xs)

abbrev pub unless_decided : Option Decision → Decision → Decision
unless_decided None later = later
unless_decided (Some decision) later = decision

-- A first word `rustc`, which a wrapper leaves there, is none of the request's.
abbrev pub after_rustc : List Bytes → List Bytes
after_rustc [] = []
after_rustc (word ∷ words) = if bytes_eq word (codes "rustc") then words else word ∷ words

-- what the request's words are read as
abbrev pub request_reading : List Bytes → Reading ArgKind
request_reading words = rustc_reading (after_rustc words)

-- The first item that decides does; else words that are cut short do; else the closing rules, on all that the items say.
abbrev pub decision_on : Bytes → Tree → Reading ArgKind → Decision
decision_on dir files r =
    unless_decided (first_given (decides_after dir files) r.items)
    (if r.cut_short then not_parsed else closing (facts_of (map token_of r.items)))
