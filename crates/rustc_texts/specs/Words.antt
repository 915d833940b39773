-- The words of a request: those that count in keys, and those of the commands that are run for it.
use Rattle.std.specs.Prelude.{Bool, false, not, ◌&&◌, ◌||◌, List, [], ◌∷◌, ◌++◌, map, filter, codes, is_some, if◌then◌else◌}
use Rattle.std.specs.Cmp.Lexicographic.{slice_cmp}
use Rattle.std.specs.List.{flat_map}
use Rattle.std.specs.Option.{option_map_or}
use Rattle.std.specs.Ordering.{nat_cmp}
use Rattle.std.specs.Str.{bytes_eq}
use Rattle.std.specs.declared.cmp.Ordering.{Ordering}
use Rattle.base_files.specs.Bytes.{Bytes}
use Rattle.rustc_options.specs.Asks.{RustAsks, Said}
use Rattle.rustc_options.specs.Sorted.{sorted_by}

abbrev pub words_in : Said → List Bytes
words_in said = said.words

-- all words of these arguments
abbrev pub all_words : List Said → List Bytes
all_words arguments = flat_map words_in arguments

-- whether it's the option of that flag
abbrev pub is_flag : Bytes → Said → Bool
is_flag flag said = option_map_or (bytes_eq flag) said.flag false

abbrev pub is_cfg : Said → Bool
is_cfg said = is_flag (codes "--cfg") said

abbrev pub is_target : Said → Bool
is_target said = is_flag (codes "--target") said

-- Options whose words don't count: those on paths whose files are hashed or hold the outputs, on names that a source may ask for, and on the width of messages.
abbrev pub is_left_out : Said → Bool
is_left_out said =
    is_flag (codes "--extern") said
    || is_flag (codes "-L") said
    || is_flag (codes "--check-cfg") said
    || is_flag (codes "--out-dir") said
    || is_flag (codes "--diagnostic-width") said

-- nor do targets, where one is a file, which is hashed
abbrev pub counts_beside : Bool → Said → Bool
counts_beside has_target_file said = not (is_left_out said) && not (has_target_file && is_target said)

-- the options `--cfg`, and all else
abbrev pub cfgs_of : List Said → List Said
cfgs_of arguments = filter is_cfg arguments

abbrev pub rest_of : List Said → List Said
rest_of arguments = filter (λ said. not (is_cfg said)) arguments

-- lists of words by their words' bytes
abbrev pub words_cmp : List Bytes → List Bytes → Ordering
words_cmp one other = slice_cmp (slice_cmp nat_cmp) one other

-- The words that count: those of the options `--cfg` in their order, after all others.
abbrev pub kept_of : Bool → List Said → List Bytes
kept_of has_target_file arguments =
    let others = all_words (filter (counts_beside has_target_file) (rest_of arguments)) in
    let cfgs = sorted_by words_cmp (map words_in (cfgs_of arguments)) in
    others ++ flat_map (λ words. words) cfgs

abbrev pub kept_words : RustAsks → List Bytes
kept_words asks = kept_of (is_some asks.target_json) asks.arguments

-- Messages are coloured, unless they are JSON.
abbrev pub color_words : Bool → List Bytes
color_words has_json = if has_json then [] else codes "--color" ∷ codes "always" ∷ []

-- the words with which a request is compiled: all, and that
abbrev pub compile_words : RustAsks → List Bytes
compile_words asks = all_words asks.arguments ++ color_words asks.has_json

-- those on what is written and where
abbrev pub is_on_outputs : Said → Bool
is_on_outputs said = is_flag (codes "--emit") said || is_flag (codes "--out-dir") said

-- the words that ask for what the crate depends on: all but those, and what is to be reported
abbrev pub dep_info_words : RustAsks → List Bytes
dep_info_words asks = all_words (filter (λ said. not (is_on_outputs said)) asks.arguments) ++ codes "--emit" ∷ codes "dep-info" ∷ []

-- the words that ask for the names of what is written: all, and what is to be reported
abbrev pub file_names_words : RustAsks → List Bytes
file_names_words asks = all_words asks.arguments ++ codes "--print" ∷ codes "file-names" ∷ []
