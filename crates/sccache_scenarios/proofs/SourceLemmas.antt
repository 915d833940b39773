-- What the scripted tool takes from the commands of a request: the request's input, and the name of its language.
use Rattle.std.proofs.Common.{◌≡◌, ◌⊎◌, Bool, true, false, cond, not, if◌then◌else◌, List, [], ◌∷◌, ◌++◌, map, Option, None, Some, refl, sym, ap, subst, ◌∙◌, inl, inr}
use Rattle.std.specs.Prelude.{codes}
use Rattle.std.specs.List.{flat_map}
use Rattle.std.specs.Option.{option_map, option_to_list}
use Rattle.std.proofs.lemmas.List.{append-nil}
use Rattle.std.proofs.lemmas.List.Concat.{flat_map-append}
use Rattle.base_files.specs.Bytes.{Bytes}
use Rattle.cmdlines_base.specs.Printing.{normal, normal_disposition}
use Rattle.cmdlines_base.specs.Reading.{Item, raw, unknown, flag, valued, after_dashes}
use Rattle.cmdlines_base.specs.declared.argument.ArgDisposition.{ArgDisposition}
use Rattle.cmdlines_tables.specs.Kinds.{is_same_list, list_of}
use Rattle.cmdlines_tables.specs.CompilerFacts.{ColorWord, by_flag, by_value, facts_about, spelling_of}
use Rattle.cmdlines_tables.specs.Languages.{knows_by}
use Rattle.cmdlines_tables.specs.OwnWords.{color_item_by, language_items, language_items_by, output_item, output_item_by}
use Rattle.cmdlines_tables.specs.Tables.{reading_of}
use Rattle.cmdlines_tables.specs.declared.compiler.CCompilerKind.{CCompilerKind}
use Rattle.cmdlines_tables.specs.declared.compiler.Spelling.{Spelling}
use Rattle.cmdlines_tables.specs.declared.compiler.Spelling.TheVariants.{Gnu, Plain, Msvc}
use Rattle.cmdlines_tables.specs.declared.kind.ArgKind.{ArgKind}
use Rattle.cmdlines_tables.specs.declared.kind.ArgKind.TheVariants as kinds
use Rattle.cmdlines_tables.specs.declared.kind.OptionList.{OptionList}
use Rattle.cmdlines_tables.specs.declared.kind.OptionList.TheVariants as lists
use Rattle.cmdlines_tables.specs.declared.language.Language.{Language}
use Rattle.cmdlines_tables.specs.declared.language.Language.TheVariants.{C, Cxx, CPreprocessed, CxxPreprocessed, Assembler, AssemblerToPreprocess, Rust}
use Rattle.cmdlines.specs.Commands.{ReadsAs, added_items, after_items, color_items, compile_items, front_items, front_words, preprocess_items, when_items}
use Rattle.cmdlines.specs.KnownLanguages.{IsKnownTo}
use Rattle.cmdlines.specs.Wanted.{is_wanted, wanted}
use Rattle.cmdlines_tables.specs.declared.parsed.DependencyOptions.{DependencyOptions}
use Rattle.cmdlines_tables.specs.declared.parsed.ParsedArguments.{ParsedArguments}
use Rattle.ckeys.specs.Calls.{needs_preprocessing}
use Rattle.ckeys_records.specs.declared.step.Step.TheVariants.{Compile}
use Rattle.sccache_script_tool.specs.Scripted.{input_in, language_in, one_in, only, takes_as_it_stands}

-- only an option of one kind names a language
names_none : (k : ArgKind) → (k ≡ kinds.Language) ⊎ ((f v : Bytes) (d : ArgDisposition) → language_in (valued f k v d) ≡ [])
names_none kinds.TooHard = inr (λ f v d. refl)
names_none kinds.DoCompilation = inr (λ f v d. refl)
names_none kinds.Output = inr (λ f v d. refl)
names_none kinds.Language = inl refl
names_none kinds.LanguageC = inr (λ f v d. refl)
names_none kinds.LanguageCxx = inr (λ f v d. refl)
names_none kinds.InputC = inr (λ f v d. refl)
names_none kinds.InputCxx = inr (λ f v d. refl)
names_none kinds.Arch = inr (λ f v d. refl)
names_none kinds.PreprocessorArgument = inr (λ f v d. refl)
names_none kinds.PreprocessorTooHard = inr (λ f v d. refl)
names_none kinds.NeedDepTarget = inr (λ f v d. refl)
names_none kinds.DepFlag = inr (λ f v d. refl)
names_none kinds.DepArgumentPath = inr (λ f v d. refl)
names_none kinds.DepTarget = inr (λ f v d. refl)
names_none kinds.PassThrough = inr (λ f v d. refl)
names_none kinds.ExtraHashFile = inr (λ f v d. refl)
names_none kinds.SerializeDiagnostics = inr (λ f v d. refl)
names_none kinds.DiagnosticsColor = inr (λ f v d. refl)
names_none kinds.DiagnosticsColorFlag = inr (λ f v d. refl)
names_none kinds.NoDiagnosticsColorFlag = inr (λ f v d. refl)
names_none kinds.XClang = inr (λ f v d. refl)

clash : (s : Bool) → s ≡ false → s ≡ true → ⊥
clash true h g = other h
  where
    other : true ≡ false → ⊥
    other h = cc
clash false h g = other g
  where
    other : false ≡ true → ⊥
    other h = cc

-- what items give doesn't depend on where their values are
abbrev IsSteady : (Item ArgKind → List Bytes) → Type 0
IsSteady f = (a : Item ArgKind) → f (normal a) ≡ f a

input_steady : IsSteady input_in
input_steady (raw w) = refl
input_steady (unknown w) = refl
input_steady (flag f k) = refl
input_steady (valued f k v d) = refl
input_steady (after_dashes w) = refl

language_steady : IsSteady language_in
language_steady (raw w) = refl
language_steady (unknown w) = refl
language_steady (flag f k) = refl
language_steady (after_dashes w) = refl
language_steady (valued f k v d) = by (names_none k)
  where
    by : (k ≡ kinds.Language) ⊎ ((f v : Bytes) (d : ArgDisposition) → language_in (valued f k v d) ≡ []) → language_in (valued f k v (normal_disposition f d)) ≡ language_in (valued f k v d)
    by (inl is) = subst (λ x. language_in (valued f x v (normal_disposition f d)) ≡ language_in (valued f x v d)) (sym is) refl
    by (inr none) = none f v (normal_disposition f d) ∙ sym (none f v d)

-- an option that is wanted in a list gives none
abbrev IsUnwanted : (Item ArgKind → List Bytes) → Type 0
IsUnwanted f = (list : OptionList) → is_same_list lists.Nowhere list ≡ false → (a : Item ArgKind) → is_wanted list a ≡ true → f a ≡ []

input_unwanted : IsUnwanted input_in
input_unwanted list some (raw w) h = absurd (clash (is_same_list lists.Nowhere list) some h)
input_unwanted list some (unknown w) h = refl
input_unwanted list some (flag f k) h = refl
input_unwanted list some (valued f k v d) h = refl
input_unwanted list some (after_dashes w) h = absurd (clash (is_same_list lists.Nowhere list) some h)

language_unwanted : IsUnwanted language_in
language_unwanted list some (raw w) h = refl
language_unwanted list some (unknown w) h = refl
language_unwanted list some (flag f k) h = refl
language_unwanted list some (after_dashes w) h = refl
language_unwanted list some (valued f k v d) h = by (names_none k)
  where
    by : (k ≡ kinds.Language) ⊎ ((f v : Bytes) (d : ArgDisposition) → language_in (valued f k v d) ≡ []) → language_in (valued f k v d) ≡ []
    by (inl is) = absurd (clash (is_same_list lists.Nowhere list) some (ap (λ x. is_same_list (list_of x) list) (sym is) ∙ h))
    by (inr none) = none f v d

module _ (f : Item ArgKind → List Bytes) where
  -- these items give these words
  record Gives (items : List (Item ArgKind)) (found : List Bytes) : Type 0 where
    is : flat_map f items ≡ found

  steady_all : IsSteady f → (items : List (Item ArgKind)) → flat_map f (map normal items) ≡ flat_map f items
  steady_all steady [] = refl
  steady_all steady (a ∷ items) = ap (λ x. x ++ flat_map f (map normal items)) (steady a) ∙ ap (λ xs. f a ++ xs) (steady_all steady items)

  -- the one word of a command that is read as these items
  one_is : IsSteady f → (kind : CCompilerKind) (command : List Bytes) (expected : List (Item ArgKind)) → ReadsAs kind command expected → one_in f (reading_of kind command) ≡ only (flat_map f expected)
  one_is steady kind command expected r =
      ap (λ s. if s then None else only (flat_map f (reading_of kind command).items)) r.whole
      ∙ ap only (sym (steady_all steady (reading_of kind command).items) ∙ ap (flat_map f) r.items ∙ steady_all steady expected)

  none_after : (xs ys : List (Item ArgKind)) (found : List Bytes) → Gives xs found → Gives ys [] → Gives (xs ++ ys) found
  none_after xs ys found h none = record { is = flat_map-append f xs ys ∙ ap (λ x. x ++ flat_map f ys) h.is ∙ ap (λ y. found ++ y) none.is ∙ append-nil found }

  none_before : (xs ys : List (Item ArgKind)) (found : List Bytes) → Gives xs [] → Gives ys found → Gives (xs ++ ys) found
  none_before xs ys found none h = record { is = flat_map-append f xs ys ∙ ap (λ x. x ++ flat_map f ys) none.is ∙ h.is }

  wanted_none : (list : OptionList) → is_same_list lists.Nowhere list ≡ false → IsUnwanted f → (items : List (Item ArgKind)) → Gives (wanted list items) []
  wanted_none list some none [] = record { is = refl }
  wanted_none list some none (a ∷ items) = by (is_wanted list a) refl (wanted_none list some none items)
    where
      by : (s : Bool) → is_wanted list a ≡ s → Gives (wanted list items) [] → Gives (cond s (a ∷ wanted list items) (wanted list items)) []
      by true is rest = record { is = ap (λ x. x ++ flat_map f (wanted list items)) (none list some a is) ∙ rest.is }
      by false is rest = rest

-- the words that commands have of their own give no input
language_by_none : (spelling : Spelling) (language : Language) → Gives input_in (language_items_by spelling language) []
language_by_none Gnu C = record { is = refl }
language_by_none Gnu Cxx = record { is = refl }
language_by_none Gnu CPreprocessed = record { is = refl }
language_by_none Gnu CxxPreprocessed = record { is = refl }
language_by_none Gnu Assembler = record { is = refl }
language_by_none Gnu AssemblerToPreprocess = record { is = refl }
language_by_none Gnu Rust = record { is = refl }
language_by_none Plain language = record { is = refl }
language_by_none Msvc C = record { is = refl }
language_by_none Msvc Cxx = record { is = refl }
language_by_none Msvc CPreprocessed = record { is = refl }
language_by_none Msvc CxxPreprocessed = record { is = refl }
language_by_none Msvc Assembler = record { is = refl }
language_by_none Msvc AssemblerToPreprocess = record { is = refl }
language_by_none Msvc Rust = record { is = refl }

own_language_none : (kind : CCompilerKind) (language : Language) → Gives input_in (language_items kind language) []
own_language_none kind language = language_by_none (spelling_of kind) language

input_output_by : (spelling : Spelling) (path : Bytes) → Gives input_in (output_item_by spelling path ∷ []) []
input_output_by Gnu path = record { is = refl }
input_output_by Plain path = record { is = refl }
input_output_by Msvc path = record { is = refl }

input_output_none : (kind : CCompilerKind) (path : Bytes) → Gives input_in (output_item kind path ∷ []) []
input_output_none kind path = input_output_by (spelling_of kind) path

input_color_by : (color : Option ColorWord) → Gives input_in (option_to_list (option_map color_item_by color)) []
input_color_by None = record { is = refl }
input_color_by (Some (by_flag name)) = record { is = refl }
input_color_by (Some (by_value name value)) = record { is = refl }

input_color_none : (kind : CCompilerKind) (has_option : Bool) → Gives input_in (color_items kind has_option) []
input_color_none kind true = record { is = refl }
input_color_none kind false = input_color_by (facts_about kind).color

language_output_by : (spelling : Spelling) (path : Bytes) → Gives language_in (output_item_by spelling path ∷ []) []
language_output_by Gnu path = record { is = refl }
language_output_by Plain path = record { is = refl }
language_output_by Msvc path = record { is = refl }

language_output_none : (kind : CCompilerKind) (path : Bytes) → Gives language_in (output_item kind path ∷ []) []
language_output_none kind path = language_output_by (spelling_of kind) path

language_color_by : (color : Option ColorWord) → Gives language_in (option_to_list (option_map color_item_by color)) []
language_color_by None = record { is = refl }
language_color_by (Some (by_flag name)) = record { is = refl }
language_color_by (Some (by_value name value)) = record { is = refl }

language_color_none : (kind : CCompilerKind) (has_option : Bool) → Gives language_in (color_items kind has_option) []
language_color_none kind true = record { is = refl }
language_color_none kind false = language_color_by (facts_about kind).color

when_none : (holds : Bool) (name : Bytes) (k : ArgKind) (value : Bytes) → Gives input_in (when_items holds name k value) []
when_none false name k value = record { is = refl }
when_none true name k value = record { is = refl }

added_none : (kind : CCompilerKind) (o : DependencyOptions) (path : Option Bytes) → Gives input_in (added_items kind o path) []
added_none kind o None = record { is = refl }
added_none kind o (Some path) = none_after input_in _ _ [] (when_none _ _ _ _) (when_none _ _ _ _)

-- the input comes first or last
front_found : (after : Bool) (input : Bytes) → Gives input_in (front_items after input) (front_words after input)
front_found true input = record { is = refl }
front_found false input = record { is = refl }

front_none : (after : Bool) (input : Bytes) → Gives language_in (front_items after input) []
front_none true input = record { is = refl }
front_none false input = record { is = refl }

after_none : (after : Bool) (input : Bytes) → Gives language_in (after_items after input) []
after_none true input = record { is = refl }
after_none false input = record { is = refl }

input_found : (items : List (Item ArgKind)) (after : Bool) (input : Bytes) → Gives input_in items (front_words after input) → Gives input_in (items ++ after_items after input) (input ∷ [])
input_found items after input h = record { is = flat_map-append input_in items (after_items after input) ∙ ap (λ x. x ++ flat_map input_in (after_items after input)) h.is ∙ both after }
  where
    both : (b : Bool) → front_words b input ++ flat_map input_in (after_items b input) ≡ input ∷ []
    both true = refl
    both false = refl

module _ (kind : CCompilerKind) (p : ParsedArguments) (items : List (Item ArgKind)) where
  abbrev none_of : (list : OptionList) → is_same_list lists.Nowhere list ≡ false → Gives input_in (wanted list items) []
  none_of list some = wanted_none input_in list some input_unwanted items

  abbrev names_none_of : (list : OptionList) → is_same_list lists.Nowhere list ≡ false → Gives language_in (wanted list items) []
  names_none_of list some = wanted_none language_in list some language_unwanted items

  compile_gives : (path : Bytes) → Gives input_in (compile_items kind p path items) (p.input ∷ [])
  compile_gives path =
      input_found _ p.double_dash_input p.input
      (none_after input_in _ _ _ (none_after input_in _ _ _ (none_after input_in _ _ _ (none_after input_in _ _ _ (none_after input_in _ _ _ (none_after input_in _ _ _ (none_before input_in _ _ _ (none_after input_in _ _ _ (own_language_none kind p.language)
      (record { is = refl }))
      (front_found p.double_dash_input p.input))
      (input_output_none kind path))
      (input_color_none kind p.has_color_option))
      (none_of lists.Preprocessor refl))
      (none_of lists.Unhashed refl))
      (none_of lists.Common refl))
      (none_of lists.Arch refl))

  preprocess_gives : Gives input_in (preprocess_items kind p items) (p.input ∷ [])
  preprocess_gives =
      input_found _ p.double_dash_input p.input
      (none_after input_in _ _ _ (none_after input_in _ _ _ (none_after input_in _ _ _ (none_after input_in _ _ _ (none_after input_in _ _ _ (none_before input_in _ _ _ (none_after input_in _ _ _ (own_language_none kind p.language)
      (record { is = refl }))
      (front_found p.double_dash_input p.input))
      (none_of lists.Preprocessor refl))
      (none_of lists.Dependency refl))
      (added_none kind p.dependencies _))
      (none_of lists.Common refl))
      (none_of lists.Arch refl))

  compile_names : (path : Bytes) → Gives language_in (compile_items kind p path items) (flat_map language_in (language_items kind p.language))
  compile_names path =
      none_after language_in _ _ _ (none_after language_in _ _ _ (none_after language_in _ _ _ (none_after language_in _ _ _ (none_after language_in _ _ _ (none_after language_in _ _ _ (none_after language_in _ _ _ (none_after language_in _ _ _ (none_after language_in (language_items kind p.language) (flag (codes "-c") kinds.DoCompilation ∷ []) _ (record { is = refl })
      (record { is = refl }))
      (front_none p.double_dash_input p.input))
      (language_output_none kind path))
      (language_color_none kind p.has_color_option))
      (names_none_of lists.Preprocessor refl))
      (names_none_of lists.Unhashed refl))
      (names_none_of lists.Common refl))
      (names_none_of lists.Arch refl))
      (after_none p.double_dash_input p.input)

  -- the one input of each command is the request's
  pub compile_input : (command : List Bytes) (path : Bytes) → ReadsAs kind command (compile_items kind p path items) → one_in input_in (reading_of kind command) ≡ Some p.input
  compile_input command path r = one_is input_in input_steady kind command (compile_items kind p path items) r ∙ ap only (compile_gives path).is

  pub preprocess_input : (command : List Bytes) → ReadsAs kind command (preprocess_items kind p items) → one_in input_in (reading_of kind command) ≡ Some p.input
  preprocess_input command r = one_is input_in input_steady kind command (preprocess_items kind p items) r ∙ ap only preprocess_gives.is

  compile_language : (command : List Bytes) (path : Bytes) → ReadsAs kind command (compile_items kind p path items) → one_in language_in (reading_of kind command) ≡ only (flat_map language_in (language_items kind p.language))
  compile_language command path r = one_is language_in language_steady kind command (compile_items kind p path items) r ∙ ap only (compile_names path).is

-- a compile takes its input as it is exactly if its language isn't preprocessed
stands_by : (spelling : Spelling) (language : Language) → knows_by spelling language ≡ true → (language ≡ Rust → ⊥) → takes_as_it_stands Compile (only (flat_map language_in (language_items_by spelling language))) ≡ not (needs_preprocessing language)
stands_by Gnu C knows other = refl
stands_by Gnu Cxx knows other = refl
stands_by Gnu CPreprocessed knows other = refl
stands_by Gnu CxxPreprocessed knows other = refl
stands_by Gnu Assembler knows other = refl
stands_by Gnu AssemblerToPreprocess knows other = refl
stands_by Gnu Rust knows other = absurd (other refl)
stands_by Plain C knows other = refl
stands_by Plain Cxx knows other = refl
stands_by Plain CPreprocessed knows other = absurd (clash false refl knows)
stands_by Plain CxxPreprocessed knows other = absurd (clash false refl knows)
stands_by Plain Assembler knows other = absurd (clash false refl knows)
stands_by Plain AssemblerToPreprocess knows other = absurd (clash false refl knows)
stands_by Plain Rust knows other = absurd (other refl)
stands_by Msvc C knows other = refl
stands_by Msvc Cxx knows other = refl
stands_by Msvc CPreprocessed knows other = absurd (clash false refl knows)
stands_by Msvc CxxPreprocessed knows other = absurd (clash false refl knows)
stands_by Msvc Assembler knows other = absurd (clash false refl knows)
stands_by Msvc AssemblerToPreprocess knows other = absurd (clash false refl knows)
stands_by Msvc Rust knows other = absurd (other refl)

stands : (kind : CCompilerKind) (language : Language) → IsKnownTo kind language → takes_as_it_stands Compile (only (flat_map language_in (language_items kind language))) ≡ not (needs_preprocessing language)
stands kind language known = stands_by (spelling_of kind) language known.0 known.1

pub compile_stands : (kind : CCompilerKind) (p : ParsedArguments) (items : List (Item ArgKind)) (command : List Bytes) (path : Bytes) → ReadsAs kind command (compile_items kind p path items) → IsKnownTo kind p.language
    → takes_as_it_stands Compile (one_in language_in (reading_of kind command)) ≡ not (needs_preprocessing p.language)
compile_stands kind p items command path r known = ap (takes_as_it_stands Compile) (compile_language kind p items command path r) ∙ stands kind p.language known
