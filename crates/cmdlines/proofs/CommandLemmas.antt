-- The commands are read again as what was wanted.
use Rattle.std.proofs.Common.{◌≡◌, List, [], ◌∷◌, ◌++◌, Option, None, Some, Bool, true, false, cond, not, ◌&&◌, ◌||◌, refl, ap, sym, subst, ◌∙◌, arith, map, inl, inr, append_assoc}
use Rattle.std.proofs.lemmas.List.{map-append}
use Rattle.std.specs.List.{list_any}
use Rattle.std.specs.Prelude.{codes}
use Rattle.base_files.specs.Bytes.{Bytes}
use Rattle.cmdlines_base.specs.Again.{lets_dashes, is_clear, ReadsAgain, AllReadAgain, AllReadAgainUnlessEmpty, ReadsTogether}
use Rattle.cmdlines_base.specs.Printing.{is_empty_j, normal, words_of}
use Rattle.cmdlines_base.specs.Reading.{Item, raw, unknown, flag, valued, after_dashes, is_after, Reading, reading, before, all_before, all_after, first_word, whole, awaits, ends, Reads, alone, with_value, options_end}
use Rattle.cmdlines_base.specs.Table.{Entry}
use Rattle.cmdlines_base.specs.declared.argument.ArgDisposition.{ArgDisposition}
use Rattle.cmdlines_base.specs.declared.argument.ArgDisposition.TheVariants.{CanBeConcatenated}
use Rattle.cmdlines_tables.specs.Kinds.{is_same_list}
use Rattle.cmdlines_tables.specs.OwnWords.{OwnWords, AreReadAs, option_words, option_item, writes_dependencies}
use Rattle.cmdlines_tables.specs.Tables.{entries_of, ends_options, reading_of}
use Rattle.cmdlines_tables.specs.declared.compiler.CCompilerKind.{CCompilerKind}
use Rattle.cmdlines_tables.specs.declared.kind.ArgKind.{ArgKind}
use Rattle.cmdlines_tables.specs.declared.kind.ArgKind.TheVariants.{DepArgumentPath, DepTarget}
use Rattle.cmdlines_tables.specs.declared.kind.OptionList.{OptionList}
use Rattle.cmdlines_tables.specs.declared.kind.OptionList.TheVariants as lists
use Rattle.cmdlines.specs.Commands.{object_path, front_words, front_items, after_words, after_items, color_words, color_items, lacks_path, lacks_target, beside, when_words, when_items, added_words, added_items, compile_words, compile_items, preprocess_words, preprocess_items, ReadsAs}
use Rattle.cmdlines.specs.Parsing.{parse_of, asks, HasSafeInput, IsSafeBy}
use Rattle.cmdlines.specs.Wanted.{is_wanted, wanted, facts_of, lists_of}
use Rattle.cmdlines_tables.specs.declared.parsed.DependencyOptions.{DependencyOptions}
use Rattle.cmdlines_tables.specs.declared.parsed.ParsedArguments.{ParsedArguments}
use Rattle.cmdlines.proofs.InputLemmas.{Asked, asked}

-- what the layer below promises of words that are written again
abbrev pub OneReading : Type 0
OneReading = (dashes : Bool) (table : List (Entry ArgKind)) (words : List Bytes) (r : Reading ArgKind) → Reads dashes table words r → r ≡ reading dashes table words

abbrev pub HasReading : Type 0
HasReading = (dashes : Bool) (table : List (Entry ArgKind)) (words : List Bytes) → Reads dashes table words (reading dashes table words)

abbrev pub ItemsAgain : Type 0
ItemsAgain = (dashes : Bool) (table : List (Entry ArgKind)) → is_clear table ≡ true → lets_dashes dashes table ≡ true → (words : List Bytes) → AllReadAgainUnlessEmpty dashes table (reading dashes table words).items

abbrev pub ItemsTogether : Type 0
ItemsTogether = (dashes : Bool) (table : List (Entry ArgKind)) (items : List (Item ArgKind)) → AllReadAgain dashes table items → (rest : List Bytes) → ReadsTogether dashes table items rest

module _ (has : HasReading) (only : OneReading) (d : Bool) (t : List (Entry ArgKind)) where
  -- Whatever follows, the words are read as these items, but for how they are written.
  record On (words : List Bytes) (items : List (Item ArgKind)) (rest : List Bytes) : Type 0 where
    found : List (Item ArgKind)
    reads : reading d t (words ++ rest) ≡ all_before found (reading d t rest)
    alike : map normal found ≡ map normal items

  abbrev ReadsOn : List Bytes → List (Item ArgKind) → Type 0
  ReadsOn words items = (rest : List Bytes) → On words items rest

  -- The words are read as these items, and nothing comes after them.
  record Ends (words : List Bytes) (items : List (Item ArgKind)) : Type 0 where
    found : List (Item ArgKind)
    reads : reading d t words ≡ record { items = found; cut_short = false }
    alike : map normal found ≡ map normal items

  none_on : ReadsOn [] []
  none_on rest = record { found = []; reads = refl; alike = refl }

  alone_on : (word : Bytes) (item : Item ArgKind) → first_word d t word ≡ whole item → ReadsOn (word ∷ []) (item ∷ [])
  alone_on word item h rest = record {
    found = item ∷ [];
    reads = sym (only d t (word ∷ rest) (before item (reading d t rest)) (alone h (has d t rest)));
    alike = refl;
  }

  none_end : Ends [] []
  none_end = record { found = []; reads = refl; alike = refl }

  dashes_end : (word input : Bytes) → first_word d t word ≡ ends → Ends (word ∷ input ∷ []) (after_dashes input ∷ [])
  dashes_end word input h = record {
    found = after_dashes input ∷ [];
    reads = sym (only d t (word ∷ input ∷ []) (all_after (input ∷ [])) (options_end h));
    alike = refl;
  }

  before_end : (words : List Bytes) (items : List (Item ArgKind)) (more : List Bytes) (others : List (Item ArgKind)) → ReadsOn words items → Ends more others → Ends (words ++ more) (items ++ others)
  before_end words items more others on end =
      let first : On words items more = on more in
      record {
        found = first.found ++ end.found;
        reads = first.reads ∙ ap (all_before first.found) end.reads;
        alike = map-append normal first.found end.found ∙ ap (λ xs. xs ++ map normal end.found) first.alike ∙ ap (λ xs. map normal items ++ xs) end.alike ∙ sym (map-append normal items others);
      }

  both_on : (words : List Bytes) (items : List (Item ArgKind)) (more : List Bytes) (others : List (Item ArgKind)) → ReadsOn words items → ReadsOn more others → ReadsOn (words ++ more) (items ++ others)
  both_on words items more others on next rest =
      let second : On more others rest = next rest in
      let first : On words items (more ++ rest) = on (more ++ rest) in
      record {
        found = first.found ++ second.found;
        reads = ap (reading d t) (append_assoc words more rest) ∙ first.reads ∙ ap (all_before first.found) second.reads ∙ ap (λ xs. record { items = xs; cut_short = (reading d t rest).cut_short }) (sym (append_assoc first.found second.found (reading d t rest).items));
        alike = map-append normal first.found second.found ∙ ap (λ xs. xs ++ map normal second.found) first.alike ∙ ap (λ xs. map normal items ++ xs) second.alike ∙ sym (map-append normal items others);
      }

  -- a wanted option isn't after double dashes, so it reads again where no value is empty
  wanted_again : (list : OptionList) → is_same_list lists.Nowhere list ≡ false → (items : List (Item ArgKind)) → AllReadAgainUnlessEmpty d t items → list_any (is_empty_j t) items ≡ false → AllReadAgain d t (wanted list items)
  wanted_again list some [] h none = tt
  wanted_again list some (a ∷ items) h none =
      let here : is_empty_j t a ≡ false = grind arith in
      let rest : list_any (is_empty_j t) items ≡ false = grind arith in
      by (is_wanted list a) refl here (wanted_again list some items h.1 rest)
    where
      front : (b : Item ArgKind) → is_wanted list b ≡ true → is_after b ≡ false
      front (raw w) of = refl
      front (unknown w) of = refl
      front (flag f k) of = refl
      front (valued f k v e) of = refl
      front (after_dashes w) of = absurd (clash of)
        where
          clash : is_same_list lists.Nowhere list ≡ true → ⊥
          clash of = cc

      reads : is_empty_j t a ≡ false → is_after a ≡ false → ReadsAgain d t a
      reads here at = h.0 (by_both (is_after a) (is_empty_j t a) at here)
        where
          by_both : (s e : Bool) → s ≡ false → e ≡ false → ((s && d) || e) ≡ false
          by_both false false p q = refl
          by_both false true p q = q
          by_both true e p q = cc

      by : (s : Bool) → is_wanted list a ≡ s → is_empty_j t a ≡ false → AllReadAgain d t (wanted list items) → AllReadAgain d t (cond s (a ∷ wanted list items) (wanted list items))
      by true of here rest = (reads here (front a of), rest)
      by false of here rest = rest

  -- words that are written of items that read again
  list_on : ItemsTogether → (items : List (Item ArgKind)) → AllReadAgain d t items → ReadsOn (words_of items) items
  list_on together items again rest =
      let r = together d t items again rest in
      record { found = r.found; reads = r.reads; alike = r.alike }

module _ (has : HasReading) (only : OneReading) (again : ItemsAgain) (together : ItemsTogether) (kind : CCompilerKind) (own : OwnWords kind) where
  abbrev d : Bool
  d = ends_options kind

  abbrev t : List (Entry ArgKind)
  t = entries_of kind

  abbrev Reads-on : List Bytes → List (Item ArgKind) → Type 0
  Reads-on words items = ReadsOn has only d t words items

  abbrev Ends-at : List Bytes → List (Item ArgKind) → Type 0
  Ends-at words items = Ends has only d t words items

  abbrev join : (words : List Bytes) (items : List (Item ArgKind)) (more : List Bytes) (others : List (Item ArgKind)) → Reads-on words items → Ends-at more others → Ends-at (words ++ more) (items ++ others)
  join words items more others on end = before_end has only d t words items more others on end

  abbrev and_on : (words : List Bytes) (items : List (Item ArgKind)) (more : List Bytes) (others : List (Item ArgKind)) → Reads-on words items → Reads-on more others → Reads-on (words ++ more) (items ++ others)
  and_on words items more others on next = both_on has only d t words items more others on next

  own_on : (words : List Bytes) (items : List (Item ArgKind)) → AreReadAs d t words items → Reads-on words items
  own_on words items read rest = record { found = items; reads = read rest; alike = refl }

  color_on : (has_option : Bool) → Reads-on (color_words kind has_option) (color_items kind has_option)
  color_on true = none_on has only d t
  color_on false = own_on _ _ own.color

  when_on : (holds : Bool) (name : Bytes) (k : ArgKind) (value : Bytes) → (holds ≡ true → AreReadAs d t (option_words name value) (option_item name k value ∷ [])) → Reads-on (when_words holds name value) (when_items holds name k value)
  when_on false name k value h = none_on has only d t
  when_on true name k value h = own_on _ _ (h refl)

  writes : (s asked lacks : Bool) → ((s && asked) && lacks) ≡ true → s ≡ true
  writes true asked lacks h = refl
  writes false asked lacks h = h

  added_on : (o : DependencyOptions) (path : Option Bytes) → Reads-on (added_words kind o path) (added_items kind o path)
  added_on o None = none_on has only d t
  added_on o (Some path) = both_on has only d t (when_words (lacks_path kind o) (codes "-MF") (beside path)) (when_items (lacks_path kind o) (codes "-MF") DepArgumentPath (beside path)) (when_words (lacks_target kind o) (codes "-MT") path) (when_items (lacks_target kind o) (codes "-MT") DepTarget path)
      (when_on (lacks_path kind o) (codes "-MF") DepArgumentPath (beside path) (λ h. own.dependency_path (writes (writes_dependencies kind) o.asked (not o.path) h) (beside path)))
      (when_on (lacks_target kind o) (codes "-MT") DepTarget path (λ h. own.dependency_target (writes (writes_dependencies kind) o.asked (not o.target) h) path))

  -- the input among the options, and after them
  front_on : (after : Bool) (input : Bytes) → IsSafeBy d t after input → Reads-on (front_words after input) (front_items after input)
  front_on true input safe = none_on has only d t
  front_on false input (inl h) = absurd (clash h.0)
    where
      clash : false ≡ true → ⊥
      clash h = cc
  front_on false input (inr h) = alone_on has only d t input (raw input) h.1

  ends_there : d ≡ true → first_word d t (codes "--") ≡ ends
  ends_there h = ap (λ s. first_word s t (codes "--")) h

  after_end : (after : Bool) (input : Bytes) → IsSafeBy d t after input → Ends-at (after_words after input) (after_items after input)
  after_end false input safe = none_end has only d t
  after_end true input (inl h) = dashes_end has only d t (codes "--") input (ends_there h.1)
  after_end true input (inr h) = absurd (clash h.0)
    where
      clash : true ≡ false → ⊥
      clash h = cc

  module _ (p : ParsedArguments) (words : List Bytes) (asks_this : parse_of kind words ≡ asks p) (full : p.empty_value ≡ false) (safe : HasSafeInput kind p) where
    abbrev items : List (Item ArgKind)
    items = (reading_of kind words).items

    of : Asked (facts_of t items) (lists_of items) p
    of = asked kind t (reading_of kind words) p asks_this

    none_empty : list_any (is_empty_j t) items ≡ false
    none_empty = ap (λ (q : ParsedArguments). q.empty_value) of.is ∙ full

    options_on : (list : OptionList) → is_same_list lists.Nowhere list ≡ false → Reads-on (words_of (wanted list items)) (wanted list items)
    options_on list some = list_on has only d t together (wanted list items) (wanted_again has only d t list some items (again d t own.clear own.dashed words) none_empty)

    preprocessor_on : Reads-on p.preprocessor_args (wanted lists.Preprocessor items)
    preprocessor_on = subst (λ ws. Reads-on ws (wanted lists.Preprocessor items)) (ap (λ (q : ParsedArguments). q.preprocessor_args) of.is) (options_on lists.Preprocessor refl)

    dependency_on : Reads-on p.dependency_args (wanted lists.Dependency items)
    dependency_on = subst (λ ws. Reads-on ws (wanted lists.Dependency items)) (ap (λ (q : ParsedArguments). q.dependency_args) of.is) (options_on lists.Dependency refl)

    unhashed_on : Reads-on p.unhashed_args (wanted lists.Unhashed items)
    unhashed_on = subst (λ ws. Reads-on ws (wanted lists.Unhashed items)) (ap (λ (q : ParsedArguments). q.unhashed_args) of.is) (options_on lists.Unhashed refl)

    common_on : Reads-on p.common_args (wanted lists.Common items)
    common_on = subst (λ ws. Reads-on ws (wanted lists.Common items)) (ap (λ (q : ParsedArguments). q.common_args) of.is) (options_on lists.Common refl)

    arch_on : Reads-on p.arch_args (wanted lists.Arch items)
    arch_on = subst (λ ws. Reads-on ws (wanted lists.Arch items)) (ap (λ (q : ParsedArguments). q.arch_args) of.is) (options_on lists.Arch refl)

    reads_as : (command : List Bytes) (expected : List (Item ArgKind)) → Ends-at command expected → ReadsAs kind command expected
    reads_as command expected e = record {
      items = ap (λ (r : Reading ArgKind). map normal r.items) e.reads ∙ e.alike;
      whole = ap (λ (r : Reading ArgKind). r.cut_short) e.reads;
    }

    pub compile_again : (path : Bytes) → ReadsAs kind (compile_words kind p path) (compile_items kind p path items)
    compile_again path = reads_as (compile_words kind p path) (compile_items kind p path items)
        (join _ _ _ _
        (and_on _ _ _ _ (and_on _ _ _ _ (and_on _ _ _ _ (and_on _ _ _ _ (and_on _ _ _ _ (and_on _ _ _ _ (and_on _ _ _ _ (and_on _ _ _ _ (own_on _ _ (own.language p.language))
        (own_on _ _ own.compile))
        (front_on p.double_dash_input p.input safe))
        (own_on _ _ (own.output path)))
        (color_on p.has_color_option))
        preprocessor_on)
        unhashed_on)
        common_on)
        arch_on)
        (after_end p.double_dash_input p.input safe))

    pub preprocess_again : ReadsAs kind (preprocess_words kind p) (preprocess_items kind p items)
    preprocess_again = reads_as (preprocess_words kind p) (preprocess_items kind p items)
        (join _ _ _ _
        (and_on _ _ _ _ (and_on _ _ _ _ (and_on _ _ _ _ (and_on _ _ _ _ (and_on _ _ _ _ (and_on _ _ _ _ (and_on _ _ _ _ (own_on _ _ (own.language p.language))
        (own_on _ _ own.preprocess))
        (front_on p.double_dash_input p.input safe))
        preprocessor_on)
        dependency_on)
        (added_on p.dependencies (object_path p)))
        common_on)
        arch_on)
        (after_end p.double_dash_input p.input safe))
