-- Laws of what is gathered.
use Rattle.std.proofs.Common.{◌≡◌, Bool, true, false, ◌||◌, List, [], ◌∷◌, ◌++◌, Option, Some, None, Err, refl, ap, sym, ◌∙◌, append_assoc, arith}
use Rattle.std.proofs.lemmas.List.{append-nil}
use Rattle.std.proofs.lemmas.List.Concat.{flat_map-append}
use Rattle.std.proofs.lemmas.List.Elements.{filter-append}
use Rattle.std.specs.Prelude.{find}
use Rattle.std.specs.List.{flat_map, list_any}
use Rattle.std.specs.Option.{option_to_list}
use Rattle.base_files.specs.Bytes.{Bytes}
use Rattle.cmdlines_base.specs.Cutting.{Place, reading_at}
use Rattle.cmdlines_base.specs.Printing.{is_empty_j, words_of}
use Rattle.cmdlines_base.specs.Reading.{Item, Reading, raw, unknown, flag, valued, after_dashes, before, nothing}
use Rattle.cmdlines_base.specs.Table.{Entry}
use Rattle.cmdlines_base.specs.Refusal.{Refusal}
use Rattle.cmdlines_base.specs.Values.{Steps, refusal_of, values_by}
use Rattle.cmdlines_base.specs.declared.argument_error.ArgParseError.{ArgParseError}
use Rattle.cmdlines_base.specs.declared.argument_error.ArgParseError.TheVariants.{UnexpectedEndOfArgs, InvalidUnicode, Other, Memory}
use Rattle.cmdlines_tables.specs.Kinds.{is_compile, is_output, is_arch, is_diagnostics, is_extra_file, asks_dependencies, is_dependency_path, is_dependency_target}
use Rattle.cmdlines_tables.specs.Values.{IsFlag, IsValue, never}
use Rattle.cmdlines_tables.specs.declared.compiler.CCompilerKind.{CCompilerKind}
use Rattle.cmdlines_tables.specs.declared.kind.ArgKind.{ArgKind}
use Rattle.cmdlines_tables.specs.declared.kind.OptionList.{OptionList}
use Rattle.cmdlines_tables.specs.declared.kind.OptionList.TheVariants as lists
use Rattle.cmdlines.specs.Collecting.{no_facts, no_lists, facts_with, lists_with, decide}
use Rattle.cmdlines.specs.Parsing.{decision_on, decided, refused, closing}
use Rattle.cmdlines.specs.Wanted.{has_kind, word_in, color_in, language_in, blocker_in, input_in, last_of, first_of, is_wanted, wanted, wanted_words, is_hard, flag_of, facts_of, lists_of}
use Rattle.cmdlines_base.specs.Choices.{later, sooner}
use Rattle.cmdlines.specs.declared.facts.Facts.{Facts}
use Rattle.cmdlines.specs.declared.lists.Lists.{Lists}

never_refused : (item : Item ArgKind) (why : Refusal) → refusal_of (values_by IsFlag IsValue never) item ≡ Some why → ⊥
never_refused (raw w) why h = cc
never_refused (unknown w) why h = cc
never_refused (flag f k) why h = cc
never_refused (valued f k w d) why h = cc
never_refused (after_dashes w) why h = cc

-- words that can't be cut, and no value is refused: they end where a value should come
pub cut_short : (table : List (Entry ArgKind)) (old new : Place) (error : ArgParseError) → Steps (values_by IsFlag IsValue never) table old (Some (Err error)) new → (error ≡ Memory → ⊥) → reading_at table old ≡ record { items = []; cut_short = true }
cut_short table old new UnexpectedEndOfArgs h other = h.0
cut_short table old new Memory h other = absurd (other refl)
cut_short table old new (InvalidUnicode w) h other = absurd (never_refused h.0.item _ h.0.refused.0)
cut_short table old new (Other t) h other = absurd (never_refused h.0.item _ h.0.refused)

flat_map-more : {X Y : Type 0} (f : X → List Y) (start : List Y) (x : X) (xs : List X) → (start ++ flat_map f (x ∷ [])) ++ flat_map f xs ≡ start ++ flat_map f (x ∷ xs)
flat_map-more {X} {Y} f start x xs = append_assoc start (flat_map f (x ∷ [])) (flat_map f xs) ∙ ap (λ (t : List Y). start ++ t) (sym (flat_map-append f (x ∷ []) xs))

wanted-more : (list : OptionList) (start : List Bytes) (x : Item ArgKind) (xs : List (Item ArgKind)) → (start ++ wanted_words list (x ∷ [])) ++ wanted_words list xs ≡ start ++ wanted_words list (x ∷ xs)
wanted-more list start x xs = append_assoc start (wanted_words list (x ∷ [])) (wanted_words list xs)
    ∙ ap (λ (t : List Bytes). start ++ t) (sym (flat_map-append _ (wanted list (x ∷ [])) (wanted list xs)) ∙ ap words_of (sym (filter-append (is_wanted list) (x ∷ []) xs)))

any-more : {X : Type 0} (p : X → Bool) (start : Bool) (x : X) (xs : List X) → ((start || list_any p (x ∷ [])) || list_any p xs) ≡ (start || list_any p (x ∷ xs))
any-more p start x xs = grind arith

any-none : (start : Bool) → (start || false) ≡ start
any-none true = refl
any-none false = refl

later-assoc : {X : Type 0} (a b c : Option X) → later (later a b) c ≡ later a (later b c)
later-assoc a b None = refl
later-assoc a b (Some v) = refl

sooner-assoc : {X : Type 0} (a b c : Option X) → sooner (sooner a b) c ≡ sooner a (sooner b c)
sooner-assoc None b c = refl
sooner-assoc (Some v) b c = refl

sooner-none : {X : Type 0} (a : Option X) → sooner a None ≡ a
sooner-none None = refl
sooner-none (Some v) = refl

none-later : {X : Type 0} (a : Option X) → later None a ≡ a
none-later None = refl
none-later (Some v) = refl

last_of-more : {X : Type 0} (says : Item ArgKind → Option X) (start : Option X) (x : Item ArgKind) (xs : List (Item ArgKind)) → later (later start (last_of says (x ∷ []))) (last_of says xs) ≡ later start (last_of says (x ∷ xs))
last_of-more says start x xs = later-assoc start (says x) (last_of says xs)

first_of-more : {X : Type 0} (says : Item ArgKind → Option X) (start : Option X) (x : Item ArgKind) (xs : List (Item ArgKind)) → sooner (sooner start (first_of says (x ∷ []))) (first_of says xs) ≡ sooner start (first_of says (x ∷ xs))
first_of-more says start x xs = ap (λ s. sooner (sooner start s) (first_of says xs)) (sooner-none (says x)) ∙ sooner-assoc start (says x) (first_of says xs)

-- one item and then the others
facts_with-more : (table : List (Entry ArgKind)) (f : Facts) (a : Item ArgKind) (rest : List (Item ArgKind)) → facts_with table (facts_with table f (a ∷ [])) rest ≡ facts_with table f (a ∷ rest)
facts_with-more table f a rest = λ i. record {
  compiles = any-more (has_kind is_compile) f.compiles a rest i;
  output = last_of-more (word_in is_output) f.output a rest i;
  language = last_of-more language_in f.language a rest i;
  diagnostics = last_of-more (word_in is_diagnostics) f.diagnostics a rest i;
  color = last_of-more color_in f.color a rest i;
  blocker = first_of-more blocker_in f.blocker a rest i;
  dependencies = record {
    asked = any-more (has_kind asks_dependencies) f.dependencies.asked a rest i;
    path = any-more (has_kind is_dependency_path) f.dependencies.path a rest i;
    target = any-more (has_kind is_dependency_target) f.dependencies.target a rest i;
  };
  empty_value = any-more (is_empty_j table) f.empty_value a rest i;
}

lists_with-more : (l : Lists) (a : Item ArgKind) (rest : List (Item ArgKind)) → lists_with (lists_with l (a ∷ [])) rest ≡ lists_with l (a ∷ rest)
lists_with-more l a rest = λ i. record {
  inputs = flat_map-more input_in l.inputs a rest i;
  preprocessor = wanted-more lists.Preprocessor l.preprocessor a rest i;
  dependency = wanted-more lists.Dependency l.dependency a rest i;
  unhashed = wanted-more lists.Unhashed l.unhashed a rest i;
  common = wanted-more lists.Common l.common a rest i;
  arch = wanted-more lists.Arch l.arch a rest i;
  architectures = flat_map-more (λ item. option_to_list (word_in is_arch item)) l.architectures a rest i;
  extra_files = flat_map-more (λ item. option_to_list (word_in is_extra_file item)) l.extra_files a rest i;
}

facts_with-none : (table : List (Entry ArgKind)) (f : Facts) → facts_with table f [] ≡ f
facts_with-none table f = λ i. record {
  compiles = any-none f.compiles i;
  output = f.output;
  language = f.language;
  diagnostics = f.diagnostics;
  color = f.color;
  blocker = sooner-none f.blocker i;
  dependencies = record {
    asked = any-none f.dependencies.asked i;
    path = any-none f.dependencies.path i;
    target = any-none f.dependencies.target i;
  };
  empty_value = any-none f.empty_value i;
}

lists_with-none : (l : Lists) → lists_with l [] ≡ l
lists_with-none l = λ i. record {
  inputs = append-nil l.inputs i;
  preprocessor = append-nil l.preprocessor i;
  dependency = append-nil l.dependency i;
  unhashed = append-nil l.unhashed i;
  common = append-nil l.common i;
  arch = append-nil l.arch i;
  architectures = append-nil l.architectures i;
  extra_files = append-nil l.extra_files i;
}

facts-start : (table : List (Entry ArgKind)) (items : List (Item ArgKind)) → facts_with table no_facts items ≡ facts_of table items
facts-start table items = λ i. record {
  compiles = list_any (has_kind is_compile) items;
  output = none-later (last_of (word_in is_output) items) i;
  language = none-later (last_of language_in items) i;
  diagnostics = none-later (last_of (word_in is_diagnostics) items) i;
  color = none-later (last_of color_in items) i;
  blocker = first_of blocker_in items;
  dependencies = record {
    asked = list_any (has_kind asks_dependencies) items;
    path = list_any (has_kind is_dependency_path) items;
    target = list_any (has_kind is_dependency_target) items;
  };
  empty_value = list_any (is_empty_j table) items;
}

-- before anything is gathered all is left
pub decide-start : (kind : CCompilerKind) (table : List (Entry ArgKind)) (r : Reading ArgKind) → decide kind table no_facts no_lists r ≡ decision_on kind table r
decide-start kind table r = ap (λ f. decided kind (find (is_hard kind) r.items) r.cut_short f (lists_of r.items)) (facts-start table r.items)

-- an item that isn't too hard is gathered
pub decide-more : (kind : CCompilerKind) (table : List (Entry ArgKind)) (f : Facts) (l : Lists) (a : Item ArgKind) (r : Reading ArgKind) → is_hard kind a ≡ false → decide kind table (facts_with table f (a ∷ [])) (lists_with l (a ∷ [])) r ≡ decide kind table f l (before a r)
decide-more kind table f l a r h = rw (facts_with-more table f a r.items, lists_with-more l a r.items, h) refl

-- one that is decides
pub decide-hard : (kind : CCompilerKind) (table : List (Entry ArgKind)) (f : Facts) (l : Lists) (a : Item ArgKind) (r : Reading ArgKind) → is_hard kind a ≡ true → decide kind table f l (before a r) ≡ refused (flag_of a)
decide-hard kind table f l a r h = rw h refl

-- at the end the closing table does
pub decide-end : (kind : CCompilerKind) (table : List (Entry ArgKind)) (f : Facts) (l : Lists) → decide kind table f l nothing ≡ closing kind f l
decide-end kind table f l = ap (λ g. closing kind g (lists_with l [])) (facts_with-none table f) ∙ ap (λ m. closing kind f m) (lists_with-none l)
