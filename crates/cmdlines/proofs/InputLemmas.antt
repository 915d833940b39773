-- The input of words that ask for something can be placed where it's written.
use Rattle.std.proofs.Common.{◌≡◌, ◌⊎◌, Bool, true, false, cond, ◌&&◌, ◌||◌, ◌==◌, List, [], ◌∷◌, ◌++◌, length, Option, Some, None, map, refl, ap, subst, ◌∙◌, inl, inr}
use Rattle.std.specs.Prelude.{codes, find, unwrap_or, is_some, nat_lt}
use Rattle.std.specs.List.{AllByRecursion, flat_map, list_any}
use Rattle.std.specs.Option.{option_map, option_to_list}
use Rattle.base_files.specs.Bytes.{Bytes}
use Rattle.cmdlines_base.specs.Reading.{Item, raw, unknown, flag, valued, after_dashes, Start, whole, awaits, ends, Reading, loose, start_as, start_either, first_by, first_word, is_double_dash, from_last, from_first, unfinished, reading}
use Rattle.cmdlines_base.specs.Table.{Entry, after, fits, longer, longest_fit}
use Rattle.cmdlines_base.specs.declared.argument.ArgDisposition.{ArgDisposition}
use Rattle.cmdlines_base.specs.declared.argument.ArgDisposition.TheVariants.{Separated, CanBeConcatenated, CanBeSeparated, Concatenated}
use Rattle.cmdlines_base.specs.declared.command.ArtifactDescriptor.{ArtifactDescriptor}
use Rattle.cmdlines_tables.specs.Kinds.{gives_input}
use Rattle.cmdlines_tables.specs.Tables.{entries_of, ends_options, reading_of}
use Rattle.cmdlines_tables.specs.declared.compiler.CCompilerKind.{CCompilerKind}
use Rattle.cmdlines_tables.specs.declared.compiler.CCompilerKind.TheVariants.{Msvc}
use Rattle.cmdlines_tables.specs.declared.kind.ArgKind.{ArgKind}
use Rattle.cmdlines_tables.specs.declared.language.Language.{Language}
use Rattle.cmdlines.specs.Commands.{object_path, HasObjectIn}
use Rattle.cmdlines_tables.specs.Small.{output_named}
use Rattle.cmdlines.specs.Parsing.{outputs_at, asks, refused, not_compilation, differ, known_language, output_for, with_output, with_language, with_inputs, decided, decision_on, parse_of, parsed_from, IsSafeBy, HasSafeInput, HasSafeInputIn, IsGivenByOption}
use Rattle.cmdlines_tables.specs.Small.{object_name}
use Rattle.cmdlines.specs.Wanted.{facts_of, lists_of, has_kind, input_at, input_in, is_hard}
use Rattle.cmdlines.specs.declared.facts.Facts.{Facts}
use Rattle.cmdlines.specs.declared.lists.Input.{Input}
use Rattle.cmdlines.specs.declared.lists.Lists.{Lists}
use Rattle.cmdlines_tables.specs.declared.parsed.ParsedArguments.{ParsedArguments}

some_same : {X : Type 0} {x y : X} → Some x ≡ Some y → x ≡ y
some_same h = cc

-- What the facts and the lists were, where they ask for this.
pub record Asked (f : Facts) (l : Lists) (p : ParsedArguments) : Type 0 where
  pub input : Input
  pub language : Language
  pub path : Bytes
  pub one : l.inputs ≡ input ∷ []
  pub is : parsed_from f l input language path ≡ p

module _ (kind : CCompilerKind) where
  output_asked : (f : Facts) (l : Lists) (i : Input) (g : Language) (o : Option Bytes) (p : ParsedArguments) → l.inputs ≡ i ∷ [] → with_output f l i g o ≡ asks p → Asked f l p
  output_asked f l i g None p e h = cc
  output_asked f l i g (Some o) p e h = record { input = i; language = g; path = o; one = e; is = cc }

  language_asked : (f : Facts) (l : Lists) (i : Input) (g : Option Language) (p : ParsedArguments) → l.inputs ≡ i ∷ [] → with_language kind f l i g ≡ asks p → Asked f l p
  language_asked f l i None p e h = cc
  language_asked f l i (Some g) p e h = by (differ l.architectures) h
    where
      by : (s : Bool) → cond s (refused (codes "multiple different -arch")) (with_output f l i g (output_for kind f.output i.word)) ≡ asks p → Asked f l p
      by true q = cc
      by false q = output_asked f l i g (output_for kind f.output i.word) p e q

  inputs_asked : (f : Facts) (l : Lists) (inputs : List Input) (p : ParsedArguments) → l.inputs ≡ inputs → with_inputs kind f l inputs ≡ asks p → Asked f l p
  inputs_asked f l [] p e h = cc
  inputs_asked f l (i ∷ j ∷ js) p e h = cc
  inputs_asked f l (i ∷ []) p e h = language_asked f l i (known_language kind f.language i.word) p e h

  closing_asked : (f : Facts) (l : Lists) (p : ParsedArguments) (s : Bool) → cond s (with_inputs kind f l l.inputs) not_compilation ≡ asks p → Asked f l p
  closing_asked f l p true h = inputs_asked f l l.inputs p refl h
  closing_asked f l p false h = cc

  decided_asked : (o : Option (Item ArgKind)) (cut : Bool) (f : Facts) (l : Lists) (p : ParsedArguments) → decided kind o cut f l ≡ asks p → Asked f l p
  decided_asked (Some a) cut f l p h = cc
  decided_asked None true f l p h = cc
  decided_asked None false f l p h = closing_asked f l p f.compiles h

  pub asked : (table : List (Entry ArgKind)) (r : Reading ArgKind) (p : ParsedArguments) → decision_on kind table r ≡ asks p → Asked (facts_of table r.items) (lists_of r.items) p
  asked table r p h = decided_asked (find (is_hard kind) r.items) r.cut_short (facts_of table r.items) (lists_of r.items) p h

-- the object is among the outputs, beside the messages for tools or alone
object_among : (messages : Option Bytes) (path : Bytes) → is_some (output_named object_name (outputs_at messages path)) ≡ true
object_among None path = refl
object_among (Some messages) path = refl

is_some-map : {X Y : Type 0} (f : X → Y) (o : Option X) → is_some o ≡ true → is_some (option_map f o) ≡ true
is_some-map f None h = h
is_some-map f (Some x) h = refl

pub object_there : (kind : CCompilerKind) (words : List Bytes) → HasObjectIn (parse_of kind words)
object_there kind words p h =
    let r : Reading ArgKind = reading_of kind words in
    let f : Facts = facts_of (entries_of kind) r.items in
    let a : Asked f (lists_of r.items) p = asked kind (entries_of kind) r p h in
    is_some-map (λ (o : ArtifactDescriptor). o.path) (output_named object_name p.outputs)
    (subst (λ (q : ParsedArguments). is_some (output_named object_name q.outputs) ≡ true) a.is (object_among f.diagnostics a.path))

-- the entry that a word has is in the table
module _ (test : ArgKind → Bool) where
  abbrev Has : List (Entry ArgKind) → Type 0
  Has t = list_any (λ (e : Entry ArgKind). test e.kind) t ≡ true

  has_first : (x : Entry ArgKind) (xs : List (Entry ArgKind)) → test x.kind ≡ true → Has (x ∷ xs)
  has_first x xs h = rw h refl

  has_rest : (x : Entry ArgKind) (xs : List (Entry ArgKind)) → Has xs → Has (x ∷ xs)
  has_rest x xs h = by (test x.kind)
    where
      by : (s : Bool) → (s || list_any (λ (e : Entry ArgKind). test e.kind) xs) ≡ true
      by true = refl
      by false = h

  fit_among : (t : List (Entry ArgKind)) (word : Bytes) (e : Entry ArgKind) → longest_fit t word ≡ Some e → test e.kind ≡ true → Has t
  fit_among [] word e h of = cc
  fit_among (x ∷ xs) word e h of = by (λ y at g. fit_among xs word y at g) (fits x word) (longest_fit xs word) refl h
    where
      here : x ≡ e → Has (x ∷ xs)
      here same = has_first x xs (ap (λ (y : Entry ArgKind). test y.kind) same ∙ of)

      there : ((y : Entry ArgKind) → longest_fit xs word ≡ Some y → test y.kind ≡ true → Has xs) → (y : Entry ArgKind) → longest_fit xs word ≡ Some y → y ≡ e → Has (x ∷ xs)
      there among y at same = has_rest x xs (among y at (ap (λ (z : Entry ArgKind). test z.kind) same ∙ of))

      between : ((y : Entry ArgKind) → longest_fit xs word ≡ Some y → test y.kind ≡ true → Has xs) → (y : Entry ArgKind) → longest_fit xs word ≡ Some y → (b : Bool) → cond b (Some x) (Some y) ≡ Some e → Has (x ∷ xs)
      between among y at true q = here (some_same q)
      between among y at false q = there among y at (some_same q)

      by : ((y : Entry ArgKind) → longest_fit xs word ≡ Some y → test y.kind ≡ true → Has xs) → (s : Bool) (o : Option (Entry ArgKind)) → longest_fit xs word ≡ o → longer (cond s (Some x) None) o ≡ Some e → Has (x ∷ xs)
      by among true None at q = here (some_same q)
      by among false None at q = cc
      by among true (Some y) at q = between among y at (nat_lt (length y.flag) (length x.flag)) q
      by among false (Some y) at q = there among y at (some_same q)

module _ (d : Bool) (t : List (Entry ArgKind)) where
  -- a loose word is one that the table makes nothing else of, none comes after double dashes unless these end the options, and an option that gives an input is of the table
  abbrev Gives : ArgKind → Type 0
  Gives k = gives_input k ≡ true → Has gives_input t

  abbrev IsSafe : Item ArgKind → Type 0
  IsSafe (raw w) = first_word d t w ≡ whole (raw w)
  IsSafe (unknown w) = Unit {0}
  IsSafe (flag f k) = Gives k
  IsSafe (valued f k v e) = Gives k
  IsSafe (after_dashes w) = d ≡ true

  -- what a word can be by itself
  abbrev IsOfWord : Bytes → Item ArgKind → Type 0
  IsOfWord word (raw w) = w ≡ word
  IsOfWord word (unknown w) = Unit {0}
  IsOfWord word (flag f k) = Gives k
  IsOfWord word (valued f k v e) = Gives k
  IsOfWord word (after_dashes w) = ⊥

  abbrev StartsOf : Bytes → Start ArgKind → Type 0
  StartsOf word (whole a) = IsOfWord word a
  StartsOf word (awaits f k e) = Gives k
  StartsOf word ends = d ≡ true

  loose_of : (word : Bytes) → IsOfWord word (loose word)
  loose_of [] = refl
  loose_of (b ∷ bs) = by (b == 45)
    where
      by : (s : Bool) → IsOfWord (b ∷ bs) (cond s (unknown (b ∷ bs)) (raw (b ∷ bs)))
      by true = tt
      by false = refl

  either_of : (word f : Bytes) (k : ArgKind) (e : _) (rest : Bytes) → Gives k → StartsOf word (start_either f k e rest)
  either_of word f k e [] g = g
  either_of word f k e (b ∷ bs) g = g

  start_of : (word f : Bytes) (k : ArgKind) (takes : Option ArgDisposition) (rest : Bytes) → Gives k → StartsOf word (start_as f k takes rest)
  start_of word f k None rest g = g
  start_of word f k (Some Separated) rest g = g
  start_of word f k (Some (Concatenated e)) rest g = g
  start_of word f k (Some (CanBeConcatenated e)) rest g = either_of word f k e rest g
  start_of word f k (Some (CanBeSeparated e)) rest g = either_of word f k e rest g

  entry_of : (word : Bytes) (o : Option (Entry ArgKind)) → longest_fit t word ≡ o → StartsOf word (first_by o word)
  entry_of word None h = loose_of word
  entry_of word (Some e) h = start_of word e.flag e.kind e.takes (unwrap_or (after e.flag word) []) (fit_among gives_input t word e h)

  dash_of : (word : Bytes) (s : Bool) → (s ≡ true → d ≡ true) → StartsOf word (cond s ends (first_by (longest_fit t word) word))
  dash_of word true h = h refl
  dash_of word false h = entry_of word (longest_fit t word) refl

  first_of : (word : Bytes) → StartsOf word (first_word d t word)
  first_of word = dash_of word (d && is_double_dash word) (λ h. both d h)
    where
      both : (s : Bool) → (s && is_double_dash word) ≡ true → s ≡ true
      both true h = refl
      both false h = h

  item_safe : (word : Bytes) (a : Item ArgKind) → first_word d t word ≡ whole a → IsOfWord word a → IsSafe a
  item_safe word (raw w) h of = ap (λ x. first_word d t x) of ∙ h
  item_safe word (unknown w) h of = tt
  item_safe word (flag f k) h of = of
  item_safe word (valued f k v e) h of = of
  item_safe word (after_dashes w) h of = absurd of

  after_safe : d ≡ true → (words : List Bytes) → AllByRecursion IsSafe (map after_dashes words)
  after_safe h [] = tt
  after_safe h (w ∷ words) = (h, after_safe h words)

  unfinished_safe : (f : Bytes) (k : ArgKind) (e : ArgDisposition) → Gives k → AllByRecursion IsSafe (unfinished f k e).items
  unfinished_safe f k Separated g = tt
  unfinished_safe f k (CanBeConcatenated None) g = (g, tt)
  unfinished_safe f k (CanBeConcatenated (Some e)) g = tt
  unfinished_safe f k (CanBeSeparated e) g = tt
  unfinished_safe f k (Concatenated e) g = tt

  last_safe : (word : Bytes) (s : Start ArgKind) → first_word d t word ≡ s → StartsOf word s → AllByRecursion IsSafe (from_last s).items
  last_safe word (whole a) h of = (item_safe word a h of, tt)
  last_safe word (awaits f k e) h of = unfinished_safe f k e of
  last_safe word ends h of = tt

  step_safe : (word next : Bytes) (words : List Bytes) (s : Start ArgKind) → first_word d t word ≡ s → StartsOf word s → AllByRecursion IsSafe (reading d t (next ∷ words)).items → AllByRecursion IsSafe (reading d t words).items → AllByRecursion IsSafe (from_first s next words (reading d t (next ∷ words)) (reading d t words)).items
  step_safe word next words (whole a) h of one two = (item_safe word a h of, one)
  step_safe word next words (awaits f k e) h of one two = (of, two)
  step_safe word next words ends h of one two = after_safe of (next ∷ words)

  reading_safe : (words : List Bytes) → AllByRecursion IsSafe (reading d t words).items
  reading_safe [] = tt
  reading_safe (word ∷ []) = last_safe word (first_word d t word) refl (first_of word)
  reading_safe (word ∷ next ∷ words) = step_safe word next words (first_word d t word) refl (first_of word) (reading_safe (next ∷ words)) (reading_safe words)

  -- where an option gave an input, the table has one that does
  abbrev is_given : List (Item ArgKind) → Bool
  is_given items = list_any (has_kind gives_input) items

  either_given : (k : ArgKind) (items : List (Item ArgKind)) → (s : Bool) → gives_input k ≡ s → Gives k → (is_given items ≡ true → Has gives_input t) → (s || is_given items) ≡ true → Has gives_input t
  either_given k items true at g rest h = g at
  either_given k items false at g rest h = rest h

  table_gives : (items : List (Item ArgKind)) → AllByRecursion IsSafe items → is_given items ≡ true → Has gives_input t
  table_gives [] all h = cc
  table_gives (raw w ∷ items) all h = table_gives items all.1 h
  table_gives (unknown w ∷ items) all h = table_gives items all.1 h
  table_gives (flag f k ∷ items) all h = either_given k items (gives_input k) refl all.0 (table_gives items all.1) h
  table_gives (valued f k v e ∷ items) all h = either_given k items (gives_input k) refl all.0 (table_gives items all.1) h
  table_gives (after_dashes w ∷ items) all h = table_gives items all.1 h

  -- and where none did, each input can be placed where it's written
  abbrev IsSafeInput : Input → Type 0
  IsSafeInput i = IsSafeBy d t i.after_dashes i.word

  given_safe : (k : ArgKind) (v : Bytes) (items : List (Item ArgKind)) (s : Bool) → (s || is_given items) ≡ false → (is_given items ≡ false → AllByRecursion IsSafeInput (flat_map input_in items)) → AllByRecursion IsSafeInput (option_to_list (cond s (Some (input_at v false)) None) ++ flat_map input_in items)
  given_safe k v items true h rest = cc
  given_safe k v items false h rest = rest h

  inputs_safe : (items : List (Item ArgKind)) → AllByRecursion IsSafe items → is_given items ≡ false → AllByRecursion IsSafeInput (flat_map input_in items)
  inputs_safe [] all h = tt
  inputs_safe (raw w ∷ items) all h = (inr (refl, all.0), inputs_safe items all.1 h)
  inputs_safe (unknown w ∷ items) all h = inputs_safe items all.1 h
  inputs_safe (flag f k ∷ items) all h = given_safe k [] items (gives_input k) h (inputs_safe items all.1)
  inputs_safe (valued f k v e ∷ items) all h = given_safe k v items (gives_input k) h (inputs_safe items all.1)
  inputs_safe (after_dashes w ∷ items) all h = (inl (refl, all.0), inputs_safe items all.1 h)

pub input_safe : ((kind : CCompilerKind) → Has gives_input (entries_of kind) → kind ≡ Msvc) → (kind : CCompilerKind) (words : List Bytes) → HasSafeInputIn kind words (parse_of kind words)
input_safe msvc_gives kind words p h = by (is_given (ends_options kind) (entries_of kind) (reading_of kind words).items) refl
  where
    a : Asked (facts_of (entries_of kind) (reading_of kind words).items) (lists_of (reading_of kind words).items) p
    a = asked kind (entries_of kind) (reading_of kind words) p h

    by : (s : Bool) → is_given (ends_options kind) (entries_of kind) (reading_of kind words).items ≡ s → HasSafeInput kind p ⊎ IsGivenByOption kind words
    by true given = inr (msvc_gives kind (table_gives (ends_options kind) (entries_of kind) (reading_of kind words).items (reading_safe (ends_options kind) (entries_of kind) words) given), given)
    by false none =
        let d = ends_options kind in
        let t = entries_of kind in
        let all : AllByRecursion (IsSafeInput d t) (a.input ∷ []) = subst (AllByRecursion (IsSafeInput d t)) a.one (inputs_safe d t (reading_of kind words).items (reading_safe d t words) none) in
        inl (subst (λ (q : ParsedArguments). IsSafeBy d t q.double_dash_input q.input) a.is all.0)
