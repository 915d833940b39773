-- What decides first.
use Rattle.std.proofs.Common.{◌≡◌, Bool, true, false, List, [], ◌∷◌, ◌++◌, Option, Some, None, map, not, ◌&&◌, refl, ap, sym, ◌∙◌, append-nil, cond}
use Rattle.std.specs.Bool.{if◌then◌else◌}
use Rattle.std.specs.Option.{is_some, option_map}
use Rattle.std.specs.Prelude.{codes}
use Rattle.std.specs.Str.{bytes_eq}
use Rattle.std.proofs.lemmas.Bool.{false≢true}
use Rattle.base_files.specs.Bytes.{Bytes}
use Rattle.base_files.specs.Tree.{Tree}
use Rattle.cmdlines_base.specs.Choices.{sooner}
use Rattle.cmdlines_base.specs.Reading.{Item, Reading}
use Rattle.rustc_options.specs.declared.data.ArgData.{ArgData}
use Rattle.rustc_options.specs.declared.data.ArgData.TheVariants as values
use Rattle.rustc_options.specs.declared.kind.ArgKind.{ArgKind}
use Rattle.rustkeys_base.specs.Facts.{facts_of, facts_with, no_facts}
use Rattle.rustkeys_base.specs.Saying.{Token, loose, says, unread, token_of}
use Rattle.rustkeys_base.specs.Parsing.{Decision, asks, not_compilation, cannot_cache, closing, codegen_decides, decides, decides_after, decision_on, first_given, is_misread, is_unsure, not_parsed, other_types, second_input, unless_decided}
use Rattle.rustkeys_base.specs.declared.facts.Facts.{Facts}
use Rattle.rustkeys_base.specs.Deciders.{NoneDecides}
use Rattle.rustkeys_base.proofs.FactLemmas.{facts-more, facts-none, facts-of}
use Rattle.rustkeys_base.proofs.ParsingLemmas.{decision_from}

abbrev is_asks : Decision → Bool
is_asks asks = true
is_asks not_compilation = false
is_asks (cannot_cache reason more) = false

abbrev asks_in : Option Decision → Bool
asks_in None = false
asks_in (Some decision) = is_asks decision

either : (b : Bool) (o p : Option Decision) → asks_in o ≡ false → asks_in p ≡ false → asks_in (cond b o p) ≡ false
either true o p h k = h
either false o p h k = k

types-refuse : (names : List Bytes) → asks_in (other_types names) ≡ false
types-refuse [] = refl
types-refuse (name ∷ names) = refl

codegen-refuses : (opt : Bytes) (value : Option Bytes) → asks_in (codegen_decides opt value) ≡ false
codegen-refuses opt value = either (bytes_eq opt (codes "incremental")) _ _ refl (either (bytes_eq opt (codes "extra-filename") && not (is_some value)) _ _ refl refl)

module _ (dir : Bytes) (files : Tree) where
  token-refuses : (f : Facts) (token : Token) → asks_in (decides dir files f token) ≡ false
  token-refuses f (loose word) = by f.input
    where
      by : (o : Option Bytes) → asks_in (option_map (λ previous. second_input previous word) o) ≡ false
      by None = refl
      by (Some previous) = refl
  token-refuses f (says flag values.TooHardFlag) = refl
  token-refuses f (says flag (values.TooHardPath path)) = refl
  token-refuses f (says flag values.NotCompilationFlag) = refl
  token-refuses f (says flag (values.NotCompilation word)) = refl
  token-refuses f (says flag (values.LinkLibrary l)) = refl
  token-refuses f (says flag (values.LinkPath l)) = refl
  token-refuses f (says flag (values.Emit kinds)) = either (is_some f.emit) _ _ refl refl
  token-refuses f (says flag (values.Extern e)) = refl
  token-refuses f (says flag (values.Color mode)) = refl
  token-refuses f (says flag (values.Json word)) = refl
  token-refuses f (says flag (values.CrateName name)) = refl
  token-refuses f (says flag (values.CrateType types)) = types-refuse types.others
  token-refuses f (says flag (values.OutDir path)) = refl
  token-refuses f (says flag (values.CodeGen o)) = codegen-refuses o.opt o.value
  token-refuses f (says flag (values.PassThrough word)) = refl
  token-refuses f (says flag (values.Target target)) = either (is_unsure dir files target) _ _ refl refl
  token-refuses f (says flag (values.Unstable o)) = refl
  token-refuses f unread = refl

  abbrev decided : Facts → Item ArgKind → Option Decision
  decided f item = if is_misread item then Some not_parsed else decides dir files f (token_of item)

  -- no item decides that something is asked for
  refuses : (f : Facts) (item : Item ArgKind) (decision : Decision) → decided f item ≡ Some decision → decision ≡ asks → ⊥
  refuses f item decision h is = false≢true (sym (either (is_misread item) _ _ refl (token-refuses f (token_of item))) ∙ ap asks_in h ∙ ap is_asks is)

  one-by : (misread : Bool) (o : Option Decision) (later : Decision) → (if misread then not_parsed else unless_decided o later) ≡ unless_decided (if misread then Some not_parsed else o) later
  one-by true o later = refl
  one-by false o later = refl

  abbrev onto : Facts → Item ArgKind → Facts
  onto f item = facts_with f (token_of item ∷ [])

  one : (f : Facts) (item : Item ArgKind) (items : List (Item ArgKind)) (cut : Bool) (o : Option Decision) → decided f item ≡ o → decision_from dir files f (item ∷ items) cut ≡ unless_decided o (decision_from dir files (onto f item) items cut)
  one f item items cut o h =
      one-by (is_misread item) (decides dir files f (token_of item)) (decision_from dir files (onto f item) items cut)
      ∙ ap (λ d. unless_decided d (decision_from dir files (onto f item) items cut)) h

  abbrev NoneFrom : Facts → List (Item ArgKind) → Type 0
  NoneFrom f items = (earlier : List (Item ArgKind)) (item : Item ArgKind) (later : List (Item ArgKind)) → items ≡ earlier ++ item ∷ later → decided (facts_with f (map token_of earlier)) item ≡ None

  head-none : (f : Facts) (item : Item ArgKind) (items : List (Item ArgKind)) → NoneFrom f (item ∷ items) → decided f item ≡ None
  head-none f item items h = ap (λ g. decided g item) (sym (facts-none f)) ∙ h [] item items refl

  tail-none : (f : Facts) (item : Item ArgKind) (items : List (Item ArgKind)) → NoneFrom f (item ∷ items) → NoneFrom (onto f item) items
  tail-none f item items h earlier other later e =
      ap (λ g. decided g other) (facts-more f (token_of item) (map token_of earlier)) ∙ h (item ∷ earlier) other later (ap (λ (l : List (Item ArgKind)). item ∷ l) e)

  both-none : (f : Facts) (item : Item ArgKind) (items : List (Item ArgKind)) → decided f item ≡ None → NoneFrom (onto f item) items → NoneFrom f (item ∷ items)
  both-none f item items none nones [] other later e =
      let same : other ≡ item = cc in
      ap (decided (facts_with f [])) same ∙ ap (λ g. decided g item) (facts-none f) ∙ none
  both-none f item items none nones (first ∷ earlier) other later e =
      let same : first ≡ item = cc in
      let rest : items ≡ earlier ++ other ∷ later = cc in
      ap (λ i. decided (facts_with f (token_of i ∷ map token_of earlier)) other) same
      ∙ ap (λ g. decided g other) (sym (facts-more f (token_of item) (map token_of earlier)))
      ∙ nones earlier other later rest

  -- items of which none decides
  passed : (earlier : List (Item ArgKind)) (f : Facts) (rest : List (Item ArgKind)) (cut : Bool) → NoneFrom f earlier → decision_from dir files f (earlier ++ rest) cut ≡ decision_from dir files (facts_with f (map token_of earlier)) rest cut
  passed [] f rest cut h = ap (λ g. decision_from dir files g rest cut) (sym (facts-none f))
  passed (item ∷ items) f rest cut h =
      one f item (items ++ rest) cut None (head-none f item items h)
      ∙ passed items (onto f item) rest cut (tail-none f item items h)
      ∙ ap (λ g. decision_from dir files g rest cut) (facts-more f (token_of item) (map token_of items))

  first_decides_from : (earlier later : List (Item ArgKind)) (item : Item ArgKind) (cut : Bool) (decision : Decision) → NoneFrom no_facts earlier → decided (facts_with no_facts (map token_of earlier)) item ≡ Some decision → decision_from dir files no_facts (earlier ++ item ∷ later) cut ≡ decision
  first_decides_from earlier later item cut decision nones h = passed earlier no_facts (item ∷ later) cut nones ∙ one (facts_with no_facts (map token_of earlier)) item later cut (Some decision) h

  none_decides_from : (items : List (Item ArgKind)) (cut : Bool) → NoneFrom no_facts items → decision_from dir files no_facts items cut ≡ (if cut then not_parsed else closing (facts_with no_facts (map token_of items)))
  none_decides_from items cut nones = ap (λ (l : List (Item ArgKind)). decision_from dir files no_facts l cut) (sym (append-nil items)) ∙ passed items no_facts [] cut nones

  abbrev Asks : Facts → List (Item ArgKind) → Bool → Type 0
  Asks f items cut = NoneFrom f items × (cut ≡ false) × (closing (facts_with f (map token_of items)) ≡ asks)

  asks_from : (items : List (Item ArgKind)) (f : Facts) (cut : Bool) → decision_from dir files f items cut ≡ asks → Asks f items cut
  asks_from [] f true h = absurd (false≢true (ap is_asks h))
  asks_from [] f false h = (nowhere, refl, ap closing (facts-none f) ∙ h)
    where
      nowhere : NoneFrom f []
      nowhere [] item later e = cc
      nowhere (first ∷ earlier) item later e = cc
  asks_from (item ∷ items) f cut h = by (decided f item) refl (asks_from items (onto f item) cut)
    where
      by : (o : Option Decision) → decided f item ≡ o → (decision_from dir files (onto f item) items cut ≡ asks → Asks (onto f item) items cut) → Asks f (item ∷ items) cut
      by None none later =
          let rest = later (sym (one f item items cut None none) ∙ h) in
          (both-none f item items none rest.0, rest.1, ap closing (sym (facts-more f (token_of item) (map token_of items))) ∙ rest.2)
      by (Some decision) some later = absurd (refuses f item decision some (sym (one f item items cut (Some decision) some) ∙ h))

  joined : (o p : Option Decision) (d : Decision) → unless_decided o (unless_decided p d) ≡ unless_decided (sooner o p) d
  joined None p d = refl
  joined (Some decision) p d = refl

  abbrev after : Facts → List (Item ArgKind) → Item ArgKind → Option Decision
  after f earlier item = decided (facts_with f (map token_of earlier)) item

  abbrev closed : Facts → Bool → Decision
  closed f cut = if cut then not_parsed else closing f

  first_from : (items : List (Item ArgKind)) (f : Facts) (cut : Bool) → decision_from dir files f items cut ≡ unless_decided (first_given (after f) items) (closed (facts_with f (map token_of items)) cut)
  first_from [] f cut = ap (λ g. closed g cut) (sym (facts-none f))
  first_from (item ∷ items) f cut =
      let none = sym (facts-none f) in
      one f item items cut (decided f item) refl
      ∙ ap (unless_decided (decided f item)) (first_from items (onto f item) cut)
      ∙ joined (decided f item) (first_given (after (onto f item)) items) (closed (facts_with (onto f item) (map token_of items)) cut)
      ∙ (λ i. unless_decided (sooner (decided (none i) item) (first_given (λ earlier other. decided (facts-more f (token_of item) (map token_of earlier) i) other) items)) (closed (facts-more f (token_of item) (map token_of items) i) cut))

  -- the decision that is come to item by item is that of the first item that decides, or of all of them
  pub decision_is : (items : List (Item ArgKind)) (cut : Bool) → decision_from dir files no_facts items cut ≡ decision_on dir files (record { items = items; cut_short = cut })
  decision_is items cut =
      first_from items no_facts cut
      ∙ (λ i. unless_decided (first_given (λ earlier item. decided (facts-of (map token_of earlier) i) item) items) (closed (facts-of (map token_of items) i) cut))

  nones_from : (items : List (Item ArgKind)) → NoneDecides dir files items → NoneFrom no_facts items
  nones_from items nones earlier item later e = ap (λ f. decided f item) (facts-of (map token_of earlier)) ∙ nones earlier item later e

  pub first_decides : (earlier later : List (Item ArgKind)) (item : Item ArgKind) (cut : Bool) (decision : Decision) → NoneDecides dir files earlier → decides_after dir files earlier item ≡ Some decision → decision_on dir files (record { items = earlier ++ item ∷ later; cut_short = cut }) ≡ decision
  first_decides earlier later item cut decision nones h =
      sym (decision_is (earlier ++ item ∷ later) cut)
      ∙ first_decides_from earlier later item cut decision (nones_from earlier nones) (ap (λ f. decided f item) (facts-of (map token_of earlier)) ∙ h)

  pub none_decides : (items : List (Item ArgKind)) (cut : Bool) → NoneDecides dir files items → decision_on dir files (record { items = items; cut_short = cut }) ≡ closed (facts_of (map token_of items)) cut
  none_decides items cut nones =
      sym (decision_is items cut) ∙ none_decides_from items cut (nones_from items nones) ∙ ap (λ f. closed f cut) (facts-of (map token_of items))

  pub asks_for : (r : Reading ArgKind) → decision_on dir files r ≡ asks → NoneDecides dir files r.items × (r.cut_short ≡ false) × (closing (facts_of (map token_of r.items)) ≡ asks)
  asks_for r h =
      let from = asks_from r.items no_facts r.cut_short (decision_is r.items r.cut_short ∙ h) in
      ((λ earlier item later e. ap (λ f. decided f item) (sym (facts-of (map token_of earlier))) ∙ from.0 earlier item later e), from.1, ap closing (sym (facts-of (map token_of r.items))) ∙ from.2)
