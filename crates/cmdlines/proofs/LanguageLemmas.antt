-- The language of words that ask for something is known to their compiler.
use Rattle.std.proofs.Common.{◌≡◌, Bool, true, false, cond, List, [], ◌∷◌, Option, Some, None, refl, ap, subst, sym, ◌∙◌}
use Rattle.std.specs.Prelude.{codes, find}
use Rattle.std.specs.List.{AllByRecursion}
use Rattle.std.specs.Option.{option_map, option_and_then}
use Rattle.std.specs.Str.{bytes_eq}
use Rattle.base_files.specs.Bytes.{Bytes}
use Rattle.base_files.specs.Path.{extension}
use Rattle.cmdlines_base.specs.Reading.{Item, Reading}
use Rattle.cmdlines_tables.specs.Languages.{Meant, extensions, knows, language_named, language_of_extension, meant_by, named}
use Rattle.cmdlines_tables.specs.Tables.{entries_of, reading_of}
use Rattle.cmdlines_tables.specs.declared.compiler.CCompilerKind.{CCompilerKind}
use Rattle.cmdlines_tables.specs.declared.kind.ArgKind.{ArgKind}
use Rattle.cmdlines_tables.specs.declared.language.Language.{Language}
use Rattle.cmdlines_tables.specs.declared.language.Language.TheVariants.{C, Cxx, CPreprocessed, CxxPreprocessed, Assembler, AssemblerToPreprocess, Rust}
use Rattle.cmdlines.specs.KnownLanguages.{HasKnownLanguageIn, IsKnownTo}
use Rattle.cmdlines.specs.Parsing.{Decision, asks, decided, differ, known_language, language_by_extension, language_for, not_compilation, output_for, parse_of, parsed_from, refused, with_inputs, with_language, with_output}
use Rattle.cmdlines.specs.Wanted.{facts_of, is_hard, lists_of}
use Rattle.cmdlines_base.specs.Choices.{when}
use Rattle.cmdlines.specs.declared.facts.Facts.{Facts}
use Rattle.cmdlines.specs.declared.lists.Input.{Input}
use Rattle.cmdlines.specs.declared.lists.Lists.{Lists}
use Rattle.cmdlines_tables.specs.declared.parsed.ParsedArguments.{ParsedArguments}

-- a language that an option can name
is_c : Language → Bool
is_c Rust = false
is_c C = true
is_c Cxx = true
is_c CPreprocessed = true
is_c CxxPreprocessed = true
is_c Assembler = true
is_c AssemblerToPreprocess = true

isnt_rust : (g : Language) → is_c g ≡ true → g ≡ Rust → ⊥
unfolding is_c
isnt_rust g h e = clash (sym (ap is_c e) ∙ h)
  where
    clash : false ≡ true → ⊥
    clash h = cc

abbrev OnSome : {X : Type 0} → (X → Type 0) → Option X → Type 0
OnSome P None = Unit {0}
OnSome P (Some x) = P x

abbrev IsC : Language → Type 0
IsC g = is_c g ≡ true

-- a text means none but the languages of its list
meant_c : (list : List Meant) (text : Bytes) → AllByRecursion (λ (m : Meant). IsC m.1) list → OnSome IsC (meant_by list text)
meant_c [] text all = tt
meant_c (m ∷ list) text all = by (bytes_eq text m.0) (meant_c list text all.1)
  where
    by : (s : Bool) → OnSome IsC (meant_by list text) → OnSome IsC (option_map (λ (entry : Meant). entry.1) (cond s (Some m) (find (λ (entry : Meant). bytes_eq text entry.0) list)))
    by true rest = all.0
    by false rest = rest

extension_c : (o : Option Bytes) → OnSome IsC (option_and_then language_of_extension o)
unfolding is_c
extension_c None = tt
extension_c (Some name) = meant_c extensions name (refl, (refl, (refl, (refl, (refl, (refl, (refl, (refl, (refl, (refl, (refl, (refl, (refl, tt)))))))))))))

named_c : (name : Bytes) → OnSome IsC (language_named name)
unfolding is_c
named_c name = meant_c (named C ∷ named Cxx ∷ named CPreprocessed ∷ named CxxPreprocessed ∷ named Assembler ∷ named AssemblerToPreprocess ∷ []) name (refl, (refl, (refl, (refl, (refl, (refl, tt))))))

language_c : (name : Option Bytes) (input : Bytes) → OnSome IsC (language_for name input)
language_c None input = extension_c (extension input)
language_c (Some name) input = by (bytes_eq name (codes "none"))
  where
    by : (s : Bool) → OnSome IsC (cond s (language_by_extension input) (language_named name))
    by true = extension_c (extension input)
    by false = named_c name

module _ (kind : CCompilerKind) where
  known : (name : Option Bytes) (input : Bytes) → OnSome (IsKnownTo kind) (known_language kind name input)
  known name input = by (language_for name input) (language_c name input)
    where
      by_known : (g : Language) → IsC g → (s : Bool) → knows kind g ≡ s → OnSome (IsKnownTo kind) (cond s (Some g) None)
      by_known g c true e = (e, isnt_rust g c)
      by_known g c false e = tt

      by : (o : Option Language) → OnSome IsC o → OnSome (IsKnownTo kind) (option_and_then (λ language. when (knows kind language) language) o)
      by None c = tt
      by (Some g) c = by_known g c (knows kind g) refl

  -- what is asked for has such a language
  abbrev HasIt : Decision → Type 0
  HasIt decision = HasKnownLanguageIn kind decision

  refused_has : (reason : Bytes) → HasIt (refused reason)
  refused_has reason p h = cc

  output_has : (f : Facts) (l : Lists) (i : Input) (g : Language) (o : Option Bytes) → IsKnownTo kind g → HasIt (with_output f l i g o)
  output_has f l i g None k p h = refused_has (codes "no output file") p h
  output_has f l i g (Some path) k p h = subst (λ (q : ParsedArguments). IsKnownTo kind q.language) (same (parsed_from f l i g path) h) k
    where
      same : (q : ParsedArguments) → asks q ≡ asks p → q ≡ p
      same q h = cc

  language_has : (f : Facts) (l : Lists) (i : Input) (g : Option Language) → OnSome (IsKnownTo kind) g → HasIt (with_language kind f l i g)
  language_has f l i None k = refused_has (codes "unknown source language")
  language_has f l i (Some g) k = by (differ l.architectures)
    where
      by : (s : Bool) → HasIt (cond s (refused (codes "multiple different -arch")) (with_output f l i g (output_for kind f.output i.word)))
      by true = refused_has (codes "multiple different -arch")
      by false = output_has f l i g (output_for kind f.output i.word) k

  inputs_has : (f : Facts) (l : Lists) (inputs : List Input) → HasIt (with_inputs kind f l inputs)
  inputs_has f l [] = refused_has (codes "no input file")
  inputs_has f l (i ∷ j ∷ js) = refused_has (codes "multiple input files")
  inputs_has f l (i ∷ []) = language_has f l i (known_language kind f.language i.word) (known f.language i.word)

  closing_has : (f : Facts) (l : Lists) (s : Bool) → HasIt (cond s (with_inputs kind f l l.inputs) not_compilation)
  closing_has f l true p h = inputs_has f l l.inputs p h
  closing_has f l false p h = cc

  decided_has : (o : Option (Item ArgKind)) (cut : Bool) (f : Facts) (l : Lists) → HasIt (decided kind o cut f l)
  decided_has (Some a) cut f l p h = cc
  decided_has None true f l p h = refused_has (codes "argument parse") p h
  decided_has None false f l p h = closing_has f l f.compiles p h

pub language_known : (kind : CCompilerKind) (words : List Bytes) → HasKnownLanguageIn kind (parse_of kind words)
language_known kind words =
    let r : Reading ArgKind = reading_of kind words in
    decided_has kind (find (is_hard kind) r.items) r.cut_short (facts_of (entries_of kind) r.items) (lists_of r.items)
