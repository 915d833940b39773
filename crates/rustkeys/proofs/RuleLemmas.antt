-- A text that starts with a rule is rewritten, so it's given exactly where it's asked for.
use Rattle.std.proofs.Common.{◌≡◌, ◌∙◌, ℕ, zero, suc, ◌+◌, ◌==◌, ◌-◌, Bool, true, false, not, ◌&&◌, cond, if◌then◌else◌, List, [], ◌∷◌, length, take, drop, Option, None, Some, nat_eq, codes, refl, sym, ap, arith}
use Rattle.std.specs.Prelude.{map, option_and_then, slice_index, is_some, is_none}
use Rattle.std.specs.List.{before_first, list_any, onto_first, position_or_len, slice_split, starts_with}
use Rattle.std.specs.Option.{option_map, option_to_list}
use Rattle.std.specs.Str.{bytes_eq}
use Rattle.std.specs.Str.Lines.{lines_of_parts}
use Rattle.std.proofs.lemmas.List.Splits.{slice_split-cons_no, slice_split-cons_yes}
use Rattle.base_files.specs.Bytes.{Bytes}
use Rattle.cmdlines_base.specs.Choices.{when}
use Rattle.ckeys_records.specs.Faults.{or_else, read_fault_of}
use Rattle.ckeys_records.specs.Meaning.{text_in}
use Rattle.ckeys_records.specs.declared.fault.Fault.{Fault}
use Rattle.ckeys_records.specs.declared.fault.Fault.TheVariants.{NoRule}
use Rattle.ckeys_records.specs.declared.step.Step.TheVariants.{DepInfo, FileNames}
use Rattle.rustc_options.specs.Sets.{in_order}
use Rattle.rustc_texts.specs.DepInfo.{after_colon, first_of, rule_of}
use Rattle.rustc_texts.specs.Outputs.{has_name, targets_with}
use Rattle.rustc_texts.specs.Rewriting.{is_line_end, rewritten_of}
use Rattle.rustc_options.specs.Asks.{RustAsks}
use Rattle.rustkeys_base.specs.Facts.{facts_of}
use Rattle.rustkeys_base.specs.Requests.{dep_info, emits, named_by_crate}
use Rattle.rustkeys_base.specs.Saying.{token_of}
use Rattle.rustkeys_base.specs.Parsing.{emitted}
use Rattle.rustkeys_base.specs.declared.facts.Facts.{Facts}
use Rattle.rustkeys.specs.Calls.{answer_fault_of, dep_info_fault_of, files_fault_of, key_fault_with, rule_fault_of, sources_fault_of}
use Rattle.rustkeys.specs.Fresh.{ComesOfWords, dep_info_by, emits_dep_info}
use Rattle.rustkeys.specs.Questions.{Answers, Question, sources_in}

-- the first part of a list is what comes before the first that passes
module _ {X : Type 0} (p : X → Bool) where
  first_part : (xs : List X) → (rest : List (List X)) × (slice_split p xs ≡ before_first p xs ∷ rest)
  first_part [] = ([], refl)
  first_part (x ∷ xs) = by (p x) refl (first_part xs)
    where
      front : (b : Bool) → p x ≡ b → before_first p (x ∷ xs) ≡ take (cond (not b) (1 + position_or_len p xs) 0) (x ∷ xs)
      front b e = ap (λ t. take (cond (not t) (1 + position_or_len p xs) 0) (x ∷ xs)) e

      next : 1 + position_or_len p xs ≡ suc (position_or_len p xs)
      next = omega arith

      by : (b : Bool) → p x ≡ b → (rest : List (List X)) × (slice_split p xs ≡ before_first p xs ∷ rest) → (rest : List (List X)) × (slice_split p (x ∷ xs) ≡ before_first p (x ∷ xs) ∷ rest)
      by true e parts = (slice_split p xs, slice_split-cons_yes p x xs e ∙ ap (λ line. line ∷ slice_split p xs) (sym (front true e)))
      by false e parts =
          (parts.0, slice_split-cons_no p x xs e ∙ ap (onto_first x) parts.1 ∙ ap (λ line. line ∷ parts.0) (sym (front false e ∙ ap (λ k. take k (x ∷ xs)) next)))

-- a rule that is in the beginning of a line is in the line
and_false : (t : Bool) → (t && false) ≡ false
and_false true = refl
and_false false = refl

starts_less : (k b : ℕ) (line : Bytes) → starts_with nat_eq (b ∷ line) (codes ": ") ≡ false → starts_with nat_eq (b ∷ take k line) (codes ": ") ≡ false
starts_less zero b [] h = h
starts_less (suc k) b [] h = h
starts_less zero b (c ∷ line) h = and_false (nat_eq 58 b)
starts_less (suc k) b (c ∷ line) h = h

colon_in : (k : ℕ) (line : Bytes) → is_some (after_colon (take k line)) ≡ true → is_some (after_colon line) ≡ true
colon_in zero [] h = h
colon_in (suc k) [] h = h
colon_in zero (b ∷ line) h = cc
colon_in (suc k) (b ∷ line) h = by (colon_in k line) (starts_with nat_eq (b ∷ line) (codes ": ")) refl
  where
    begun : Bytes → Bool → Bool
    begun rest t = is_some (if t then Some (drop 2 (b ∷ rest)) else after_colon rest)

    by : (is_some (after_colon (take k line)) ≡ true → is_some (after_colon line) ≡ true) → (t : Bool) → starts_with nat_eq (b ∷ line) (codes ": ") ≡ t → is_some (after_colon (b ∷ line)) ≡ true
    by further true e = ap (begun line) e
    by further false e = ap (begun line) e ∙ further (sym (ap (begun (take k line)) (starts_less k b line e)) ∙ h)

rule_in_part : (line : Bytes) (rest : List Bytes) → is_some (option_and_then after_colon (first_of (lines_of_parts (line ∷ rest)))) ≡ true → is_some (after_colon line) ≡ true
rule_in_part line [] h = by (length line == 0) h
  where
    by : (t : Bool) → is_some (option_and_then after_colon (first_of (if t then [] else line ∷ []))) ≡ true → is_some (after_colon line) ≡ true
    by true e = cc
    by false e = e
rule_in_part line (next ∷ rest) h = by (slice_index line (length line - 1) == 13) h
  where
    by : (t : Bool) → is_some (after_colon (if t then take (length line - 1) line else line)) ≡ true → is_some (after_colon line) ≡ true
    by true e = colon_in (length line - 1) line e
    by false e = e

-- a text with a rule has it before its first line end
rule_stands : (text : Bytes) → is_some (rule_of text) ≡ true → is_some (after_colon (before_first is_line_end text)) ≡ true
rule_stands text h =
    let parts = first_part is_line_end text in
    rule_in_part (before_first is_line_end text) parts.0 (ap (λ (all : List Bytes). is_some (option_and_then after_colon (first_of (lines_of_parts all)))) (sym parts.1) ∙ h)

has_rule : (text : Bytes) → rule_fault_of text ≡ None → is_some (rule_of text) ≡ true
has_rule text h = by (rule_of text) h
  where
    by : (rule : Option Bytes) → (if is_none rule then Some NoRule else None) ≡ None → is_some rule ≡ true
    by None e = cc
    by (Some rule) e = refl

map_some : (f : Bytes → Bytes) (found : Option Bytes) → is_some found ≡ true → is_some (option_map f found) ≡ true
map_some f None h = h
map_some f (Some x) h = refl

pub rewritten_where_ruled : (text : Bytes) (targets extras : List Bytes) → rule_fault_of text ≡ None → is_some (rewritten_of text targets extras) ≡ true
rewritten_where_ruled text targets extras fine = map_some _ (after_colon (before_first is_line_end text)) (rule_stands text (has_rule text fine))

-- without a fault of its rule a text is given exactly where one is asked for
pub told_where_asked : (asks : RustAsks) (archive : Option Bytes) (text : Bytes) (names : List Bytes) → rule_fault_of text ≡ None → is_some (dep_info_by asks archive text names) ≡ is_some asks.dep_info
told_where_asked asks archive text names fine = by asks.dep_info
  where
    by : (wanted : Option Bytes) → is_some (option_and_then (λ name. rewritten_of text (targets_with asks names) (option_to_list archive)) wanted) ≡ is_some wanted
    by None = refl
    by (Some name) = rewritten_where_ruled text (targets_with asks names) (option_to_list archive) fine

-- without any fault there is none of the rule
first_none : (first second : Option Fault) → or_else first second ≡ None → first ≡ None
first_none None second h = refl
first_none (Some fault) second h = h

second_none : (first second : Option Fault) → or_else first second ≡ None → second ≡ None
second_none None second h = h
second_none (Some fault) second h = cc

pub rule_fine : (q : Question) (answers : Answers) → key_fault_with q answers ≡ None → rule_fault_of (text_in answers.dep_info.contents) ≡ None
rule_fine q answers fine =
    let made = answers.dep_info in
    let text = text_in made.contents in
    let files = q.scene.files in
    let told : dep_info_fault_of q made ≡ None = first_none (dep_info_fault_of q made) (or_else (answer_fault_of FileNames answers.file_names) (files_fault_of q answers.archives)) fine in
    let sources : sources_fault_of files q.scene.dir text ≡ None = second_none (answer_fault_of DepInfo made) (sources_fault_of files q.scene.dir text) told in
    first_none (rule_fault_of text) (read_fault_of files (sources_in q.scene.dir text)) sources

-- words ask for the text exactly where they emit it
pub asked_where_emitted : ((words : List Bytes) (word : Bytes) → list_any (bytes_eq word) (in_order words) ≡ list_any (bytes_eq word) words) → (asks : RustAsks) → ComesOfWords asks → is_some asks.dep_info ≡ emits_dep_info asks
asked_where_emitted same asks h = ap (λ (a : RustAsks). is_some a.dep_info) h.is ∙ asked (facts_of (map token_of h.items)) ∙ sym (ap emits_dep_info h.is)
  where
    is_when : (b : Bool) (name : Bytes) → is_some (when b name) ≡ b
    is_when true name = refl
    is_when false name = refl

    asked : (f : Facts) → is_some (dep_info f) ≡ has_name (in_order (emitted f)) (codes "dep-info")
    asked f = is_when (emits f (codes "dep-info")) (named_by_crate f (codes ".d")) ∙ sym (same (emitted f) (codes "dep-info"))
