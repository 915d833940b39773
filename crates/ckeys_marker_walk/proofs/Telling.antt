-- What texts say by the grammar of markers is what a scanner finds.
use Rattle.std.proofs.Common.{◌≡◌, ◌⊎◌, inl, inr, zero, suc, Bool, true, false, if◌then◌else◌, List, [], ◌∷◌, Option, None, Some, refl, ap, sym, subst, ◌∙◌, arith}
use Rattle.std.proofs.lemmas.Map.Views.{Contains-from_any, list_any-from_Contains}
use Rattle.std.proofs.lemmas.Slice.Eq.{bytes_eq-Decides}
use Rattle.std.specs.Cmp.{IsEquivalence, decided}
use Rattle.std.specs.List.{Contains, IsDistinct, cons_option, filter_map, list_any}
use Rattle.std.specs.Option.{option_map}
use Rattle.std.specs.Str.{bytes_eq}
use Rattle.base_files.specs.Bytes.{Bytes}
use Rattle.ckeys_marker_walk.proofs.Meaning.{meant-spelled}
use Rattle.ckeys_marker_walk.proofs.Once.{all_distinct, all_kept_once}
use Rattle.ckeys_marker_walk.proofs.Readings.{marker_reads, refusing_reads}
use Rattle.ckeys_marker_walk.proofs.ReadingsBack.{reads_marker, reads_refusing}
use Rattle.ckeys_marker_walk.proofs.Spellings.{IsWellIn, well_in}
use Rattle.ckeys_marker_walk.specs.Lines.{lines}
use Rattle.ckeys_marker_walk.specs.Markers.{IsMarker, IsRefusing}
use Rattle.ckeys_marker_walk.specs.Named.{asks_for_more, marker_names, name_of, once, refuses}
use Rattle.ckeys_marker_walk.specs.Scanning.{Sight, named, refused, sight_in, sights}
use Rattle.ckeys_marker_walk.specs.Spelling.{meant}
use Rattle.ckeys_marker_walk.specs.Told.{HasMarker, IsPlain, IsRefused, asks, line as by_line, Says, Tell}

bytes_alike : IsEquivalence bytes_eq
bytes_alike = decided bytes_eq bytes_eq-Decides

plain_line : (line : Bytes) → sight_in line ≡ None → IsPlain line
plain_line line e = record {
  no_marker = λ name m. let h = marker_reads line name m in cc;
  no_refusal = λ r. let h = refusing_reads reads_marker line r in cc;
}

says_by : (line : Bytes) (said : Option Sight) → sight_in line ≡ said → IsWellIn said → Says line said
says_by line None e well = plain_line line e
says_by line (Some (named raw)) e well = (reads_marker line raw e, well)
says_by line (Some refused) e well = reads_refusing line e

-- a line says what a scanner finds in it
pub says_found : (line : Bytes) → Says line (sight_in line)
says_found line = says_by line (sight_in line) refl (well_in line)

nothing_said : (line : Bytes) (found : Option Sight) → sight_in line ≡ found → IsPlain line → None ≡ found
nothing_said line None e p = refl
nothing_said line (Some (named raw)) e p = absurd (p.no_marker (meant raw) (reads_marker line raw e))
nothing_said line (Some refused) e p = absurd (p.no_refusal (reads_refusing line e))

-- and it says nothing else
pub says_once : (line : Bytes) (said : Option Sight) → Says line said → said ≡ sight_in line
says_once line None h = nothing_said line (sight_in line) refl h
says_once line (Some (named raw)) h = sym (marker_reads line (meant raw) h.0 ∙ ap (λ (r : Bytes). Some (named r)) h.1)
says_once line (Some refused) h = sym (refusing_reads reads_marker line h)

-- lines determine what a scanner finds in them
pub tell_found : (ls : List Bytes) → Tell ls (filter_map sight_in ls)
tell_found [] = refl
tell_found (l ∷ ls) = (sight_in l, filter_map sight_in ls, says_found l, tell_found ls, refl)

pub here : (y : Bytes) (ys : List Bytes) → Contains (y ∷ ys) y
here y ys = (0, omega arith, refl)

pub later : (y x : Bytes) (ys : List Bytes) → Contains ys x → Contains (y ∷ ys) x
later y x ys (k, low, is) = (suc k, omega arith, is)

pub here_or_later : (y x : Bytes) (ys : List Bytes) → Contains (y ∷ ys) x → (y ≡ x) ⊎ Contains ys x
here_or_later y x ys (zero, low, is) = inl is
here_or_later y x ys (suc k, low, is) = inr (k, omega arith, is)

-- a line that refuses
abbrev Refuser : List Bytes → Type 0
Refuser ls = (l : Bytes) × Contains ls l × IsRefusing l

refuser_in : (l : Bytes) (ls : List Bytes) (found : Option Sight) → sight_in l ≡ found → (list_any refuses (filter_map sight_in ls) ≡ true → Refuser ls)
    → list_any refuses (cons_option found (filter_map sight_in ls)) ≡ true → Refuser (l ∷ ls)
refuser_in l ls None e more h = let w = more h in (w.0, later l w.0 ls w.1, w.2)
refuser_in l ls (Some (named raw)) e more h = let w = more h in (w.0, later l w.0 ls w.1, w.2)
refuser_in l ls (Some refused) e more h = (l, here l ls, reads_refusing l e)

refuser_of : (ls : List Bytes) → list_any refuses (filter_map sight_in ls) ≡ true → Refuser ls
refuser_of [] h = cc
refuser_of (l ∷ ls) h = refuser_in l ls (sight_in l) refl (refuser_of ls) h

still_refuses : (found : Option Sight) (told : List Sight) → list_any refuses told ≡ true → list_any refuses (cons_option found told) ≡ true
still_refuses None told h = h
still_refuses (Some (named raw)) told h = h
still_refuses (Some refused) told h = refl

refused_by : (ls : List Bytes) (l : Bytes) → Contains ls l → IsRefusing l → list_any refuses (filter_map sight_in ls) ≡ true
refused_by [] l w r = absurd (omega (arith, w.1))
refused_by (y ∷ ys) l w r = elim (here_or_later y l ys w) [
  | inl same ↦ ap (λ (o : Option Sight). list_any refuses (cons_option o (filter_map sight_in ys))) (ap sight_in same ∙ refusing_reads reads_marker l r)
  | inr more ↦ still_refuses (sight_in y) (filter_map sight_in ys) (refused_by ys l more r)
]

-- a marker of that name
abbrev Marked : List Bytes → Bytes → Type 0
Marked ls name = (l : Bytes) × Contains ls l × IsMarker l name

-- the names of markers in lines
abbrev pub names_in : List Bytes → List Bytes
names_in ls = filter_map name_of (filter_map sight_in ls)

marked_in : (l : Bytes) (ls : List Bytes) (name : Bytes) (found : Option Sight) → sight_in l ≡ found → (Contains (names_in ls) name → Marked ls name)
    → Contains (filter_map name_of (cons_option found (filter_map sight_in ls))) name → Marked (l ∷ ls) name
marked_in l ls name None e more h = let w = more h in (w.0, later l w.0 ls w.1, w.2)
marked_in l ls name (Some refused) e more h = let w = more h in (w.0, later l w.0 ls w.1, w.2)
marked_in l ls name (Some (named raw)) e more h = elim (here_or_later (meant raw) name (names_in ls) h) [
  | inl same ↦ (l, here l ls, subst (IsMarker l) same (reads_marker l raw e))
  | inr w ↦ let m = more w in (m.0, later l m.0 ls m.1, m.2)
]

marked_of : (ls : List Bytes) (name : Bytes) → Contains (names_in ls) name → Marked ls name
marked_of [] name h = absurd (omega (arith, h.1))
marked_of (l ∷ ls) name h = marked_in l ls name (sight_in l) refl (marked_of ls name) h

still_named : (found : Option Sight) (told : List Sight) (name : Bytes) → Contains (filter_map name_of told) name → Contains (filter_map name_of (cons_option found told)) name
still_named None told name h = h
still_named (Some (named raw)) told name h = later (meant raw) name (filter_map name_of told) h
still_named (Some refused) told name h = h

named_by : (ls : List Bytes) (name l : Bytes) → Contains ls l → IsMarker l name → Contains (names_in ls) name
named_by [] name l w m = absurd (omega (arith, w.1))
named_by (y ∷ ys) name l w m = elim (here_or_later y l ys w) [
  | inl same ↦
      subst (λ (o : Option Sight). Contains (filter_map name_of (cons_option o (filter_map sight_in ys))) name) (sym (ap sight_in same ∙ marker_reads l name m))
      (subst (λ (n : Bytes). Contains (n ∷ names_in ys) name) (sym (meant-spelled name)) (here name (names_in ys)))
  | inr more ↦ still_named (sight_in y) (filter_map sight_in ys) name (named_by ys name l more m)
]

-- why there are no names
no_names : (asks any : Bool) (names : List Bytes) → (if asks then None else option_map once (if any then None else Some names)) ≡ None → (asks ≡ true) ⊎ (any ≡ true)
no_names true any names h = inl refl
no_names false true names h = inr refl
no_names false false names h = cc

the_names : (asks any : Bool) (names found : List Bytes) → (if asks then None else option_map once (if any then None else Some names)) ≡ Some found → once names ≡ found
the_names true any names found h = cc
the_names false true names found h = cc
the_names false false names found h = cc

no_names_if_asked : (asks any : Bool) (names : List Bytes) → asks ≡ true → (if asks then None else option_map once (if any then None else Some names)) ≡ None
no_names_if_asked true any names h = refl
no_names_if_asked false any names h = cc

no_names_if_any : (asks any : Bool) (names : List Bytes) → any ≡ true → (if asks then None else option_map once (if any then None else Some names)) ≡ None
no_names_if_any true any names h = refl
no_names_if_any false true names h = refl
no_names_if_any false false names h = cc

-- a text without names is refused
pub text_refused : (text : Bytes) → marker_names text ≡ None → IsRefused text
text_refused text h = elim (no_names (asks_for_more text) (list_any refuses (sights text)) (filter_map name_of (sights text)) h) [
  | inl is ↦ asks is
  | inr any ↦ let w = refuser_of (lines text) any in by_line w.0 w.1 w.2
]

-- and the reverse
pub refused_text : (text : Bytes) → IsRefused text → marker_names text ≡ None
refused_text text (asks is) = no_names_if_asked (asks_for_more text) (list_any refuses (sights text)) (filter_map name_of (sights text)) is
refused_text text (by_line l stands is) = no_names_if_any (asks_for_more text) (list_any refuses (sights text)) (filter_map name_of (sights text)) (refused_by (lines text) l stands is)

module _ (text : Bytes) (names : List Bytes) (found : marker_names text ≡ Some names) where
  -- they are the names of its markers, each once
  pub are_once : once (filter_map name_of (sights text)) ≡ names
  are_once = the_names (asks_for_more text) (list_any refuses (sights text)) (filter_map name_of (sights text)) names found

  -- no two of the names are equal
  pub names_distinct : IsDistinct bytes_eq names
  names_distinct = subst (IsDistinct bytes_eq) are_once (all_distinct (filter_map name_of (sights text)))

  -- each name is a marker's
  pub name_marked : (name : Bytes) → Contains names name → HasMarker text name
  name_marked name h =
      let any = list_any-from_Contains bytes_alike name names h in
      let all = sym (all_kept_once (filter_map name_of (sights text)) name) ∙ ap (list_any (bytes_eq name)) are_once ∙ any in
      let w = marked_of (lines text) name (Contains-from_any (λ x y. (bytes_eq-Decides x y).0) name (filter_map name_of (sights text)) all) in
      record { line = w.0; stands = w.1; is = w.2 }

  -- each marker's name is there
  pub marker_named : (name : Bytes) → HasMarker text name → Contains names name
  marker_named name h =
      let any = list_any-from_Contains bytes_alike name (filter_map name_of (sights text)) (named_by (lines text) name h.line h.stands h.is) in
      Contains-from_any (λ x y. (bytes_eq-Decides x y).0) name names (sym (ap (list_any (bytes_eq name)) are_once) ∙ all_kept_once (filter_map name_of (sights text)) name ∙ any)
