-- What is left to read of the files that are open: what it becomes, which files it asks for, and how many turns it takes.
use Rattle.std.proofs.Common.{◌≡◌, ℕ, suc, ◌+◌, ◌<◌, Bool, false, not, ◌&&◌, ◌||◌, List, [], ◌∷◌, ◌++◌, Option, None, Some, map, refl, sym, ap, ◌∙◌, subst, append_assoc, ◌⊎◌, inl, inr, Result, Ok, Err, IfErr, arith}
use Rattle.std.specs.List.{Contains}
use Rattle.std.specs.Result.{IsErrAnd}
use Rattle.std.specs.Str.{bytes_eq}
use Rattle.std.proofs.lemmas.List.Elements.{Contains-append_left, Contains-append_right, Contains-push}
use Rattle.std.proofs.lemmas.Slice.Eq.{bytes_eq-Decides}
use Rattle.base_files.specs.Bytes.{Bytes}
use Rattle.base_files.specs.Tree.{Tree}
use Rattle.cmdlines_response_files.specs.Asking.{IsAskedFor, by_word, in_file}
use Rattle.cmdlines_response_files.specs.Causes.{CauseOf}
use Rattle.cmdlines_response_files.specs.Closed.{closed_in, without}
use Rattle.cmdlines_response_files.specs.Expansion.{opened_by, in_place_of, expanded}
use Rattle.cmdlines_response_files.specs.Styles.{path_of}
use Rattle.cmdlines_response_files.specs.declared.fault.ParseFault.{ParseFault}
use Rattle.cmdlines_response_files.specs.declared.fault.ParseFault.TheVariants.{Memory, Read}
use Rattle.cmdlines_response_files.specs.declared.opening.Opened.{Opened}
use Rattle.cmdlines_response_files.specs.declared.style.Style.{Style}
use Rattle.cmdlines_response_files.specs.declared.unread.Part.{Part}
use Rattle.cmdlines_response_files.specs.declared.unread.Part.TheVariants.{Word, End}
use Rattle.cmdlines_response_files.proofs.ClosedLaws.{closed_same}
use Rattle.cmdlines_response_files.proofs.OpeningLaws.{closed_again, closed_below, expanded-nil, expanded-cons, expanded-one, not_open}
use Rattle.cmdlines_response_files.proofs.TurnLaws.{turns, turns_at, turns-cons, turns-nil, turns-one}

-- the names that are open once one is closed, and once one more is open
abbrev pub shut : Bytes → (Bytes → Bool) → Bytes → Bool
shut name held other = not (bytes_eq name other) && held other

abbrev pub more : Bytes → (Bytes → Bool) → Bytes → Bool
more name held other = bytes_eq name other || held other

-- the parts of a file in front of others
abbrev pub parts_in : Opened → List Part → List Part
parts_in file parts = map Word file.words ++ End file.name ∷ parts

-- more words ask for no fewer files
pub asked_among : (style : Style) (dir : Bytes) (closed : Tree) (words wider : List Bytes) → ((word : Bytes) → Contains words word → Contains wider word) → (name : Bytes) → IsAskedFor style dir closed words name → IsAskedFor style dir closed wider name
asked_among style dir closed words wider all name (by_word {word = word} among is) = by_word {word = word} (all word among) is
asked_among style dir closed words wider all name (in_file {word = word} {opened = opened} among opens asked) = in_file {word = word} {opened = opened} (all word among) opens asked

-- a name that one way finds, the other does
pub cause_by : (P Q : Bytes → Type 0) → ((name : Bytes) → P name → Q name) → (fault : ParseFault) → CauseOf P fault → CauseOf Q fault
cause_by P Q h Memory c = c
cause_by P Q h (Read name) c = h name c

pub on_exit : {A : Type 0} (P : ParseFault → Type 0) (result : Result A ParseFault) (fault : ParseFault) → IsErrAnd result (λ f. f ≡ fault) → P fault → IfErr result P
on_exit P (Ok x) fault h p = absurd h
on_exit P (Err f) fault h p = subst P (sym h) p

pub asked_alone : (style : Style) (dir : Bytes) (closed tree : Tree) → closed ≡ tree → (file : Opened) (name : Bytes) → IsAskedFor style dir (without file.name closed) file.words name ⊎ ⊥ → IsAskedFor style dir (without file.name tree) file.words name
asked_alone style dir closed tree same file name (inl asked) = subst (λ (t : Tree). IsAskedFor style dir (without file.name t) file.words name) same asked
asked_alone style dir closed tree same file name (inr none) = absurd none

module _ (style : Style) (dir : Bytes) (tree : Tree) where
  -- what the parts become, while those names are open
  abbrev pub become : (Bytes → Bool) → List Part → List Bytes
  become held [] = []
  become held (Word word ∷ parts) = expanded style dir (closed_in held tree) (word ∷ []) ++ become held parts
  become held (End name ∷ parts) = become (shut name held) parts

  -- how many turns they take
  abbrev pub turns_left : (Bytes → Bool) → List Part → ℕ
  turns_left held [] = 0
  turns_left held (Word word ∷ parts) = turns style dir (closed_in held tree) (word ∷ []) + turns_left held parts
  turns_left held (End name ∷ parts) = suc (turns_left (shut name held) parts)

  -- whether they ask for a file
  abbrev pub AskFor : (Bytes → Bool) → List Part → Bytes → Type 0
  AskFor held [] name = ⊥
  AskFor held (Word word ∷ parts) name = IsAskedFor style dir (closed_in held tree) (word ∷ []) name ⊎ AskFor held parts name
  AskFor held (End end ∷ parts) name = AskFor (shut end held) parts name

  -- only which names are open counts
  pub become-same : (held other : Bytes → Bool) → ((name : Bytes) → held name ≡ other name) → (parts : List Part) → become held parts ≡ become other parts
  become-same held other same [] = refl
  become-same held other same (Word word ∷ parts) = rw (closed_same held other same tree, become-same held other same parts) refl
  become-same held other same (End name ∷ parts) = become-same (shut name held) (shut name other) (λ n. ap (λ b. not (bytes_eq name n) && b) (same n)) parts

  pub turns_left-same : (held other : Bytes → Bool) → ((name : Bytes) → held name ≡ other name) → (parts : List Part) → turns_left held parts ≡ turns_left other parts
  turns_left-same held other same [] = refl
  turns_left-same held other same (Word word ∷ parts) = rw (closed_same held other same tree, turns_left-same held other same parts) refl
  turns_left-same held other same (End name ∷ parts) = ap suc (turns_left-same (shut name held) (shut name other) (λ n. ap (λ b. not (bytes_eq name n) && b) (same n)) parts)

  pub ask-same : (held other : Bytes → Bool) → ((name : Bytes) → held name ≡ other name) → (parts : List Part) (name : Bytes) → AskFor held parts name → AskFor other parts name
  ask-same held other same [] name h = h
  ask-same held other same (Word word ∷ parts) name (inl h) = inl (subst (λ (closed : Tree). IsAskedFor style dir closed (word ∷ []) name) (closed_same held other same tree) h)
  ask-same held other same (Word word ∷ parts) name (inr h) = inr (ask-same held other same parts name h)
  ask-same held other same (End end ∷ parts) name h = ask-same (shut end held) (shut end other) (λ n. ap (λ b. not (bytes_eq end n) && b) (same n)) parts name h

  -- the words of a file, and then the others
  pub become-words : (held : Bytes → Bool) (words : List Bytes) (parts : List Part) → become held (map Word words ++ parts) ≡ expanded style dir (closed_in held tree) words ++ become held parts
  become-words held [] parts = ap (λ (l : List Bytes). l ++ become held parts) (sym (expanded-nil style dir (closed_in held tree)))
  become-words held (word ∷ words) parts =
      let closed = closed_in held tree in
      let one : expanded style dir closed (word ∷ []) ++ expanded style dir closed words ≡ expanded style dir closed (word ∷ words) =
      ap (λ (l : List Bytes). l ++ expanded style dir closed words) (expanded-one style dir closed word) ∙ sym (expanded-cons style dir closed word words) in
      ap (λ (l : List Bytes). expanded style dir closed (word ∷ []) ++ l) (become-words held words parts)
      ∙ sym (append_assoc (expanded style dir closed (word ∷ [])) (expanded style dir closed words) (become held parts))
      ∙ ap (λ (l : List Bytes). l ++ become held parts) one

  pub turns_left-words : (held : Bytes → Bool) (words : List Bytes) (parts : List Part) → turns_left held (map Word words ++ parts) ≡ turns style dir (closed_in held tree) words + turns_left held parts
  turns_left-words held [] parts = let none = turns-nil style dir (closed_in held tree) in omega (arith, none)
  turns_left-words held (word ∷ words) parts =
      let closed = closed_in held tree in
      let later = turns_left-words held words parts in
      let one = turns-one style dir closed word in
      let all = turns-cons style dir closed word words in
      omega (arith, later, one, all)

  pub ask-words : (held : Bytes → Bool) (words : List Bytes) (parts : List Part) (name : Bytes) → AskFor held (map Word words ++ parts) name → IsAskedFor style dir (closed_in held tree) words name ⊎ AskFor held parts name
  ask-words held [] parts name h = inr h
  ask-words held (word ∷ words) parts name (inl h) = inl (asked_among style dir (closed_in held tree) (word ∷ []) (word ∷ words) (λ w among. Contains-append_left (word ∷ []) words w among) name h)
  ask-words held (word ∷ words) parts name (inr h) = by (ask-words held words parts name h)
    where
      by : IsAskedFor style dir (closed_in held tree) words name ⊎ AskFor held parts name → IsAskedFor style dir (closed_in held tree) (word ∷ words) name ⊎ AskFor held parts name
      by (inl asked) = inl (asked_among style dir (closed_in held tree) words (word ∷ words) (λ w among. Contains-append_right (word ∷ []) words w among) name asked)
      by (inr left) = inr left

  -- once a file that wasn't open is open and closed again, the same names are open
  reopened : (held wider : Bytes → Bool) (name : Bytes) → ((other : Bytes) → wider other ≡ more name held other) → held name ≡ false → (other : Bytes) → shut name wider other ≡ held other
  reopened held wider name same was_shut other =
      ap (λ b. not (bytes_eq name other) && b) (same other)
      ∙ closed_again (bytes_eq name other) (held other) (λ e. ap held (sym ((bytes_eq-Decides name other).0 e)) ∙ was_shut)

  -- the parts of a file that wasn't open, while it is open
  pub become-file : (held wider : Bytes → Bool) (file : Opened) (parts : List Part) → ((other : Bytes) → wider other ≡ more file.name held other) → held file.name ≡ false → become wider (parts_in file parts) ≡ expanded style dir (without file.name (closed_in held tree)) file.words ++ become held parts
  become-file held wider file parts same was_shut =
      become-words wider file.words (End file.name ∷ parts)
      ∙ ap (λ (l : List Bytes). expanded style dir (closed_in wider tree) file.words ++ l) (become-same (shut file.name wider) held (reopened held wider file.name same was_shut) parts)
      ∙ ap (λ (closed : Tree). expanded style dir closed file.words ++ become held parts) (closed_below held wider file.name tree same)

  pub turns_left-file : (held wider : Bytes → Bool) (file : Opened) (parts : List Part) → ((other : Bytes) → wider other ≡ more file.name held other) → held file.name ≡ false → turns_left wider (parts_in file parts) ≡ turns style dir (without file.name (closed_in held tree)) file.words + suc (turns_left held parts)
  turns_left-file held wider file parts same was_shut =
      turns_left-words wider file.words (End file.name ∷ parts)
      ∙ ap (λ n. turns style dir (closed_in wider tree) file.words + suc n) (turns_left-same (shut file.name wider) held (reopened held wider file.name same was_shut) parts)
      ∙ ap (λ (closed : Tree). turns style dir closed file.words + suc (turns_left held parts)) (closed_below held wider file.name tree same)

  pub ask-file : (held wider : Bytes → Bool) (file : Opened) (parts : List Part) → ((other : Bytes) → wider other ≡ more file.name held other) → held file.name ≡ false → (name : Bytes) → AskFor wider (parts_in file parts) name → IsAskedFor style dir (without file.name (closed_in held tree)) file.words name ⊎ AskFor held parts name
  ask-file held wider file parts same was_shut name h = by (ask-words wider file.words (End file.name ∷ parts) name h)
    where
      by : IsAskedFor style dir (closed_in wider tree) file.words name ⊎ AskFor (shut file.name wider) parts name → IsAskedFor style dir (without file.name (closed_in held tree)) file.words name ⊎ AskFor held parts name
      by (inl asked) = inl (subst (λ (closed : Tree). IsAskedFor style dir closed file.words name) (closed_below held wider file.name tree same) asked)
      by (inr left) = inr (ask-same (shut file.name wider) held (reopened held wider file.name same was_shut) parts name left)

  -- a word that opens a file becomes what the file's words become
  pub become-opens : (held wider : Bytes → Bool) (word : Bytes) (file : Opened) (parts : List Part) → ((other : Bytes) → wider other ≡ more file.name held other) → opened_by style dir (closed_in held tree) word ≡ Some file → become wider (parts_in file parts) ≡ become held (Word word ∷ parts)
  become-opens held wider word file parts same opens =
      let closed = closed_in held tree in
      become-file held wider file parts same (not_open style dir held tree word file opens)
      ∙ ap (λ (l : List Bytes). l ++ become held parts) (ap (in_place_of (expanded style dir) closed word) (sym opens) ∙ sym (expanded-one style dir closed word))

  -- and takes more turns than these
  pub turns_left-opens : (held wider : Bytes → Bool) (word : Bytes) (file : Opened) (parts : List Part) → ((other : Bytes) → wider other ≡ more file.name held other) → opened_by style dir (closed_in held tree) word ≡ Some file → turns_left wider (parts_in file parts) < turns_left held (Word word ∷ parts)
  turns_left-opens held wider word file parts same opens =
      let closed = closed_in held tree in
      let file_turns = turns_left-file held wider file parts same (not_open style dir held tree word file opens) in
      let one : turns style dir closed (word ∷ []) ≡ 2 + turns style dir (without file.name closed) file.words = turns-one style dir closed word ∙ ap (turns_at (turns style dir) closed) opens in
      omega (arith, file_turns, one)

  pub ask-opens : (held wider : Bytes → Bool) (word : Bytes) (file : Opened) (parts : List Part) → ((other : Bytes) → wider other ≡ more file.name held other) → opened_by style dir (closed_in held tree) word ≡ Some file → (name : Bytes) → AskFor wider (parts_in file parts) name → AskFor held (Word word ∷ parts) name
  ask-opens held wider word file parts same opens name h = by (ask-file held wider file parts same (not_open style dir held tree word file opens) name h)
    where
      by : IsAskedFor style dir (without file.name (closed_in held tree)) file.words name ⊎ AskFor held parts name → AskFor held (Word word ∷ parts) name
      by (inl asked) = inl (in_file {word = word} {opened = file} (Contains-push [] word) opens asked)
      by (inr left) = inr left

  -- a word that opens nothing stays
  pub become-stays : (held : Bytes → Bool) (word : Bytes) (parts : List Part) → opened_by style dir (closed_in held tree) word ≡ None → become held (Word word ∷ parts) ≡ word ∷ become held parts
  become-stays held word parts nothing =
      let closed = closed_in held tree in
      ap (λ (l : List Bytes). l ++ become held parts) (expanded-one style dir closed word ∙ ap (in_place_of (expanded style dir) closed word) nothing)

  -- each word takes a turn
  pub turns_left-word : (held : Bytes → Bool) (word : Bytes) (parts : List Part) → turns_left held parts < turns_left held (Word word ∷ parts)
  turns_left-word held word parts = by (opened_by style dir (closed_in held tree) word) (turns-one style dir (closed_in held tree) word)
    where
      by : (o : Option Opened) → turns style dir (closed_in held tree) (word ∷ []) ≡ turns_at (turns style dir) (closed_in held tree) o → turns_left held parts < turns_left held (Word word ∷ parts)
      by None one = omega (arith, one)
      by (Some file) one = omega (arith, one)

  -- a file that a word names is asked for
  pub ask-word : (held : Bytes → Bool) (word : Bytes) (parts : List Part) (name : Bytes) → path_of style dir word ≡ Some name → AskFor held (Word word ∷ parts) name
  ask-word held word parts name is = inl (by_word {word = word} (Contains-push [] word) is)
