-- Lists of texts: a search of them, and one more that isn't there yet.
use Rattle.std.proofs.Common.{◌≡◌, ℕ, true≢false, append-nil, refl, ◌∙◌, ap, sym, subst, Bool, true, false, cond, ◌||◌, List, [], ◌∷◌, ◌++◌, find, map, Bor, Option, None, Some}
use Rattle.std.specs.Cmp.Lexicographic.{bytes_decides, nat_list_eq_equiv}
use Rattle.std.specs.Option.{option_map}
use Rattle.std.specs.Str.{bytes_eq}
use Rattle.std.proofs.lemmas.List.Folds.{list_any-append}
use Rattle.base_files.specs.Bytes.{Bytes}
use Rattle.sccache_recorded_builds.specs.Beware.{AreOnce, is_among, is_named, sooner}

abbrev Text : Type 0
Text = Bor Bytes

read_by : (b : Bool) (text : Text) (rest : Option Text) (more : Option Bytes)
    → option_map (λ (text : Text). text.now) rest ≡ more
    → option_map (λ (text : Text). text.now) (cond b (Some text) rest) ≡ cond b (Some text.now) more
read_by true text rest more same = refl
read_by false text rest more same = same

-- the first that passes is the first of those that are read
pub read-find : (test : Bytes → Bool) (texts : List Text)
    → option_map (λ (text : Text). text.now) (find (λ (text : Text). test text.now) texts)
    ≡ find test (map (λ (text : Text). text.now) texts)
read-find test [] = refl
read-find test (text ∷ texts) = read_by (test text.now) text _ _ (read-find test texts)

-- the first that is there is the sooner one
pub sooner_found :
    (o later : Option Bytes) (option : Bytes) → Some option ≡ o → Some option ≡ sooner o later
sooner_found o later option is = subst (λ (o : Option Bytes). Some option ≡ sooner o later) is refl

pub later_found : (o later found : Option Bytes) → None ≡ o → found ≡ later → found ≡ sooner o later
later_found o later found is same = subst (λ (o : Option Bytes). found ≡ sooner o later) is same

or_true : (b : Bool) → b ≡ true → (c : Bool) → b ≡ (b || c)
or_true b is c = subst (λ (b : Bool). b ≡ (b || c)) (sym is) refl

or_false : (b : Bool) → b ≡ (b || false)
or_false true = refl
or_false false = refl

-- one that is there already changes nothing
pub among_already : (found : List Text) (there option : Bytes) → is_among there found ≡ true
    → is_among option found ≡ (is_among option found || bytes_eq there option)
among_already found there option is = by (bytes_eq there option) refl
  where
    by : (b : Bool) → bytes_eq there option ≡ b → is_among option found ≡ (is_among option found || b)
    by false differs = or_false (is_among option found)
    by true same =
        or_true _
        (subst (λ (text : Bytes). is_among text found ≡ true) ((bytes_decides there option).0 same)
        is)
        true

pub named_already : (found : List Text) (there : Bytes) (o : Option Bytes) → Some there ≡ o
    → is_among there found ≡ true → (option : Bytes)
    → is_among option found ≡ (is_among option found || is_named option o)
named_already found there o is among option =
    subst
    (λ (o : Option Bytes). is_among option found ≡ (is_among option found || is_named option o)) is
    (among_already found there option among)

-- one more is among them
pub among_pushed : (found : List Text) (one : Text) (option : Bytes)
    → is_among option (found ++ one ∷ []) ≡ (is_among option found || bytes_eq one.now option)
among_pushed found one option =
    list_any-append (λ (other : Text). bytes_eq other.now option) found (one ∷ [])
    ∙ ap (λ (b : Bool). is_among option found || b) (sym (or_false (bytes_eq one.now option)))

or_falses : (a b : Bool) → a ≡ false → b ≡ false → (a || b) ≡ false
or_falses true b is other = is
or_falses false b is other = other

or_false_left : (a b : Bool) → (a || b) ≡ false → a ≡ false
or_false_left true b is = is
or_false_left false b is = refl

or_false_right : (a b : Bool) → (a || b) ≡ false → b ≡ false
or_false_right true b is = absurd (true≢false is)
or_false_right false b is = is

-- and each is there once still
pub once_pushed : (found : List Text) (one : Text) → AreOnce found → is_among one.now found ≡ false
    → AreOnce (found ++ one ∷ [])
once_pushed [] one once new = (refl, tt)
once_pushed (text ∷ found) one once new =
    let differs = or_false_left (bytes_eq text.now one.now) (is_among one.now found) new in
    let others =
    or_falses _ (bytes_eq one.now text.now) once.0
    (nat_list_eq_equiv.symm one.now text.now ∙ differs) in (
      among_pushed found one text.now ∙ others,
      once_pushed found one once.1
          (or_false_right (bytes_eq text.now one.now) (is_among one.now found) new),
    )

-- What one that is noted first leaves to those after it: where a name is the first, it is none of those.
pub rest_noted : (one : Text) (rest : List Text) → AreOnce (one ∷ rest)
    → (before : List ℕ) (number : ℕ) (name : Bytes)
    → (before ++ (cond (bytes_eq name one.now) (number ∷ []) []))
    ++ cond (is_among name rest) (number ∷ []) []
    ≡ before ++ cond (is_among name (one ∷ rest)) (number ∷ []) []
rest_noted one rest once before number name =
    by (bytes_eq name one.now) (bytes_eq one.now name) refl (nat_list_eq_equiv.symm one.now name)
  where
    by : (b c : Bool) → bytes_eq name one.now ≡ b → c ≡ bytes_eq name one.now
        → (before ++ (cond b (number ∷ []) [])) ++ cond (is_among name rest) (number ∷ []) []
        ≡ before ++ cond (c || is_among name rest) (number ∷ []) []
    by true c is same =
        let gone =
        ap (λ (b : Bool). cond b (number ∷ []) [])
        (subst (λ (text : Bytes). is_among text rest ≡ false)
        (sym ((bytes_decides name one.now).0 is)) once.0) in
        let here =
        ap (λ (b : Bool). before ++ cond (b || is_among name rest) (number ∷ []) [])
        (sym (same ∙ is)) in
        ap (λ (numbers : List ℕ). (before ++ number ∷ []) ++ numbers) gone
        ∙ append-nil (before ++ number ∷ []) ∙ here
    by false c is same =
        ap (λ (numbers : List ℕ). numbers ++ cond (is_among name rest) (number ∷ []) [])
        (append-nil before)
        ∙ ap (λ (b : Bool). before ++ cond (b || is_among name rest) (number ∷ []) []) (sym (same ∙ is))
