-- Reading a text with escapes from the left, and what an escaped text spells.
use Rattle.std.proofs.Common.{◌≡◌, ℕ, ◌+◌, ◌*◌, ◌/◌, ◌%◌, ◌<◌, Bool, true, false, cond, ◌&&◌, nat_lt, Option, Some, None, List, [], ◌∷◌, ◌++◌, refl, sym, ap, subst, ◌∙◌, arith, inl, inr, ◌⊎◌, append_assoc, eqb, length}
use Rattle.std.specs.List.{AllZip, AllByRecursion, concat, flat_map}
use Rattle.std.specs.Option.{option_map}
use Rattle.std.specs.Char.{digit_value, digit_char, is_digit}
use Rattle.std.specs.Char.Escape.{escape_ascii, short_escape, hex_digit_at}
use Rattle.std.proofs.lemmas.Bool.{and_parts, cases_eq, ne_eqb, eqb-true, lt-ltb}
use Rattle.std.proofs.lemmas.List.{append-nil}
use Rattle.std.proofs.lemmas.Str.{digit_value-digit_char}
use Rattle.base_files.specs.Bytes.{Bytes}
use Rattle.ckeys_base.specs.Escapes.{Spells, itself, by_letter, by_digits, IsReading, meaning}
use Rattle.ckeys_base.specs.EscapeSteps.{first_spelled, after_backslash, two_digits}

chosen : {A : Type 0} (t : Bool) (x y z : A) → cond t x y ≡ z → ((t ≡ true) × (x ≡ z)) ⊎ ((t ≡ false) × (y ≡ z))
chosen true x y z e = inl (refl, e)
chosen false x y z e = inr (refl, e)

both_hold : {A : Type 0} (a b : Bool) (x y : A) → a ≡ true → b ≡ true → cond (a && b) x y ≡ x
both_hold a b x y p q = rw (p, q) refl

pair_of : (x b : ℕ) (y rest : Bytes) → ◌≡◌ {A = Option (ℕ × Bytes)} (Some (x, y)) (Some (b, rest)) → (x ≡ b) × (y ≡ rest)
pair_of x b y rest e = let p : ◌≡◌ {A = ℕ × Bytes} (x, y) (b, rest) = cc in (ap (λ (q : ℕ × Bytes). q.0) p, ap (λ (q : ℕ × Bytes). q.1) p)

none_some : {A : Type 0} (x : A) → None ≡ Some x → ⊥
none_some x e = cc

-- a piece that spells a byte is read so, whatever comes after it
pub spelled : (piece : Bytes) (b : ℕ) (rest : Bytes) → Spells piece b → first_spelled (piece ++ rest) ≡ Some (b, rest)
spelled piece b rest (itself other is) =
    let no : eqb b 92 ≡ false = ne_eqb b 92 other in
    ap (λ (p : Bytes). first_spelled (p ++ rest)) is ∙ rw no refl
spelled piece b rest (by_letter letter means is) = elim (cases_eq letter 120) [
  | inl x ↦ absurd (none_some b (sym (ap meaning x) ∙ means))
  | inr other ↦
      let no : eqb letter 120 ≡ false = ne_eqb letter 120 other in
      let read : after_backslash (letter ∷ rest) ≡ option_map {U = ℕ × Bytes} (λ c. (c, rest)) (meaning letter) = rw no refl in
      ap (λ (p : Bytes). first_spelled (p ++ rest)) is ∙ read ∙ ap (λ (m : Option ℕ). option_map {U = ℕ × Bytes} (λ c. (c, rest)) m) means
]
spelled piece b rest (by_digits high low h l value is) =
    ap (λ (p : Bytes). first_spelled (p ++ rest)) is
    ∙ both_hold (is_digit high 16) (is_digit low 16) (Some (digit_value high * 16 + digit_value low, rest)) None h l
    ∙ ap (λ (c : ℕ). Some (c, rest)) (sym value)

mapped : (more : Bytes) (m : Option ℕ) (b : ℕ) (rest : Bytes) → option_map {U = ℕ × Bytes} (λ c. (c, more)) m ≡ Some (b, rest) → (m ≡ Some b) × (more ≡ rest)
mapped more None b rest e = absurd (none_some (b, rest) e)
mapped more (Some c) b rest e = let p = pair_of c b more rest e in (ap (λ (x : ℕ). Some x) p.0, p.1)

digits_sound : (more : Bytes) (b : ℕ) (rest : Bytes) → two_digits more ≡ Some (b, rest) → (piece : Bytes) × (92 ∷ 120 ∷ more ≡ piece ++ rest) × Spells piece b
digits_sound [] b rest e = absurd (none_some (b, rest) e)
digits_sound (high ∷ []) b rest e = absurd (none_some (b, rest) e)
digits_sound (high ∷ low ∷ more) b rest e = elim (chosen (is_digit high 16 && is_digit low 16) (Some (digit_value high * 16 + digit_value low, more)) None (Some (b, rest)) e) [
  | inl taken ↦
      let digits = and_parts (is_digit high 16) (is_digit low 16) taken.0 in
      let p = pair_of (digit_value high * 16 + digit_value low) b more rest taken.1 in
      (92 ∷ 120 ∷ high ∷ low ∷ [], ap (λ (x : Bytes). 92 ∷ 120 ∷ high ∷ low ∷ x) p.1, by_digits high low digits.0 digits.1 (sym p.0) refl)
  | inr passed ↦ absurd (none_some (b, rest) passed.1)
]

after_sound : (after : Bytes) (b : ℕ) (rest : Bytes) → after_backslash after ≡ Some (b, rest) → (piece : Bytes) × (92 ∷ after ≡ piece ++ rest) × Spells piece b
after_sound [] b rest e = absurd (none_some (b, rest) e)
after_sound (letter ∷ more) b rest e = elim (chosen (eqb letter 120) (two_digits more) (option_map {U = ℕ × Bytes} (λ c. (c, more)) (meaning letter)) (Some (b, rest)) e) [
  | inl taken ↦
      let found = digits_sound more b rest taken.1 in
      (found.0, ap (λ (x : ℕ). 92 ∷ x ∷ more) (eqb-true letter 120 taken.0) ∙ found.1, found.2)
  | inr passed ↦
      let found = mapped more (meaning letter) b rest passed.1 in
      (92 ∷ letter ∷ [], ap (λ (x : Bytes). 92 ∷ letter ∷ x) found.1, by_letter letter found.0 refl)
]

-- what is read first is such a piece
pub first-sound : (text : Bytes) (b : ℕ) (rest : Bytes) → first_spelled text ≡ Some (b, rest) → (piece : Bytes) × (text ≡ piece ++ rest) × Spells piece b
first-sound [] b rest e = absurd (none_some (b, rest) e)
first-sound (first ∷ after) b rest e = elim (cases_eq first 92) [
  | inl is ↦
      let found = after_sound after b rest (sym (ap (λ (x : ℕ). first_spelled (x ∷ after)) is) ∙ e) in
      (found.0, ap (λ (x : ℕ). x ∷ after) is ∙ found.1, found.2)
  | inr other ↦
      let no : eqb first 92 ≡ false = ne_eqb first 92 other in
      let read : first_spelled (first ∷ after) ≡ Some (first, after) = rw no refl in
      let p = pair_of first b after rest (sym read ∙ e) in
      (first ∷ [], ap (λ (x : Bytes). first ∷ x) p.1, itself (λ is. other (p.0 ∙ is)) (ap (λ (x : ℕ). x ∷ []) p.0))
]

concat-snoc : (pieces : List Bytes) (piece : Bytes) (rest : Bytes) → concat pieces ++ (piece ++ rest) ≡ concat (pieces ++ piece ∷ []) ++ rest
concat-snoc [] piece rest = ap (λ (x : Bytes). x ++ rest) (sym (append-nil piece))
concat-snoc (p ∷ ps) piece rest = append_assoc p (concat ps) (piece ++ rest) ∙ ap (λ (x : Bytes). p ++ x) (concat-snoc ps piece rest) ∙ sym (append_assoc p (concat (ps ++ piece ∷ [])) rest)

zip-snoc : (pieces : List Bytes) (plain : Bytes) (piece : Bytes) (b : ℕ) → AllZip Spells pieces plain → Spells piece b → AllZip Spells (pieces ++ piece ∷ []) (plain ++ b ∷ [])
zip-snoc [] [] piece b zip is = (is, tt)
zip-snoc [] (x ∷ xs) piece b zip is = absurd zip
zip-snoc (p ∷ ps) [] piece b zip is = absurd zip
zip-snoc (p ∷ ps) (x ∷ xs) piece b zip is = (zip.0, zip-snoc ps xs piece b zip.1 is)

next-by_pieces : (pieces : List Bytes) (more rest : Bytes) → rest ≡ concat pieces → AllZip Spells pieces more
    → ((rest ≡ []) × (more ≡ [])) ⊎ ((b : ℕ) × (next : Bytes) × (later : Bytes) × (first_spelled rest ≡ Some (b, next)) × (more ≡ b ∷ later) × IsReading next later)
next-by_pieces [] [] rest is zip = inl (is, refl)
next-by_pieces [] (x ∷ xs) rest is zip = absurd zip
next-by_pieces (p ∷ ps) [] rest is zip = absurd zip
next-by_pieces (p ∷ ps) (x ∷ xs) rest is zip = inr (x, concat ps, xs, ap first_spelled is ∙ spelled p x (concat ps) zip.0, refl, (ps, refl, zip.1))

-- the bytes so far are spelled by what is read, and each reading of the text goes on from there
pub record ReadsTo (text plain rest : Bytes) : Type 0 where
  pub sound : (pieces : List Bytes) × (text ≡ concat pieces ++ rest) × AllZip Spells pieces plain
  pub only : (other : Bytes) → IsReading text other → (more : Bytes) × (other ≡ plain ++ more) × IsReading rest more

pub reads-step : (text plain rest : Bytes) (b : ℕ) (next : Bytes) → ReadsTo text plain rest → first_spelled rest ≡ Some (b, next) → ReadsTo text (plain ++ b ∷ []) next
reads-step text plain rest b next so_far e =
    let found = first-sound rest b next e in
    record {
      sound = (
        so_far.sound.0 ++ found.0 ∷ [],
        so_far.sound.1 ∙ ap (λ (x : Bytes). concat so_far.sound.0 ++ x) found.1 ∙ concat-snoc so_far.sound.0 found.0 next,
        zip-snoc so_far.sound.0 plain found.0 b so_far.sound.2 found.2,
      );
      only = λ other is.
          let onward = so_far.only other is in
          elim (next-by_pieces onward.2.0 onward.0 rest onward.2.1 onward.2.2) [
            | inl end ↦ absurd (none_some (b, next) (sym (ap first_spelled end.0) ∙ e))
            | inr later ↦
                let same = pair_of later.0 b later.1 next (sym later.3 ∙ e) in (
                  later.2,
                  onward.1 ∙ ap (λ (x : Bytes). plain ++ x) (later.4 ∙ ap (λ (x : ℕ). x ∷ later.2) same.0) ∙ sym (append_assoc plain (b ∷ []) later.2),
                  subst (λ (x : Bytes). IsReading x later.2) same.1 later.5,
                )
          ];
    }

pub none-left : (rest : Bytes) → length rest ≡ 0 → rest ≡ []
none-left [] is = refl
none-left (x ∷ xs) is = absurd (omega arith)

pub reads-only : (text plain : Bytes) → ReadsTo text plain [] → (other : Bytes) → IsReading text other → other ≡ plain
reads-only text plain so_far other is =
    let onward = so_far.only other is in
    elim (next-by_pieces onward.2.0 onward.0 [] onward.2.1 onward.2.2) [
      | inl end ↦ onward.1 ∙ ap (λ (x : Bytes). plain ++ x) end.1 ∙ append-nil plain
      | inr later ↦ absurd (none_some (later.0, later.1) later.3)
    ]

-- where nothing can be read
pub reads-nothing : (text plain rest : Bytes) → ReadsTo text plain rest → first_spelled rest ≡ None → (rest ≡ [] → ⊥) → (other : Bytes) → IsReading text other → ⊥
reads-nothing text plain rest so_far e more_left other is =
    let onward = so_far.only other is in
    elim (next-by_pieces onward.2.0 onward.0 rest onward.2.1 onward.2.2) [
      | inl end ↦ more_left end.0
      | inr later ↦ none_some (later.0, later.1) (sym e ∙ later.3)
    ]

-- a byte as it is escaped spells itself
short-none : (b : ℕ) → (b ≡ 9 → ⊥) → (b ≡ 13 → ⊥) → (b ≡ 10 → ⊥) → (b ≡ 39 → ⊥) → (b ≡ 34 → ⊥) → (b ≡ 92 → ⊥) → short_escape b ≡ 0
short-none b tab return line quote double slash = rw (ne_eqb b 9 tab, ne_eqb b 13 return, ne_eqb b 10 line, ne_eqb b 39 quote, ne_eqb b 34 double, ne_eqb b 92 slash) refl

digit-is : (d : ℕ) → d < 16 → is_digit (digit_char d) 16 ≡ true
digit-is d lt = lt-ltb (digit_value (digit_char d)) 16 (omega (arith, digit_value-digit_char d (omega arith)))

hexadecimal-spells : (b : ℕ) → b < 256 → Spells (92 ∷ 120 ∷ hex_digit_at 0x10 b ∷ hex_digit_at 1 b ∷ []) b
hexadecimal-spells b lt =
    by_digits (hex_digit_at 0x10 b) (hex_digit_at 1 b) (digit-is (b / 16 % 16) (omega arith)) (digit-is (b / 1 % 16) (omega arith))
    (omega (arith, digit_value-digit_char (b / 16 % 16) (omega arith), digit_value-digit_char (b / 1 % 16) (omega arith))) refl

plain-spells : (b : ℕ) → b < 256 → (b ≡ 92 → ⊥) → short_escape b ≡ 0 → Spells (escape_ascii b) b
plain-spells b lt slash none =
    let other = 92 ∷ 120 ∷ hex_digit_at 0x10 b ∷ hex_digit_at 1 b ∷ [] in
    let long : escape_ascii b ≡ cond (nat_lt b 32) other (cond (nat_lt b 127) (b ∷ []) other) = ap (λ (n : ℕ). cond (nat_lt 0 n) (92 ∷ n ∷ []) (cond (nat_lt b 32) other (cond (nat_lt b 127) (b ∷ []) other))) none in
    let digits = hexadecimal-spells b lt in
    elim (chosen (nat_lt b 32) other (cond (nat_lt b 127) (b ∷ []) other) (escape_ascii b) (sym long)) [
      | inl low ↦ subst (λ (p : Bytes). Spells p b) low.1 digits
      | inr high ↦ elim (chosen (nat_lt b 127) (b ∷ []) other (escape_ascii b) high.1) [
        | inl shown ↦ subst (λ (p : Bytes). Spells p b) shown.1 (itself slash refl)
        | inr hidden ↦ subst (λ (p : Bytes). Spells p b) hidden.1 digits
      ]
    ]

lettered : (b k letter : ℕ) → b ≡ k → meaning letter ≡ Some k → escape_ascii k ≡ 92 ∷ letter ∷ [] → Spells (escape_ascii b) b
lettered b k letter is means escaped = by_letter letter (means ∙ ap (λ (x : ℕ). Some x) (sym is)) (ap escape_ascii is ∙ escaped)

pub escaped-spells : (b : ℕ) → b < 256 → Spells (escape_ascii b) b
escaped-spells b lt = elim (cases_eq b 9) [
  | inl is ↦ lettered b 9 116 is refl refl
  | inr tab ↦
      elim (cases_eq b 13) [
        | inl is ↦ lettered b 13 114 is refl refl
        | inr return ↦
            elim (cases_eq b 10) [
              | inl is ↦ lettered b 10 110 is refl refl
              | inr line ↦
                  elim (cases_eq b 39) [
                    | inl is ↦ lettered b 39 39 is refl refl
                    | inr quote ↦
                        elim (cases_eq b 34) [
                          | inl is ↦ lettered b 34 34 is refl refl
                          | inr double ↦
                              elim (cases_eq b 92) [
                                | inl is ↦ lettered b 92 92 is refl refl
                                | inr slash ↦
                                    plain-spells b lt slash (short-none b tab return line quote double slash)
                              ]
                        ]
                  ]
            ]
      ]
]

-- so an escaped text is a reading of what it was made from
pub escaped-reading : (plain : Bytes) → AllByRecursion (λ b. b < 256) plain → IsReading (flat_map escape_ascii plain) plain
escaped-reading [] small = ([], refl, tt)
escaped-reading (b ∷ bs) small =
    let later = escaped-reading bs small.1 in
    (escape_ascii b ∷ later.0, ap (λ (x : Bytes). escape_ascii b ++ x) later.1, (escaped-spells b small.0, later.2))

pub reading-escaped : (text plain : Bytes) → AllByRecursion (λ b. b < 256) plain → text ≡ flat_map escape_ascii plain → IsReading text plain
reading-escaped text plain small is = subst (λ (x : Bytes). IsReading x plain) (sym is) (escaped-reading plain small)
