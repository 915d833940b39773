-- Names as written between quotes.
use Rattle.std.proofs.Common.{◌≡◌, ◌<◌, ◌+◌, ◌==◌, ℕ, suc, Bool, true, false, cond, List, [], ◌∷◌, ◌++◌, take, drop, length, get_or, refl, ap, sym, ◌∙◌, add-one, drop-cons, append_assoc}
use Rattle.std.proofs.lemmas.List.{take_more}
use Rattle.ckeys_marker_walk.specs.Scanning.{Name, closed, unclosed, misspelled, led_by, name_from}
use Rattle.ckeys_marker_walk.specs.Spelling.{is_special}

-- the bytes and then the name
abbrev pub led_all : List ℕ → Name → Name
led_all bytes (closed raw) = closed (bytes ++ raw)
led_all bytes unclosed = unclosed
led_all bytes misspelled = misspelled

pub led_all-more : (bytes : List ℕ) (b : ℕ) (name : Name) → led_all (bytes ++ b ∷ []) name ≡ led_all bytes (led_by b name)
led_all-more bytes b (closed raw) = ap closed (append_assoc bytes (b ∷ []) raw)
led_all-more bytes b unclosed = refl
led_all-more bytes b misspelled = refl

-- after a backslash the name goes on
pub step_escaped : (bytes : List ℕ) (i : ℕ) → i < length bytes → is_special (get_or bytes i 0) ≡ true →
    led_all (take (i + 1) bytes) (name_from false (drop (i + 1) bytes)) ≡ led_all (take i bytes) (name_from true (drop i bytes))
step_escaped bytes i lt special =
    let b = get_or bytes i 0 in
    ap (λ (front : List ℕ). led_all front (name_from false (drop (i + 1) bytes))) (take_more bytes i 0 lt)
    ∙ led_all-more (take i bytes) b (name_from false (drop (i + 1) bytes))
    ∙ ap (λ (n : ℕ). led_all (take i bytes) (led_by b (name_from false (drop n bytes)))) (add-one i)
    ∙ sym (ap (λ (rest : List ℕ). led_all (take i bytes) (name_from true rest)) (drop-cons bytes i 0 lt) ∙ ap (λ (t : Bool). led_all (take i bytes) (cond t (led_by b (name_from false (drop (suc i) bytes))) misspelled)) special)

-- at another byte than a quote it goes on too
pub step_plain : (bytes : List ℕ) (i : ℕ) (escapes : Bool) → i < length bytes → (get_or bytes i 0 == 34) ≡ false → escapes ≡ (get_or bytes i 0 == 92) →
    led_all (take (i + 1) bytes) (name_from escapes (drop (i + 1) bytes)) ≡ led_all (take i bytes) (name_from false (drop i bytes))
step_plain bytes i escapes lt quote is =
    let b = get_or bytes i 0 in
    ap (λ (front : List ℕ). led_all front (name_from escapes (drop (i + 1) bytes))) (take_more bytes i 0 lt)
    ∙ led_all-more (take i bytes) b (name_from escapes (drop (i + 1) bytes))
    ∙ ap (λ (n : ℕ). led_all (take i bytes) (led_by b (name_from escapes (drop n bytes)))) (add-one i)
    ∙ ap (λ (e : Bool). led_all (take i bytes) (led_by b (name_from e (drop (suc i) bytes)))) is
    ∙ sym (ap (λ (rest : List ℕ). led_all (take i bytes) (name_from false rest)) (drop-cons bytes i 0 lt) ∙ ap (λ (t : Bool). led_all (take i bytes) (cond t (closed []) (led_by b (name_from (b == 92) (drop (suc i) bytes))))) quote)
