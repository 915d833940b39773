-- What one step of the cutting makes.
use Rattle.std.proofs.Common.{◌≡◌, ℕ, List, [], ◌∷◌, ◌++◌, Option, None, Some, Bool, true, false, cond, ◌==◌, unwrap_or, inl, inr, refl, ap, sym, subst, ◌∙◌}
use Rattle.std.proofs.lemmas.List.{append-nil}
use Rattle.std.proofs.lemmas.Bool.Decides.{Decides-eqb}
use Rattle.base_files.specs.Bytes.{Bytes}
use Rattle.cmdlines_base.specs.Table.{Entry, after, may_follow, delimiter_allows, longest_fit}
use Rattle.cmdlines_base.specs.Reading.{Item, raw, unknown, flag, valued, after_dashes, is_after, Start, whole, awaits, ends, before, is_double_dash, loose, value_in, start_as, start_either, first_by, first_word, from_last, reading}
use Rattle.cmdlines_base.specs.Cutting.{Place, is_seen, reading_by, reading_at, past, past_dashes, taken, IsWrittenAs}
use Rattle.cmdlines_base.specs.Values.{Values, Takes, TakesRefused, FailsToTake, Cuts, CutsRefused, FailsToCut}
use Rattle.cmdlines_base.specs.declared.argument.ArgDisposition.{ArgDisposition}
use Rattle.cmdlines_base.specs.declared.argument.ArgDisposition.TheVariants.{Separated, CanBeConcatenated, CanBeSeparated, Concatenated}
use Rattle.cmdlines_base.specs.declared.argument.Argument.{Argument}
use Rattle.cmdlines_base.specs.declared.argument.Argument.TheVariants.{Raw}
use Rattle.cmdlines_base.specs.declared.argument_error.ArgParseError.{ArgParseError}
use Rattle.cmdlines_base.specs.declared.argument_error.ArgParseError.TheVariants.{UnexpectedEndOfArgs, InvalidUnicode, Other, Memory}
use Rattle.cmdlines_base.specs.declared.cutting.DoubleDashes.{DoubleDashes}
use Rattle.cmdlines_base.specs.declared.cutting.DoubleDashes.TheVariants.{Ordinary, Awaited, Seen}
use Rattle.cmdlines_base.proofs.TableLemmas.{IsLongestOf, IsLongestOf-longest_fit, after-append}
use Rattle.cmdlines_base.proofs.ReadingLemmas.{reading-alone, reading-with_value, reading-options_end}

-- What is consumed for an item: words that spell it, before those that are left.
pub record Consumes {K : Type 0} (words : List Bytes) (item : Item K) (left : List Bytes) : Type 0 where
  pub consumed : List Bytes
  pub apart : words ≡ consumed ++ left
  pub written : IsWrittenAs item consumed

-- equal pairs have equal parts
pair-parts : {A B : Type 0} (p q : A × B) → Some p ≡ Some q → (p.0 ≡ q.0) × (p.1 ≡ q.1)
pair-parts {A} {B} p q h = let e : p ≡ q = cc in (ap (λ (x : A × B). x.0) e, ap (λ (x : A × B). x.1) e)

loose-written : (K : Type 0) (w : Bytes) → IsWrittenAs {K = K} (loose w) (w ∷ [])
loose-written K [] = inl refl
loose-written K (b ∷ bs) = by (b == 45)
  where
    by : (s : Bool) → IsWrittenAs {K = K} (cond s (unknown (b ∷ bs)) (raw (b ∷ bs))) ((b ∷ bs) ∷ [])
    by true = inl refl
    by false = inl refl

module _ {K : Type 0} where
  joined-separable : (f : Bytes) (k : K) (d : Option ℕ) (b : ℕ) (bs : Bytes) → delimiter_allows d b ≡ true → IsWrittenAs (valued f k (value_in d (b ∷ bs)) (CanBeSeparated d)) ((f ++ b ∷ bs) ∷ [])
  joined-separable f k None b bs may = inl refl
  joined-separable f k (Some x) b [] may = inr (let same : b ≡ x = (Decides-eqb b x).0 may in rw same refl)
  joined-separable f k (Some x) b (c ∷ cs) may = inl (let same : b ≡ x = (Decides-eqb b x).0 may in rw same refl)

  joined-concatenated : (f : Bytes) (k : K) (d : Option ℕ) (r : Bytes) → may_follow (record { flag = f; kind = k; takes = Some (Concatenated d) }) r ≡ true → IsWrittenAs (valued f k (value_in d r) (Concatenated d)) ((f ++ r) ∷ [])
  joined-concatenated f k None [] may = inl (ap (λ (w : Bytes). w ∷ []) (append-nil f))
  joined-concatenated f k (Some x) [] may = inl (ap (λ (w : Bytes). w ∷ []) (append-nil f))
  joined-concatenated f k None (b ∷ bs) may = inl refl
  joined-concatenated f k (Some x) (b ∷ []) may = inr (let same : b ≡ x = (Decides-eqb b x).0 may in rw same refl)
  joined-concatenated f k (Some x) (b ∷ c ∷ cs) may = inl (let same : b ≡ x = (Decides-eqb b x).0 may in rw same refl)

  -- an item by itself
  whole-consumes : (word : Bytes) (a : Item K) (rest : List Bytes) (item : Item K) (left : List Bytes) → IsWrittenAs a (word ∷ []) → taken (whole a) rest ≡ Some (item, left) → Consumes (word ∷ rest) item left
  whole-consumes word a rest item left w h =
      let parts = pair-parts _ _ h in
      let same : a ≡ item = parts.0 in
      let stays : rest ≡ left = parts.1 in
      record { consumed = word ∷ []; apart = ap (λ (ws : List Bytes). word ∷ ws) stays; written = subst (λ i. IsWrittenAs i (word ∷ [])) same w }

  -- a flag that awaits a value
  awaits-consumes : (f : Bytes) (k : K) (d : ArgDisposition) → ((v : Bytes) → IsWrittenAs (valued f k v d) (f ∷ v ∷ [])) → (rest : List Bytes) (item : Item K) (left : List Bytes) → taken (awaits f k d) rest ≡ Some (item, left) → Consumes (f ∷ rest) item left
  awaits-consumes f k d w (v ∷ rest) item left h =
      let parts = pair-parts _ _ h in
      let same : valued f k v d ≡ item = parts.0 in
      let stays : rest ≡ left = parts.1 in
      record { consumed = f ∷ v ∷ []; apart = ap (λ (ws : List Bytes). f ∷ v ∷ ws) stays; written = subst (λ i. IsWrittenAs i (f ∷ v ∷ [])) same (w v) }
  awaits-consumes f k (CanBeConcatenated None) w [] item left h =
      let parts = pair-parts _ _ h in
      let same : valued f k [] (Concatenated None) ≡ item = parts.0 in
      let stays : [] ≡ left = parts.1 in
      record { consumed = f ∷ []; apart = ap (λ (ws : List Bytes). f ∷ ws) stays; written = subst (λ i. IsWrittenAs i (f ∷ [])) same (inl refl) }
  awaits-consumes f k (CanBeConcatenated (Some x)) w [] item left h = cc
  awaits-consumes f k Separated w [] item left h = cc
  awaits-consumes f k (CanBeSeparated d) w [] item left h = cc
  awaits-consumes f k (Concatenated d) w [] item left h = cc

  either-consumes : (f : Bytes) (k : K) (d : Option ℕ) (r : Bytes) → ((b : ℕ) (bs : Bytes) → r ≡ b ∷ bs → delimiter_allows d b ≡ true) → (rest : List Bytes) (item : Item K) (left : List Bytes) → taken (start_either f k d r) rest ≡ Some (item, left) → Consumes ((f ++ r) ∷ rest) item left
  either-consumes f k d [] may rest item left h = subst (λ (w : Bytes). Consumes (w ∷ rest) item left) (sym (append-nil f)) (awaits-consumes f k (CanBeConcatenated d) (λ v. inl refl) rest item left h)
  either-consumes f k d (b ∷ bs) may rest item left h = whole-consumes (f ++ b ∷ bs) (valued f k (value_in d (b ∷ bs)) (CanBeSeparated d)) rest item left (joined-separable f k d b bs (may b bs refl)) h

  -- nothing follows a flag that isn't joined
  alone : (f : Bytes) (k : K) (takes : Option ArgDisposition) (r : Bytes) → ((b : ℕ) (bs : Bytes) → may_follow (record { flag = f; kind = k; takes = takes }) (b ∷ bs) ≡ false) → may_follow (record { flag = f; kind = k; takes = takes }) r ≡ true → f ≡ f ++ r
  alone f k takes [] never may = sym (append-nil f)
  alone f k takes (b ∷ bs) never may = let stops = never b bs in cc

  start-consumes : (f : Bytes) (k : K) (takes : Option ArgDisposition) (r : Bytes) → may_follow (record { flag = f; kind = k; takes = takes }) r ≡ true → (rest : List Bytes) (item : Item K) (left : List Bytes) → taken (start_as f k takes r) rest ≡ Some (item, left) → Consumes ((f ++ r) ∷ rest) item left
  start-consumes f k None r may rest item left h = subst (λ (w : Bytes). Consumes (w ∷ rest) item left) (alone f k None r (λ b bs. refl) may) (whole-consumes f (flag f k) rest item left (inl refl) h)
  start-consumes f k (Some Separated) r may rest item left h = subst (λ (w : Bytes). Consumes (w ∷ rest) item left) (alone f k (Some Separated) r (λ b bs. refl) may) (awaits-consumes f k Separated (λ v. inl refl) rest item left h)
  start-consumes f k (Some (Concatenated d)) r may rest item left h = whole-consumes (f ++ r) (valued f k (value_in d r) (Concatenated d)) rest item left (joined-concatenated f k d r may) h
  start-consumes f k (Some (CanBeConcatenated d)) r may rest item left h = either-consumes f k d r (λ b bs e. ap (may_follow (record { flag = f; kind = k; takes = Some (CanBeConcatenated d) })) (sym e) ∙ may) rest item left h
  start-consumes f k (Some (CanBeSeparated d)) r may rest item left h = either-consumes f k d r (λ b bs e. ap (may_follow (record { flag = f; kind = k; takes = Some (CanBeSeparated d) })) (sym e) ∙ may) rest item left h

module _ {K : Type 0} (table : List (Entry K)) (word : Bytes) where
  abbrev start : Start K
  start = first_by (longest_fit table word) word

  word-consumes : (rest : List Bytes) (item : Item K) (left : List Bytes) → taken start rest ≡ Some (item, left) → Consumes (word ∷ rest) item left
  word-consumes rest item left = by (longest_fit table word) (IsLongestOf-longest_fit table word)
    where
      by : (o : Option (Entry K)) → IsLongestOf table word o → taken (first_by o word) rest ≡ Some (item, left) → Consumes (word ∷ rest) item left
      by None d h = whole-consumes word (loose word) rest item left (loose-written K word) h
      by (Some e) d h =
          let r : Bytes = d.fits.0 in
          let stands : after e.flag word ≡ Some r = ap (after e.flag) d.fits.1 ∙ after-append e.flag r in
          let h' : taken (start_as e.flag e.kind e.takes r) rest ≡ Some (item, left) = ap (λ o. taken (start_as e.flag e.kind e.takes (unwrap_or o [])) rest) (sym stands) ∙ h in
          subst (λ (w : Bytes). Consumes (w ∷ rest) item left) (sym d.fits.1) (start-consumes e.flag e.kind e.takes r d.fits.2 rest item left h')

  -- what a word by its entry makes doesn't come after double dashes
  word-before : (rest : List Bytes) (item : Item K) (left : List Bytes) → taken start rest ≡ Some (item, left) → is_after item ≡ false
  word-before rest item left = by (longest_fit table word)
    where
      loose-before : (w : Bytes) → is_after {K = K} (loose w) ≡ false
      loose-before [] = refl
      loose-before (b ∷ bs) = at (b == 45)
        where
          at : (s : Bool) → is_after {K = K} (cond s (unknown (b ∷ bs)) (raw (b ∷ bs))) ≡ false
          at true = refl
          at false = refl

      whole-before : (a : Item K) → is_after a ≡ false → taken (whole a) rest ≡ Some (item, left) → is_after item ≡ false
      whole-before a is h = let parts = pair-parts _ _ h in ap is_after (sym parts.0) ∙ is

      awaits-before : (f : Bytes) (k : K) (d : ArgDisposition) (rest : List Bytes) → taken (awaits f k d) rest ≡ Some (item, left) → is_after item ≡ false
      awaits-before f k d (v ∷ rest) h = let parts = pair-parts _ _ h in ap is_after (sym parts.0)
      awaits-before f k (CanBeConcatenated None) [] h = let parts = pair-parts _ _ h in ap is_after (sym parts.0)
      awaits-before f k (CanBeConcatenated (Some x)) [] h = cc
      awaits-before f k Separated [] h = cc
      awaits-before f k (CanBeSeparated d) [] h = cc
      awaits-before f k (Concatenated d) [] h = cc

      either-before : (f : Bytes) (k : K) (d : Option ℕ) (r : Bytes) → taken (start_either f k d r) rest ≡ Some (item, left) → is_after item ≡ false
      either-before f k d [] h = awaits-before f k (CanBeConcatenated d) rest h
      either-before f k d (b ∷ bs) h = whole-before (valued f k (value_in d (b ∷ bs)) (CanBeSeparated d)) refl h

      at : (f : Bytes) (k : K) (takes : Option ArgDisposition) (r : Bytes) → taken (start_as f k takes r) rest ≡ Some (item, left) → is_after item ≡ false
      at f k None r h = whole-before (flag f k) refl h
      at f k (Some Separated) r h = awaits-before f k Separated rest h
      at f k (Some (Concatenated d)) r h = whole-before (valued f k (value_in d r) (Concatenated d)) refl h
      at f k (Some (CanBeConcatenated d)) r h = either-before f k d r h
      at f k (Some (CanBeSeparated d)) r h = either-before f k d r h

      by : (o : Option (Entry K)) → taken (first_by o word) rest ≡ Some (item, left) → is_after item ≡ false
      by None h = whole-before (loose word) (loose-before word) h
      by (Some e) h = at e.flag e.kind e.takes (unwrap_or (after e.flag word) []) h

  -- a word by its entry doesn't end the options
  start-goes_on : start ≡ ends → ⊥
  start-goes_on = by (longest_fit table word)
    where
      at : (f : Bytes) (k : K) (takes : Option ArgDisposition) (r : Bytes) → start_as f k takes r ≡ ends → ⊥
      at f k None r h = cc
      at f k (Some Separated) r h = cc
      at f k (Some (Concatenated d)) r h = cc
      at f k (Some (CanBeConcatenated d)) [] h = cc
      at f k (Some (CanBeConcatenated d)) (b ∷ bs) h = cc
      at f k (Some (CanBeSeparated d)) [] h = cc
      at f k (Some (CanBeSeparated d)) (b ∷ bs) h = cc

      by : (o : Option (Entry K)) → first_by o word ≡ ends → ⊥
      by None h = cc
      by (Some e) h = at e.flag e.kind e.takes (unwrap_or (after e.flag word) []) h

  module _ (dashes : Bool) where
    taken-reads : (s : Start K) → first_word dashes table word ≡ s → (rest : List Bytes) (item : Item K) (left : List Bytes) → taken s rest ≡ Some (item, left) → reading dashes table (word ∷ rest) ≡ before item (reading dashes table left)
    taken-reads (whole a) q rest item left h =
        let parts = pair-parts _ _ h in
        let same : a ≡ item = parts.0 in
        let stays : rest ≡ left = parts.1 in
        reading-alone dashes table word a q rest ∙ rw (same, stays) refl
    taken-reads (awaits f k d) q (v ∷ rest) item left h =
        let parts = pair-parts _ _ h in
        let same : valued f k v d ≡ item = parts.0 in
        let stays : rest ≡ left = parts.1 in
        reading-with_value dashes table word v f k d q rest ∙ rw (same, stays) refl
    taken-reads (awaits f k (CanBeConcatenated None)) q [] item left h =
        let parts = pair-parts _ _ h in
        let same : valued f k [] (Concatenated None) ≡ item = parts.0 in
        let stays : [] ≡ left = parts.1 in
        ap from_last q ∙ rw (← same, ← stays) refl
    taken-reads (awaits f k (CanBeConcatenated (Some x))) q [] item left h = cc
    taken-reads (awaits f k Separated) q [] item left h = cc
    taken-reads (awaits f k (CanBeSeparated d)) q [] item left h = cc
    taken-reads (awaits f k (Concatenated d)) q [] item left h = cc
    taken-reads ends q rest item left h = cc

    lacking-reads : (s : Start K) → first_word dashes table word ≡ s → (s ≡ ends → ⊥) → (rest : List Bytes) → taken s rest ≡ None → reading dashes table (word ∷ rest) ≡ record { items = []; cut_short = true }
    lacking-reads (whole a) q on rest h = cc
    lacking-reads (awaits f k d) q on (v ∷ rest) h = cc
    lacking-reads (awaits f k (CanBeConcatenated None)) q on [] h = cc
    lacking-reads (awaits f k (CanBeConcatenated (Some x))) q on [] h = ap from_last q
    lacking-reads (awaits f k Separated) q on [] h = ap from_last q
    lacking-reads (awaits f k (CanBeSeparated d)) q on [] h = ap from_last q
    lacking-reads (awaits f k (Concatenated d)) q on [] h = ap from_last q
    lacking-reads ends q on rest h = absurd (on refl)

  -- the same where a cutting is before the word, and it doesn't end the options there
  module _ (d : DoubleDashes) (unseen : is_seen d ≡ false) (unstopped : d ≡ Awaited → is_double_dash word ≡ false) where
    take-reads : (rest : List Bytes) (item : Item K) (left : List Bytes) → taken start rest ≡ Some (item, left) → reading_by table d (word ∷ rest) ≡ before item (reading_by table d left)
    take-reads rest item left h = by d unseen unstopped
      where
        by : (d : DoubleDashes) → is_seen d ≡ false → (d ≡ Awaited → is_double_dash word ≡ false) → reading_by table d (word ∷ rest) ≡ before item (reading_by table d left)
        by Ordinary u s = taken-reads false start refl rest item left h
        by Awaited u s = taken-reads true start (ap (λ b. cond b ends start) (s refl)) rest item left h
        by Seen u s = cc

    lack-reads : (rest : List Bytes) → taken start rest ≡ None → reading_by table d (word ∷ rest) ≡ record { items = []; cut_short = true }
    lack-reads rest h = by d unseen unstopped
      where
        by : (d : DoubleDashes) → is_seen d ≡ false → (d ≡ Awaited → is_double_dash word ≡ false) → reading_by table d (word ∷ rest) ≡ record { items = []; cut_short = true }
        by Ordinary u s = lacking-reads false start refl start-goes_on rest h
        by Awaited u s = lacking-reads true start (ap (λ b. cond b ends start) (s refl)) start-goes_on rest h
        by Seen u s = cc

-- double dashes that end the options are consumed without an item
pub reading-past : {K : Type 0} (table : List (Entry K)) (d : DoubleDashes) (words : List Bytes) → reading_by table d words ≡ reading_at table (past d words)
reading-past table Ordinary words = refl
reading-past table Seen words = refl
reading-past table Awaited [] = refl
reading-past table Awaited (word ∷ words) = by (is_double_dash word) refl
  where
    by : (s : Bool) → is_double_dash word ≡ s → reading true table (word ∷ words) ≡ reading_at table (cond s (record { words = words; dashes = Seen }) (record { words = word ∷ words; dashes = Awaited }))
    by true q = reading-options_end true table word (ap (λ b. cond b ends (first_by (longest_fit table word) word)) q) words
    by false q = refl

-- and what comes after that is no more such double dashes
past-unstopped : (d : DoubleDashes) (words : List Bytes) (word : Bytes) (rest : List Bytes) → (past d words).words ≡ word ∷ rest → (past d words).dashes ≡ Awaited → is_double_dash word ≡ false
past-unstopped Ordinary words word rest h k = cc
past-unstopped Seen words word rest h k = cc
past-unstopped Awaited [] word rest h k = cc
past-unstopped Awaited (x ∷ xs) word rest h k = by (is_double_dash x) refl h k
  where
    at : Bool → Place
    at s = cond s (record { words = xs; dashes = Seen }) (record { words = x ∷ xs; dashes = Awaited })

    by : (s : Bool) → is_double_dash x ≡ s → (at s).words ≡ word ∷ rest → (at s).dashes ≡ Awaited → is_double_dash word ≡ false
    by true q h k = cc
    by false q h k = let same : x ≡ word = cc in ap is_double_dash (sym same) ∙ q

module _ {T K : Type 0} (values : Values T K) (table : List (Entry K)) (old : Place) (word : Bytes) (rest : List Bytes) (stand : (past_dashes old).words ≡ word ∷ rest) where
  reading-at : reading_at table old ≡ reading_by table (past_dashes old).dashes (word ∷ rest)
  reading-at = reading-past table old.dashes old.words ∙ ap (reading_by table (past_dashes old).dashes) stand

  -- a loose word after them
  pub cut-raw : is_seen (past_dashes old).dashes ≡ true → (copy : Bytes) → copy ≡ word → (new : Place) → new.words ≡ rest → new.dashes ≡ (past_dashes old).dashes → Cuts values table old (Raw copy) new
  cut-raw seen copy same new left dashes = record {
    item = after_dashes word;
    consumed = word ∷ [];
    reads = reading-at ∙ by (past_dashes old).dashes seen ∙ ap (before (after_dashes word)) (ap (λ d. reading_by table d rest) (sym dashes) ∙ ap (reading_by table new.dashes) (sym left));
    words = stand ∙ ap (λ (ws : List Bytes). word ∷ ws) (sym left);
    dashes = dashes;
    written = inl refl;
    after = sym (ap is_seen dashes ∙ seen);
    is = same;
    accepted = refl;
  }
    where
      by : (d : DoubleDashes) → is_seen d ≡ true → reading_by table d (word ∷ rest) ≡ before (after_dashes word) (reading_by table d rest)
      by Ordinary s = cc
      by Awaited s = cc
      by Seen s = refl

  module _ (unseen : is_seen (past_dashes old).dashes ≡ false) (entry : Option (Entry K)) (found : entry ≡ longest_fit table word) where
    is-start : first_by entry word ≡ start table word
    is-start = ap (λ e. first_by e word) found

    -- an argument of a word and those after it
    pub cut-taken : (argument : Argument T) (left : List Bytes) → Takes values (first_by entry word) rest argument left → (new : Place) → new.words ≡ left → new.dashes ≡ (past_dashes old).dashes → Cuts values table old argument new
    cut-taken argument left t new stays dashes =
        let takes : taken (start table word) rest ≡ Some (t.item, left) = ap (λ s. taken s rest) (sym is-start) ∙ t.takes in
        let c = word-consumes table word rest t.item left takes in
        record {
          item = t.item;
          consumed = c.consumed;
          reads = reading-at ∙ take-reads table word (past_dashes old).dashes unseen (past-unstopped old.dashes old.words word rest stand) rest t.item left takes ∙ ap (before t.item) (ap (λ d. reading_by table d left) (sym dashes) ∙ ap (reading_by table new.dashes) (sym stays));
          words = stand ∙ c.apart ∙ ap (λ (ws : List Bytes). c.consumed ++ ws) (sym stays);
          dashes = dashes;
          written = c.written;
          after = word-before table word rest t.item left takes ∙ sym (ap is_seen dashes ∙ unseen);
          is = t.is;
          accepted = t.accepted;
        }

    refused : (error : ArgParseError) → TakesRefused values (first_by entry word) rest error → CutsRefused values table old error
    refused error t =
        let takes : taken (start table word) rest ≡ Some (t.item, t.left) = ap (λ s. taken s rest) (sym is-start) ∙ t.takes in
        record {
          item = t.item;
          rest = reading_by table (past_dashes old).dashes t.left;
          reads = reading-at ∙ take-reads table word (past_dashes old).dashes unseen (past-unstopped old.dashes old.words word rest stand) rest t.item t.left takes;
          refused = t.refused;
        }

    -- none
    pub cut-fails : (error : ArgParseError) → FailsToTake values (first_by entry word) rest error → FailsToCut values table old error
    cut-fails UnexpectedEndOfArgs h = reading-at ∙ lack-reads table word (past_dashes old).dashes unseen (past-unstopped old.dashes old.words word rest stand) rest (ap (λ s. taken s rest) (sym is-start) ∙ h)
    cut-fails (InvalidUnicode w) h = refused (InvalidUnicode w) h
    cut-fails (Other t) h = refused (Other t) h
    cut-fails Memory h = tt
