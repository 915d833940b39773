-- How the key of a call is made, by what the look-up of its include record and the put said.
use Rattle.std.proofs.Common.{◌≡◌, ℕ, ℤ, pos, List, [], ◌∷◌, Bool, true, false, if◌then◌else◌, Option, Some, None, IsSome, IsNone, Result, Ok, Err, IfOk, inl, inr, refl, sym, ap, subst, ◌∙◌, length, arith}
use Rattle.std.specs.Prelude.{String, string_bytes}
use Rattle.std.specs.declared.alloc.Global.{Global}
use Rattle.ckeys_records.specs.declared.shape.CShape.{CShape}
use Rattle.std.specs.List.{Contains}
use Rattle.std.specs.Option.{option_map}
use Rattle.std.specs.Ordering.{int_eq}
use Rattle.std.proofs.lemmas.Bool.{and_from}
use Rattle.std.proofs.lemmas.Bool.Decides.{Decides-eqb, Decides-int_eq}
use Rattle.std.proofs.lemmas.Slice.Eq.{bytes_eq-Decides}
use Rattle.base_files.specs.Bytes.{Bytes, ticked}
use Rattle.base_files.specs.Tree.{contents_at}
use Rattle.ckeys_base.specs.Hex.{hex_of}
use Rattle.ckeys_base.specs.Shelf.{Shelf, Asks, Puts, Within}
use Rattle.ckeys_time_macros.specs.Macros.{holds_date, holds_timestamp}
use Rattle.ckeys_include_records.specs.LookUps.{LooksUp, NoneAbove}
use Rattle.ckeys_include_records.specs.Records.{Record, result_with}
use Rattle.ckeys_include_records.specs.Results.{with_result}
use Rattle.ckeys_include_records.specs.Surroundings.{Place, are_there, contents_in, dated, fits_contents, in_front, include_with, included, includes_of, is_the, lacks_day, path_at, second_at, stamped}
use Rattle.ckeys_include_records.specs.declared.entry.CachedResult.{CachedResult}
use Rattle.ckeys_include_records.specs.declared.entry.IncludeEntry.{IncludeEntry}
use Rattle.ckeys_include_records.specs.declared.entry_key.EntryKey.{EntryKey}
use Rattle.ckeys.specs.Calls.{KeyCall, PrintedCall, early_fault_of, input_path, key_fault_by, needs_preprocessing, record_by, text_by, text_fault_by, extra_paths, missing_input}
use Rattle.ckeys_records.specs.Faults.{preprocess_fault_of, read_fault_of, first_missing, or_else}
use Rattle.ckeys_records.specs.Meaning.{text_in}
use Rattle.ckeys.specs.Entries.{AreTrue, HasMatch, Held, IsFramed, IsOwnResult, entry_key_by, entry_key_of, good_text, has_entry_key, includes_by}
use Rattle.ckeys.specs.EntryTurns.{EntryTurn, Gains, IsGreatest, IsHeldFor, IsJoined, IsOwnPair, IsPut, IsSpared, IsToldOf, Keeps, KeptOn, KeyFine, KeyFrom, KeyRecorded, PutsJoined, PutsNone, TextFine, results_of}
use Rattle.ckeys_records.specs.Keys.{key_of}
use Rattle.ckeys.specs.Surroundings.{named_at, place_of, recorded_of}
use Rattle.ckeys_records.specs.declared.fault.Fault.{Fault}
use Rattle.ckeys_records.specs.declared.fault.Fault.TheVariants.{Read, PreprocessFailed}
use Rattle.ckeys.proofs.RecordLemmas.{has_key, is_preprocessed, recorded_parts, some_same}

-- a day is the day itself
the_same : (d : Option ℤ) → is_the d d ≡ true
the_same None = refl
the_same (Some x) = (Decides-int_eq x x).1 refl

the_dated : (contents : Bytes) (day : Option ℤ) → is_the (dated contents day) day ≡ true
the_dated contents day = by (holds_date contents)
  where
    by : (b : Bool) → is_the (if b then day else None) day ≡ true
    by true = the_same day
    by false = refl

the_stamped : (contents : Bytes) (second : ℤ) → is_the (stamped contents second) (Some second) ≡ true
the_stamped contents second = by (holds_timestamp contents)
  where
    by : (b : Bool) → is_the (if b then Some second else None) (Some second) ≡ true
    by true = the_same (Some second)
    by false = refl

module _ (place : Place) (digest_of : Bytes → Bytes) where
  -- what is recorded of a file is there
  own_fits : (name contents : Bytes) → fits_contents place digest_of (include_with place digest_of name contents) (Some contents) ≡ true
  own_fits name contents = and_from _ _ ((Decides-eqb (length contents) (length contents)).1 refl) (and_from _ _ ((bytes_eq-Decides (hex_of (digest_of contents)) (hex_of (digest_of contents))).1 refl) (and_from _ _ (the_dated contents place.day) (the_stamped contents (second_at place.files (path_at place name)))))

  own_next : (name contents : Bytes) → contents_at place.files (path_at place name) ≡ Some contents → (lacks : Bool) (rest : Option (List IncludeEntry)) → ((tail : List IncludeEntry) → rest ≡ Some tail → are_there place digest_of tail ≡ true)
      → (includes : List IncludeEntry) → in_front place digest_of (if lacks then None else Some (include_with place digest_of name contents)) rest ≡ Some includes → are_there place digest_of includes ≡ true
  own_next name contents read true rest on includes e = cc
  own_next name contents read false None on includes e = cc
  own_next name contents read false (Some tail) on includes e =
      let whole = some_same _ _ e in
      let first : fits_contents place digest_of (include_with place digest_of name contents) (contents_at place.files (path_at place name)) ≡ true = subst (λ o. fits_contents place digest_of (include_with place digest_of name contents) o ≡ true) (sym read) (own_fits name contents) in
      subst (λ (l : List IncludeEntry). are_there place digest_of l ≡ true) whole (and_from _ _ first (on tail refl))

  own_file : (name : Bytes) (o : Option Bytes) → contents_at place.files (path_at place name) ≡ o → (rest : Option (List IncludeEntry)) → ((tail : List IncludeEntry) → rest ≡ Some tail → are_there place digest_of tail ≡ true)
      → (includes : List IncludeEntry) → in_front place digest_of (included place digest_of name o) rest ≡ Some includes → are_there place digest_of includes ≡ true
  own_file name None read rest on includes e = cc
  own_file name (Some contents) read rest on includes e = own_next name contents read (lacks_day contents place.day) rest on includes e

  -- a call's own include list is there
  own_there : (names : List Bytes) (includes : List IncludeEntry) → includes_of place digest_of names ≡ Some includes → are_there place digest_of includes ≡ true
  own_there [] includes e = let whole = some_same _ _ e in subst (λ (l : List IncludeEntry). are_there place digest_of l ≡ true) whole refl
  own_there (name ∷ names) includes e = own_file name (contents_at place.files (path_at place name)) refl (includes_of place digest_of names) (own_there names) includes e

  pub recorded_there : (input text : Bytes) (includes : List IncludeEntry) → recorded_of place digest_of input text ≡ Some includes → are_there place digest_of includes ≡ true
  recorded_there input text includes e =
      let parts = recorded_parts place digest_of (named_at place input text) includes e in
      own_there parts.0 includes parts.2

no_key : (c : KeyCall) → has_entry_key c ≡ true → has_entry_key c ≡ false → ⊥
no_key c p q = let h = sym p ∙ q in cc

not_both : {A : Type 0} (o : Option A) → IsSome o → IsNone o → ⊥
not_both None s n = cc
not_both (Some x) s n = cc

results_in : (o : Option Record) (r : CachedResult) → Contains (results_of o) r → (e : Record) × (o ≡ Some e) × Contains e.results r
results_in None r c = let within = c.1 in absurd (omega arith)
results_in (Some e) r c = (e, refl, c)

-- a key that is kept, under which nothing new lies, holds what it held
same_held : (before after : Option Record) → ((x : Record) → after ≡ Some x → before ≡ Some x) → (IsSome before → IsSome after) → after ≡ before
same_held before (Some x) within keeps = sym (within x refl)
same_held None None within keeps = refl
same_held (Some y) None within keeps = let n = keeps refl in cc

-- a look-up puts nothing
pub asks_none : (old new : Shelf EntryKey Record) (key : EntryKey) (answer : Option Record) → Asks old new key answer → PutsNone old new
asks_none old new key answer asks = record { within = asks.within; put = asks.put }

-- nor does a call that doesn't ask
pub same_none : (shelf : Shelf EntryKey Record) → PutsNone shelf shelf
same_none shelf = record { within = λ k e h. h; put = refl }

put_holds : (eq : EntryKey → EntryKey → Bool) (new : Shelf EntryKey Record) (key : EntryKey) (value : Record) (asked : Shelf EntryKey Record) (put : Result (Unit {0}) (EntryKey × Record)) → Puts eq asked new key value put → new.kept ≡ true → new.held key ≡ Some value
put_holds eq new key value asked (Ok u) puts kept = puts.outcome
put_holds eq new key value asked (Err pair) puts kept = let refused = (puts.kept.0 kept).2 in cc

-- a put takes its pair, or it's refused
is_put_of : (eq : EntryKey → EntryKey → Bool) (old asked new : Shelf EntryKey Record) (key : EntryKey) (value : Record) (put : Result (Unit {0}) (EntryKey × Record)) → Within old.held asked.held → Puts eq asked new key value put → IsPut old new key value
is_put_of eq old asked new key value (Ok u) within puts = inl puts.outcome
is_put_of eq old asked new key value (Err pair) within puts = inr (record { within = λ k e h. within k e (puts.outcome.1 k e h); told = by new.kept refl })
  where
    by : (b : Bool) → new.kept ≡ b → b ≡ false
    by true e = let refused = (puts.kept.0 e).2 in cc
    by false e = refl

-- the text of a call with an entry key, whose preprocessor didn't fail
pub good_of : (p : PrintedCall) → has_entry_key p.call ≡ true → text_fault_by p ≡ None → good_text p.printed ≡ Some (text_by p)
good_of p has fine =
    let n = is_preprocessed p.call has in
    let first : preprocess_fault_of p.printed ≡ None = sym (ap (λ b. if b then preprocess_fault_of p.printed else read_fault_of p.call.scene.files (input_path p.call ∷ [])) n) ∙ fine in
    let text : text_by p ≡ text_in p.printed.contents = ap (λ b. if b then text_in p.printed.contents else contents_in p.call.scene.files (input_path p.call)) n in
    by (int_eq p.printed.status (pos 0)) refl first ∙ ap Some (sym text)
  where
    by : (b : Bool) → int_eq p.printed.status (pos 0) ≡ b → (if b then None else Some (PreprocessFailed p.printed.status)) ≡ None → (if int_eq p.printed.status (pos 0) then Some (text_in p.printed.contents) else None) ≡ Some (text_in p.printed.contents)
    by true e h = ap (λ b. if b then Some (text_in p.printed.contents) else None) e
    by false e h = cc

module _ (digest_of : Bytes → Bytes) (p : PrintedCall) (key : EntryKey) (is_entry : entry_key_of digest_of p.call ≡ Some key) (framed : IsFramed digest_of p.call) (old asked : Shelf EntryKey Record) (asks : Asks old asked key (asked.held key)) where
  has : has_entry_key p.call ≡ true
  has = (has_key digest_of p.call key is_entry).0

  still : asked.kept ≡ true → KeptOn old asked
  still h = let was = asks.kept.0 h in record { was = was.0; keys = was.1; steady = asks.steady (λ f. not_both (asked.held key) (was.1 key f.0) f.1) }

  -- the look-up is the one that a call with an entry key asks
  got_once : (new : Shelf EntryKey Record) → new.gets ≡ asked.gets → new.gets ≡ (if has_entry_key p.call then ticked old.gets else old.gets)
  got_once new same = same ∙ asks.got ∙ ap (λ b. if b then ticked old.gets else old.gets) (sym has)

  -- the preprocessor didn't run
  pub turn_asked : (before after : ℕ) → after ≡ before → EntryTurn digest_of p old asked before after
  turn_asked before after same = record { gains = λ k e h. inl (asks.within k e h); kept = still; cleared = asks.cleared; put = inl (asks_none old asked key (asked.held key) asks); asked = λ k m. inl same; got = inr asks.got; got_first = λ _ ran. asks.got; idle = λ h. absurd (no_key p.call has h) }

  -- a result of what is held matches
  pub from_record : (text_key : Bytes) → LooksUp digest_of (place_of p.call) (results_of (asked.held key)) (Some text_key) → HasMatch digest_of p.call old.held text_key
  from_record text_key found =
      let it = results_in (asked.held key) found.0 found.1 in
      record { key = key; is_entry = is_entry; entry = it.0; is_held = asks.within key it.0 it.1; r = found.0; among = it.2; is_key = found.2; there = found.3 }

  -- and none that matches has a greater key
  pub greatest_recorded : (text_key : Bytes) → LooksUp digest_of (place_of p.call) (results_of (asked.held key)) (Some text_key) → NoneAbove digest_of (place_of p.call) (results_of (asked.held key)) text_key → IsGreatest digest_of p old.held text_key
  greatest_recorded text_key found none k entry is_key is_held r among there =
      let it = results_in (asked.held key) found.0 found.1 in
      let same_key : k ≡ key = some_same _ _ (sym is_key ∙ is_entry) in
      let same : entry ≡ it.0 = some_same _ _ (sym (ap old.held (sym same_key) ∙ is_held) ∙ asks.within key it.0 it.1) in
      let inside : Contains (results_of (asked.held key)) r = subst (λ (o : Option Record). Contains (results_of o) r) (sym it.1) (subst (λ (e : Record). Contains e.results r) same among) in
      none r inside there

  -- it is still held then, and the look-up was the only one
  pub found_recorded : (text_key : Bytes) → LooksUp digest_of (place_of p.call) (results_of (asked.held key)) (Some text_key) → KeyRecorded digest_of p old asked true text_key
  found_recorded text_key found =
      let it = results_in (asked.held key) found.0 found.1 in
      record {
        got = got_once asked refl;
        held = (λ kept. record { key = key; is_entry = is_entry; entry = it.0; is_held = it.1; r = found.0; among = it.2; is_key = found.2; there = found.3 }, asks.put);
      }

  -- no result does
  module _ (none : LooksUp digest_of (place_of p.call) (results_of (asked.held key)) None) where
    missed_at : (text_key : Bytes) (m : HasMatch digest_of p.call old.held text_key) → old.held key ≡ Some m.entry → (o : Option Record) → asked.held key ≡ o → asked.forgets ≡ ticked old.forgets
    missed_at text_key m held None h = asks.forgot (rw held refl, rw h refl)
    missed_at text_key m held (Some x) h =
        let there = asks.within key x h in
        let same : m.entry ≡ x = some_same _ _ (sym held ∙ there) in
        let among : Contains (results_of (asked.held key)) m.r = subst (λ (o : Option Record). Contains (results_of o) m.r) (sym h) (subst (λ (e : Record). Contains e.results m.r) same m.among) in
        let clash = sym m.there ∙ none m.r among in
        cc

    missed : (text_key : Bytes) → HasMatch digest_of p.call old.held text_key → asked.forgets ≡ ticked old.forgets
    missed text_key m =
        let same : m.key ≡ key = some_same _ _ (sym m.is_entry ∙ is_entry) in
        missed_at text_key m (ap old.held (sym same) ∙ m.is_held) (asked.held key) refl

    pub turn_missed : (before after : ℕ) → EntryTurn digest_of p old asked before after
    turn_missed before after = record { gains = λ k e h. inl (asks.within k e h); kept = still; cleared = asks.cleared; put = inl (asks_none old asked key (asked.held key) asks); asked = λ k m. inr (missed k m); got = inr asks.got; got_first = λ _ ran. asks.got; idle = λ h. absurd (no_key p.call has h) }

    -- the text's result is put
    module _ (eq : EntryKey → EntryKey → Bool) (equal : (a b : EntryKey) → eq a b ≡ true → a ≡ b) (results : List CachedResult) (known : results ≡ results_of (asked.held key)) (new : Shelf EntryKey Record) (before after : ℕ) where
      module _ (value : Record) (put : Result (Unit {0}) (EntryKey × Record)) (puts : Puts eq asked new key value put) (own : CachedResult) (gained : Gains results own value.results) (is_own : IsOwnResult digest_of p own) where
        own_pair : (k : EntryKey) (e : Record) → k ≡ key → e ≡ value → IsOwnPair digest_of p old.held k e
        own_pair k e same is = record {
          is_entry = is_entry ∙ ap Some (sym same);
          framed = framed;
          from = λ r among. elim (gained.more.others r (subst (λ (x : Record). Contains x.results r) is among)) [
            | inl was ↦
                let it = results_in (asked.held key) r (subst (λ (l : List CachedResult). Contains l r) known was) in
                inl (it.0, ap old.held same ∙ asks.within key it.0 it.1, it.2)
            | inr mine ↦ inr (subst (IsOwnResult digest_of p) (sym mine) is_own)
          ];
        }

        put_one : new.puts ≡ ticked old.puts
        put_one = puts.put ∙ ap ticked asks.put

        joined : (k : EntryKey) → entry_key_of digest_of p.call ≡ Some k → new.kept ≡ true → IsJoined (old.held k) own (new.held k)
        joined k is h =
            let same : k ≡ key = some_same _ _ (sym is ∙ is_entry) in
            let kept = still (puts.kept.0 h).0 in
            let held : asked.held key ≡ old.held key = same_held (old.held key) (asked.held key) (asks.within key) (kept.keys key) in
            let before : results ≡ results_of (old.held k) = known ∙ ap results_of held ∙ ap (λ q. results_of (old.held q)) (sym same) in
            (value, ap new.held same ∙ put_holds eq new key value asked put puts h, gained.exact ∙ ap (λ l. with_result l own) before)

        told_of : (o : Option Record) → asked.held key ≡ o → IsToldOf old new key o
        told_of (Some x) h = inl (sym (asks.within key x h))
        told_of None h = by (old.held key) refl
          where
            by : (before : Option Record) → old.held key ≡ before → IsToldOf old new key None
            by None e = inl (sym e)
            by (Some x) e = inr (refl, puts.steady ∙ asks.forgot (rw e refl, rw h refl))

        exact : (k : EntryKey) → entry_key_of digest_of p.call ≡ Some k → PutsJoined old new k own
        exact k is =
            let same : key ≡ k = some_same _ _ (sym is_entry ∙ is) in
            subst (λ (q : EntryKey). PutsJoined old new q own) same (record {
              told = asked.held key;
              looked_up = told_of (asked.held key) refl;
              entry = value;
              exact = gained.exact ∙ ap (λ l. with_result l own) known;
              is_put = is_put_of eq old asked new key value put asks.within puts;
            })

        turn_put : EntryTurn digest_of p old new before after
        turn_put = record {
          gains = λ k e h. elim (puts.gains k e h) [
            | inl was ↦ inl (asks.within k e was)
            | inr mine ↦ inr (own_pair k e (equal k key mine.0) mine.1)
          ];
          kept = λ h. let q = puts.kept.0 h in let s = still q.0 in record { was = s.was; keys = λ k i. q.1 k (s.keys k i); steady = puts.steady ∙ s.steady };
          cleared = puts.cleared ∙ asks.cleared;
          put = inr (record { own = own; is_own = is_own; put = put_one; exact = exact; joined = joined });
          asked = λ k m. inr (puts.steady ∙ missed k m);
          got = inr (puts.got ∙ asks.got);
          got_first = λ _ ran. puts.got ∙ asks.got;
          idle = λ h. absurd (no_key p.call has h);
        }

        put_match : are_there (place_of p.call) digest_of own.includes ≡ true → IsHeldFor digest_of p new own.key
        put_match there kept = record { key = key; is_entry = is_entry; entry = value; is_held = put_holds eq new key value asked put puts kept; r = own; among = gained.more.among; is_key = refl; there = there }

      -- the text is put beside what was known, where it is recorded
      pub turn_kept : (text text_key : Bytes) → good_text p.printed ≡ Some text → text_key ≡ key_of digest_of (record_by p) → (o : Option (List IncludeEntry)) → includes_by digest_of p.call text ≡ o → Keeps eq key results text_key o asked new
          → EntryTurn digest_of p old new before after × KeyRecorded digest_of p old new false text_key
      turn_kept text text_key good is_key None e keeps = (
        subst (λ (s : Shelf EntryKey Record). EntryTurn digest_of p old s before after) (sym keeps) (turn_missed before after),
        record {
          got = got_once new (ap (λ (s : Shelf EntryKey Record). s.gets) keeps);
          held = λ h other includes g i. absurd (let same : text ≡ other = some_same _ _ (sym good ∙ g) in let n : None ≡ Some includes = sym e ∙ ap (includes_by digest_of p.call) same ∙ i in cc);
        },
      )
      turn_kept text text_key good is_key (Some includes) e keeps =
          let own = result_with text_key includes in
          let is_own : IsOwnResult digest_of p own = record { text = text; printed = good; is_key = is_key; includes = e } in
          let there = recorded_there (place_of p.call) digest_of (input_path p.call) text includes e in (
            turn_put keeps.0 keeps.1 keeps.3 own keeps.2 is_own,
            record {
              got = got_once new keeps.3.got;
              held = λ h other is g i. (put_match keeps.0 keeps.1 keeps.3 own keeps.2 is_own there, put_one keeps.0 keeps.1 keeps.3 own keeps.2 is_own);
            },
          )

-- where extra files and the input are there
pub first_is : (p : PrintedCall) → first_missing p.call.scene.files (extra_paths p.call) ≡ None → missing_input p.call ≡ None → key_fault_by p ≡ text_fault_by p
first_is p h k = λ i. or_else (option_map Read (h i)) (or_else (option_map Read (k i)) (text_fault_by p))

-- then there is no fault before the text
pub none_early : (p : PrintedCall) → first_missing p.call.scene.files (extra_paths p.call) ≡ None → missing_input p.call ≡ None → early_fault_of p.call ≡ None
none_early p h k = λ i. or_else (option_map Read (h i)) (option_map Read (k i))

-- where extra files are there, and the input isn't
pub input_first : (p : PrintedCall) → first_missing p.call.scene.files (extra_paths p.call) ≡ None → (fault : Fault) → option_map Read (missing_input p.call) ≡ Some fault → key_fault_by p ≡ Some fault
input_first p h fault k = λ i. or_else (option_map Read (h i)) (or_else (k i) (text_fault_by p))

some_entry : (digest_of : Bytes → Bytes) (c : KeyCall) → has_entry_key c ≡ true → entry_key_of digest_of c ≡ Some (entry_key_by digest_of c)
some_entry digest_of c h = ap (λ b. if b then Some (entry_key_by digest_of c) else None) h

-- a call without an entry key leaves the records as they are
pub turn_unasked : (digest_of : Bytes → Bytes) (p : PrintedCall) (s : Shelf EntryKey Record) → entry_key_of digest_of p.call ≡ None → (before after : ℕ) → EntryTurn digest_of p s s before after
turn_unasked digest_of p s none before after = record {
  gains = λ k e h. inl h;
  kept = λ h. record { was = h; keys = λ k i. i; steady = refl };
  cleared = refl;
  put = inl (same_none s);
  asked = λ k m. absurd (let both = sym m.is_entry ∙ none in cc);
  got = inl refl;
  got_first = λ h ran. absurd (let both = sym (some_entry digest_of p.call h) ∙ none in cc);
  idle = λ h. refl;
}

-- nor does it ask for any
pub unasked_recorded : (digest_of : Bytes → Bytes) (p : PrintedCall) (s : Shelf EntryKey Record) → entry_key_of digest_of p.call ≡ None → (text_key : Bytes) → KeyRecorded digest_of p s s false text_key
unasked_recorded digest_of p s none text_key = record {
  got = by (has_entry_key p.call) refl;
  held = λ h text includes g i. absurd (never h);
}
  where
    never : has_entry_key p.call ≡ true → ⊥
    never h = let both = sym (some_entry digest_of p.call h) ∙ none in cc

    by : (b : Bool) → has_entry_key p.call ≡ b → s.gets ≡ (if b then ticked s.gets else s.gets)
    by true h = absurd (never h)
    by false h = refl

spared : (b : Bool) (p : PrintedCall) → b ≡ true → IsSpared (if b then preprocess_fault_of p.printed else read_fault_of p.call.scene.files (input_path p.call ∷ []))
spared false p h = cc
spared true p h = by (int_eq p.printed.status (pos 0))
  where
    by : (b : Bool) → IsSpared (if b then None else Some (PreprocessFailed p.printed.status))
    by true = tt
    by false = tt

-- a spared fault that isn't the preprocessor's is none
pub spared_none : (fault : Option Fault) → IsSpared fault → ((status : ℤ) → fault ≡ Some (PreprocessFailed status) → ⊥) → fault ≡ None
spared_none None h never = refl
spared_none (Some (PreprocessFailed status)) h never = absurd (never status refl)
spared_none (Some fault) h never = absurd h

pub fine_is : (p : PrintedCall) (from : Bool) → has_entry_key p.call ≡ true → first_missing p.call.scene.files (extra_paths p.call) ≡ None → missing_input p.call ≡ None → TextFine p from → KeyFine p from
fine_is p true entry h k fine = subst IsSpared (sym (first_is p h k)) (spared (needs_preprocessing p.call.parsed.language) p (is_preprocessed p.call entry))
fine_is p false entry h k fine = first_is p h k ∙ fine

-- so it is, whatever came of the call that was asked on the same files
pub fine_later : (p q : PrintedCall) → q ≡ p → (result : Result (String Global × CShape × Bool) Fault) → has_entry_key p.call ≡ true → first_missing p.call.scene.files (extra_paths p.call) ≡ None → missing_input p.call ≡ None → IfOk result (λ made. TextFine q made.2) → IfOk result (λ made. KeyFine p made.2)
fine_later p q same (Ok made) entry h k fine = fine_is p made.2 entry h k (subst (λ (x : PrintedCall). TextFine x made.2) same fine)
fine_later p q same (Err fault) entry h k fine = tt

-- wherever the key came from, it is the call's own where the records are true of it
pub own_key : (digest_of : Bytes → Bytes) (p : PrintedCall) (held : Held) (result : Result (String Global × CShape × Bool) Fault) → AreTrue digest_of p held → IfOk result (λ made. KeyFrom digest_of p held made.2 (string_bytes made.0)) → IfOk result (λ made. string_bytes made.0 ≡ key_of digest_of (record_by p))
own_key digest_of p held (Ok made) are_true from = by made.2 from
  where
    by : (b : Bool) → KeyFrom digest_of p held b (string_bytes made.0) → string_bytes made.0 ≡ key_of digest_of (record_by p)
    by true k = (are_true k.0 (string_bytes made.0) k.1).is_key
    by false k = k
own_key digest_of p held (Err fault) are_true from = tt

pub plain_key : (digest_of : Bytes → Bytes) (p : PrintedCall) (held : Held) (result : Result (String Global × CShape × Bool) Fault) → has_entry_key p.call ≡ false → IfOk result (λ made. KeyFrom digest_of p held made.2 (string_bytes made.0)) → IfOk result (λ made. made.2 ≡ false)
plain_key digest_of p held (Ok made) none from = by made.2 from
  where
    by : (b : Bool) → KeyFrom digest_of p held b (string_bytes made.0) → b ≡ false
    by true k = absurd (no_key p.call (has_key digest_of p.call k.1.key k.1.is_entry).0 none)
    by false k = refl
plain_key digest_of p held (Err fault) none from = tt
