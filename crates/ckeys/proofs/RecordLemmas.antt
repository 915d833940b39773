-- A matching result of an include record is true of the call.
use Rattle.std.proofs.Common.{◌≡◌, ℕ, ℤ, pos, zero, suc, ◌<◌, List, [], ◌∷◌, ◌++◌, map, filter, length, get_or, Bool, true, false, ◌&&◌, if◌then◌else◌, Option, Some, None, ◌⊎◌, inl, inr, refl, sym, ap, subst, ◌∙◌, arith}
use Rattle.std.specs.Prelude.{is_none, is_some, unwrap_or}
use Rattle.std.specs.List.{Contains, list_any}
use Rattle.std.specs.Option.{option_and_then}
use Rattle.std.specs.Ordering.{int_eq}
use Rattle.std.proofs.lemmas.Bool.{and_parts}
use Rattle.std.proofs.lemmas.Bool.Decides.{Decides-int_eq}
use Rattle.std.proofs.lemmas.Slice.Eq.{bytes_eq-Decides}
use Rattle.std.proofs.lemmas.List.Elements.{Contains-append_left, Contains-push}
use Rattle.base_files.specs.Bytes.{Bytes}
use Rattle.base_files.specs.Path.{join}
use Rattle.base_files.specs.Tree.{Tree, contents_at, is_file_at}
use Rattle.ckeys_base.specs.FolderPlaces.{text_places}
use Rattle.ckeys_base.specs.FromTheLeft.{stripped_of}
use Rattle.ckeys_base.specs.Hex.{hex_of}
use Rattle.ckeys_base.specs.Shelf.{Shelf}
use Rattle.ckeys_time_macros.specs.Macros.{holds_date, holds_timestamp}
use Rattle.ckeys_marker_walk.specs.Named.{accepted, is_named, marker_names, tells_time}
use Rattle.ckeys_include_records.specs.Records.{Record}
use Rattle.ckeys_include_records.specs.Surroundings.{Place, are_there, contents_in, dated, fits_contents, in_front, include_with, included, includes_of, is_the, lacks_day, path_at, second_at, stamped}
use Rattle.ckeys_include_records.specs.declared.entry.IncludeEntry.{IncludeEntry}
use Rattle.ckeys_include_records.specs.Identity.{Identity}
use Rattle.ckeys_include_records.specs.Sights.{Sights}
use Rattle.ckeys_include_records.specs.Telling.{AreTold, entry_key_with}
use Rattle.ckeys_include_records.specs.declared.entry_key.EntryKey.{EntryKey}
use Rattle.ckeys.specs.Calls.{KeyCall, PrintedCall, extra_paths, input_path, needs_preprocessing, record_by, text_by}
use Rattle.ckeys_records.specs.Meaning.{text_in}
use Rattle.ckeys.specs.Entries.{AreTrue, EntryInvariant, EntryPremises, Held, IsFramed, IsHashedAmong, IsRecorded, IsTrue, SameIdentity, asking, entry_key_by, entry_key_of, extra_digests, good_text, has_entry_key, identity_by, is_told, sights_by}
use Rattle.ckeys.specs.Entries.IsHashedBy.{of_identity, of_sights, of_extra_file, of_file}
use Rattle.ckeys.specs.EntryTurns.{EntryTurn}
use Rattle.ckeys_records.specs.Folders.{Settings}
use Rattle.ckeys_records.specs.Keys.{key_of}
use Rattle.ckeys_records.specs.Meaning.{Made}
use Rattle.ckeys_records.specs.Params.{is_cached, stripped_words}
use Rattle.ckeys.specs.Surroundings.{SameFile, SameSurroundings, named_at, place_of, recorded_of}
use Rattle.ckeys_records.proofs.KeyLemmas.{contents_told}

pub cons_cases : {X : Type 0} (y : X) (xs : List X) (x : X) → Contains (y ∷ xs) x → (y ≡ x) ⊎ Contains xs x
cons_cases y xs x c = at c.0 c.1 c.2
  where
    at : (k : ℕ) → k < length (y ∷ xs) → get_or (y ∷ xs) k x ≡ x → (y ≡ x) ⊎ Contains xs x
    at zero p e = inl e
    at (suc k) p e = inr (k, omega arith, e)

-- what a filter leaves passes it
kept_by : {X : Type 0} (p : X → Bool) (xs : List X) (x : X) → Contains (filter p xs) x → p x ≡ true
kept_by p [] x c = let within = c.1 in absurd (omega arith)
kept_by p (y ∷ xs) x c = by (kept_by p xs x) (p y) refl c
  where
    by : (Contains (filter p xs) x → p x ≡ true) → (b : Bool) → p y ≡ b → Contains (if b then y ∷ filter p xs else filter p xs) x → p x ≡ true
    by on true e c = elim (cons_cases y (filter p xs) x c) [
      | inl same ↦ ap p (sym same) ∙ e
      | inr later ↦ on later
    ]
    by on false e c = on c

pub some_same : {A : Type 0} (x y : A) → Some x ≡ Some y → x ≡ y
some_same x y e = cc

-- the contents of a file that is there
pub there_of : (tree : Tree) (path : Bytes) → is_file_at tree path ≡ true → (c : Bytes) × (contents_at tree path ≡ Some c)
there_of tree path h = by (contents_at tree path) refl h
  where
    by : (o : Option Bytes) → contents_at tree path ≡ o → is_some o ≡ true → (c : Bytes) × (contents_at tree path ≡ Some c)
    by None e h = cc
    by (Some c) e h = (c, e)

pub contents_are : (tree : Tree) (path c : Bytes) → contents_at tree path ≡ Some c → contents_in tree path ≡ c
contents_are tree path c h = ap (λ o. unwrap_or o []) h

-- a day that was recorded because it was asked for is the day now
day_same : (c : Bytes) (was is : Option ℤ) → lacks_day c was ≡ false → is_the (dated c was) is ≡ true → holds_date c ≡ true → is ≡ was
day_same c was is lacks the holds = at was is (subst (λ b. (b && is_none was) ≡ false) holds lacks) (subst (λ b. is_the (if b then was else None) is ≡ true) holds the)
  where
    at : (x y : Option ℤ) → is_none x ≡ false → is_the x y ≡ true → y ≡ x
    at None y n t = cc
    at (Some x) None n t = cc
    at (Some x) (Some y) n t = ap Some (sym ((Decides-int_eq x y).0 t))

second_same : (c : Bytes) (was is : ℤ) → is_the (stamped c was) (Some is) ≡ true → holds_timestamp c ≡ true → is ≡ was
second_same c was is the holds = sym ((Decides-int_eq was is).0 (subst (λ b. is_the (if b then Some was else None) (Some is) ≡ true) holds the))

module _ (digest_of : Bytes → Bytes) (before now : Place) where
  -- a file that was recorded is there, with the same digest, and on the day and with the second that it asks for
  pub record Found (name was : Bytes) : Type 0 where
    pub is : Bytes
    pub there : contents_at now.files (path_at now name) ≡ Some is
    pub alike : hex_of (digest_of is) ≡ hex_of (digest_of was)
    pub day : holds_date was ≡ true → now.day ≡ before.day
    pub second : holds_timestamp was ≡ true → second_at now.files (path_at now name) ≡ second_at before.files (path_at before name)

  found_one : (name was : Bytes) → lacks_day was before.day ≡ false → (o : Option Bytes) → contents_at now.files (path_at now name) ≡ o → fits_contents now digest_of (include_with before digest_of name was) o ≡ true → Found name was
  found_one name was lacks None e h = cc
  found_one name was lacks (Some is) e h =
      let sized = and_parts _ _ h in
      let hashed = and_parts _ _ sized.1 in
      let timed = and_parts _ _ hashed.1 in
      record {
        is = is;
        there = e;
        alike = (bytes_eq-Decides (hex_of (digest_of is)) (hex_of (digest_of was))).0 hashed.0;
        day = day_same was before.day now.day lacks timed.0;
        second = second_same was (second_at before.files (path_at before name)) (second_at now.files (path_at now name)) timed.1;
      }

  abbrev pub Goal : List Bytes → List IncludeEntry → Type 0
  Goal names includes = (name : Bytes) → Contains names name → (was : Bytes) → contents_at before.files (path_at before name) ≡ Some was → Found name was

  found_next : (first : Bytes) (names : List Bytes) (was : Bytes) → contents_at before.files (path_at before first) ≡ Some was → (lacks : Bool) → lacks_day was before.day ≡ lacks → (rest : Option (List IncludeEntry)) → ((tail : List IncludeEntry) → rest ≡ Some tail → are_there now digest_of tail ≡ true → Goal names tail)
      → (includes : List IncludeEntry) → in_front before digest_of (if lacks then None else Some (include_with before digest_of first was)) rest ≡ Some includes → are_there now digest_of includes ≡ true → Goal (first ∷ names) includes
  found_next first names was same true l rest on includes e h = cc
  found_next first names was same false l None on includes e h = cc
  found_next first names was same false l (Some tail) on includes e h =
      let whole : includes ≡ include_with before digest_of first was ∷ tail = sym (some_same _ _ e) in
      let both = and_parts _ _ (subst (λ (is : List IncludeEntry). are_there now digest_of is ≡ true) whole h) in
      λ name among contents there. elim (cons_cases first names name among) [
        | inl at ↦
            let path : path_at before first ≡ path_at before name = ap (path_at before) at in
            let it : was ≡ contents = some_same _ _ (sym same ∙ ap (contents_at before.files) path ∙ there) in
            subst (λ (n : Bytes). Found n contents) at (subst (λ (c : Bytes). Found first c) it (found_one first was l (contents_at now.files (path_at now first)) refl both.0))
        | inr later ↦ on tail refl both.1 name later contents there
      ]

  found_file : (first : Bytes) (names : List Bytes) (o : Option Bytes) → contents_at before.files (path_at before first) ≡ o → (rest : Option (List IncludeEntry)) → ((tail : List IncludeEntry) → rest ≡ Some tail → are_there now digest_of tail ≡ true → Goal names tail)
      → (includes : List IncludeEntry) → in_front before digest_of (included before digest_of first o) rest ≡ Some includes → are_there now digest_of includes ≡ true → Goal (first ∷ names) includes
  found_file first names None same rest on includes e h = cc
  found_file first names (Some was) same rest on includes e h = found_next first names was same (lacks_day was before.day) refl rest on includes e h

  pub found_all : (names : List Bytes) (includes : List IncludeEntry) → includes_of before digest_of names ≡ Some includes → are_there now digest_of includes ≡ true → Goal names includes
  found_all [] includes e h = λ name among was there. let within = among.1 in absurd (omega arith)
  found_all (first ∷ names) includes e h = found_file first names (contents_at before.files (path_at before first)) refl (includes_of before digest_of names) (λ tail f t. found_all names tail f t) includes e h

-- the named files of a text are there
pub names_there : (place : Place) (input text : Bytes) (names : List Bytes) → named_at place input text ≡ Some names → (name : Bytes) → Contains names name → is_file_at place.files (path_at place name) ≡ true
names_there place input text names h name among = by (marker_names text) h
  where
    after : (b : Bool) (ms : List Bytes) → (if b then None else Some (filter (is_named place.dir place.files input) ms)) ≡ Some names → is_file_at place.files (path_at place name) ≡ true
    after true ms e = cc
    after false ms e =
        let is : filter (is_named place.dir place.files input) ms ≡ names = some_same _ _ e in
        (and_parts _ _ (and_parts _ _ (kept_by (is_named place.dir place.files input) ms name (subst (λ (l : List Bytes). Contains l name) (sym is) among))).1).0

    by : (o : Option (List Bytes)) → option_and_then (λ ms. accepted place.dir place.files (filter (is_named place.dir place.files input) ms)) o ≡ Some names → is_file_at place.files (path_at place name) ≡ true
    by None e = cc
    by (Some ms) e = after (list_any (tells_time place.dir place.files) (filter (is_named place.dir place.files input) ms)) ms e

-- what is recorded of a text: its named files, and their list
pub recorded_parts : (place : Place) (digest_of : Bytes → Bytes) (o : Option (List Bytes)) (includes : List IncludeEntry) → option_and_then (includes_of place digest_of) o ≡ Some includes → (names : List Bytes) × (o ≡ Some names) × (includes_of place digest_of names ≡ Some includes)
recorded_parts place digest_of None includes e = cc
recorded_parts place digest_of (Some names) includes e = (names, refl, e)

-- a call with an entry key
pub has_key : (digest_of : Bytes → Bytes) (c : KeyCall) (key : EntryKey) → entry_key_of digest_of c ≡ Some key → (has_entry_key c ≡ true) × (key ≡ entry_key_by digest_of c)
has_key digest_of c key h = by (has_entry_key c) refl h
  where
    by : (b : Bool) → has_entry_key c ≡ b → (if b then Some (entry_key_by digest_of c) else None) ≡ Some key → (has_entry_key c ≡ true) × (key ≡ entry_key_by digest_of c)
    by true e h = (e, sym (some_same _ _ h))
    by false e h = cc

-- its input is there
input_there : (c : KeyCall) → has_entry_key c ≡ true → (contents : Bytes) × (contents_at c.scene.files (input_path c) ≡ Some contents)
input_there c h = by (contents_at c.scene.files (input_path c)) refl (and_parts _ _ h).1
  where
    by : (o : Option Bytes) → contents_at c.scene.files (input_path c) ≡ o → is_told c o ≡ true → (contents : Bytes) × (contents_at c.scene.files (input_path c) ≡ Some contents)
    by None e h = cc
    by (Some contents) e h = (contents, e)

pub is_preprocessed : (c : KeyCall) → has_entry_key c ≡ true → needs_preprocessing c.parsed.language ≡ true
is_preprocessed c h = (and_parts _ _ (and_parts _ _ (and_parts _ _ h).0).1).0

text_is : (made : Made) (text : Bytes) → good_text made ≡ Some text → (text_in made.contents ≡ text) × (made.status ≡ pos 0)
text_is made text h = by (int_eq made.status (pos 0)) refl h
  where
    by : (b : Bool) → int_eq made.status (pos 0) ≡ b → (if b then Some (text_in made.contents) else None) ≡ Some text → (text_in made.contents ≡ text) × (made.status ≡ pos 0)
    by true e h = (some_same _ _ h, (Decides-int_eq made.status (pos 0)).0 e)
    by false e h = cc

text_by_is : (p : PrintedCall) (text : Bytes) → has_entry_key p.call ≡ true → good_text p.printed ≡ Some text → text_by p ≡ text
text_by_is p text key good = let n = is_preprocessed p.call key in ap (λ b. if b then text_in p.printed.contents else contents_in p.call.scene.files (input_path p.call)) n ∙ (text_is p.printed text good).0

-- what a digest's text determines
abbrev pub TextsTell : (Bytes → Bytes) → Type 0
TextsTell digest_of = (one other : Bytes) → hex_of (digest_of one) ≡ hex_of (digest_of other) → digest_of one ≡ digest_of other

-- equal entry keys are of equal calls
abbrev pub IdentitiesTell : (Bytes → Bytes) → Type 0
IdentitiesTell digest_of = (i j : Identity) (s t : Sights) → AreTold digest_of i j s t → entry_key_with digest_of i s ≡ entry_key_with digest_of j t → i ≡ j

abbrev pub SightsTell : (Bytes → Bytes) → Type 0
SightsTell digest_of = (i j : Identity) (s t : Sights) → AreTold digest_of i j s t → entry_key_with digest_of i s ≡ entry_key_with digest_of j t → s ≡ t

dated_same : (contents : Bytes) (was is : Option ℤ) → dated contents was ≡ dated contents is → holds_date contents ≡ true → is ≡ was
dated_same contents was is e h = sym (subst (λ b. (if b then was else None) ≡ (if b then is else None)) h e)

stamped_same : (contents : Bytes) (was is : ℤ) → stamped contents was ≡ stamped contents is → holds_timestamp contents ≡ true → is ≡ was
stamped_same contents was is e h = sym (some_same was is (subst (λ b. (if b then Some was else None) ≡ (if b then Some is else None)) h e))

module _ (digest_of : Bytes → Bytes) (texts : TextsTell digest_of) (identities : IdentitiesTell digest_of) (sights : SightsTell digest_of) (run : List PrintedCall) (premises : EntryPremises digest_of run) (b p : PrintedCall) (in_b : Contains run b) (in_p : Contains run p) (framed_b : IsFramed digest_of b.call) (framed_p : IsFramed digest_of p.call) where
  -- strings that the two calls hash
  equal : (one other : Bytes) → IsHashedAmong digest_of run one → IsHashedAmong digest_of run other → hex_of (digest_of one) ≡ hex_of (digest_of other) → one ≡ other
  equal one other h k same = premises.distinct one other h k (texts one other same)

  told : AreTold digest_of (identity_by b.call) (identity_by p.call) (sights_by digest_of b.call) (sights_by digest_of p.call)
  told = record {
    identities = (framed_b.identity, framed_p.identity);
    sights = (framed_b.sights, framed_p.sights);
    identities_apart = premises.distinct _ _ (record { by = b; among = in_b; is = of_identity refl }) (record { by = p; among = in_p; is = of_identity refl });
    sights_apart = premises.distinct _ _ (record { by = b; among = in_b; is = of_sights refl }) (record { by = p; among = in_p; is = of_sights refl });
  }

  module _ (has_b : has_entry_key b.call ≡ true) (has_p : has_entry_key p.call ≡ true) (same_key : entry_key_by digest_of b.call ≡ entry_key_by digest_of p.call) where
    same_identity : SameIdentity b.call p.call
    same_identity = identities _ _ _ _ told same_key

    same_sights : sights_by digest_of b.call ≡ sights_by digest_of p.call
    same_sights = sights _ _ _ _ told same_key

    -- what the sights determine of inputs and extra files
    sights_input : hex_of (digest_of (contents_in b.call.scene.files (input_path b.call))) ≡ hex_of (digest_of (contents_in p.call.scene.files (input_path p.call)))
    unfolding sights_by
    sights_input = ap (λ (s : Sights). s.input) same_sights

    sights_day : dated (contents_in b.call.scene.files (input_path b.call)) (place_of b.call).day ≡ dated (contents_in p.call.scene.files (input_path p.call)) (place_of p.call).day
    unfolding sights_by
    sights_day = ap (λ (s : Sights). s.day) same_sights

    sights_second : stamped (contents_in b.call.scene.files (input_path b.call)) (second_at b.call.scene.files (input_path b.call)) ≡ stamped (contents_in p.call.scene.files (input_path p.call)) (second_at p.call.scene.files (input_path p.call))
    unfolding sights_by
    sights_second = ap (λ (s : Sights). s.second) same_sights

    sights_extra : extra_digests digest_of b.call ≡ extra_digests digest_of p.call
    unfolding sights_by
    sights_extra = ap (λ (s : Sights). s.extra) same_sights

    same_input : SameFile (place_of b.call) (place_of p.call) (input_path b.call) (input_path p.call)
    same_input =
        let was = input_there b.call has_b in
        let is = input_there p.call has_p in
        let read_b : contents_in b.call.scene.files (input_path b.call) ≡ was.0 = contents_are b.call.scene.files (input_path b.call) was.0 was.1 in
        let read_p : contents_in p.call.scene.files (input_path p.call) ≡ is.0 = contents_are p.call.scene.files (input_path p.call) is.0 is.1 in
        let same : was.0 ≡ is.0 = equal was.0 is.0 (record { by = b; among = in_b; is = of_file (input_path b.call) was.1 }) (record { by = p; among = in_p; is = of_file (input_path p.call) is.1 }) (ap (λ c. hex_of (digest_of c)) (sym read_b) ∙ sights_input ∙ ap (λ c. hex_of (digest_of c)) read_p) in
        let here : contents_in p.call.scene.files (input_path p.call) ≡ was.0 = read_p ∙ sym same in
        let days : dated was.0 (place_of b.call).day ≡ dated was.0 (place_of p.call).day = ap (λ c. dated c (place_of b.call).day) (sym read_b) ∙ sights_day ∙ ap (λ c. dated c (place_of p.call).day) here in
        let seconds : stamped was.0 (second_at b.call.scene.files (input_path b.call)) ≡ stamped was.0 (second_at p.call.scene.files (input_path p.call)) = ap (λ c. stamped c (second_at b.call.scene.files (input_path b.call))) (sym read_b) ∙ sights_second ∙ ap (λ c. stamped c (second_at p.call.scene.files (input_path p.call))) here in
        record {
          contents = was.0;
          was = was.1;
          is = is.1 ∙ ap Some (sym same);
          day = dated_same was.0 (place_of b.call).day (place_of p.call).day days;
          second = stamped_same was.0 _ _ seconds;
        }

    same_extra : map (contents_in b.call.scene.files) (extra_paths b.call) ≡ map (contents_in p.call.scene.files) (extra_paths p.call)
    same_extra = contents_told digest_of texts (map (contents_in b.call.scene.files) (extra_paths b.call)) (map (contents_in p.call.scene.files) (extra_paths p.call)) (λ x y u v e. premises.distinct x y (record { by = b; among = in_b; is = of_extra_file u }) (record { by = p; among = in_p; is = of_extra_file v }) e) sights_extra

    -- where its include list is there, the surroundings are the same
    same_surroundings : (text : Bytes) (names : List Bytes) (includes : List IncludeEntry) → named_at (place_of b.call) (input_path b.call) text ≡ Some names → includes_of (place_of b.call) digest_of names ≡ Some includes → are_there (place_of p.call) digest_of includes ≡ true → SameSurroundings b.call p.call names
    same_surroundings text names includes named list there = record {
      input = same_input;
      extra = same_extra;
      named = λ name among.
          let was = there_of b.call.scene.files (join b.call.scene.dir name) (names_there (place_of b.call) (input_path b.call) text names named name among) in
          let found = found_all digest_of (place_of b.call) (place_of p.call) names includes list there name among was.0 was.1 in
          let same : found.is ≡ was.0 = equal found.is was.0 (record { by = p; among = in_p; is = of_file (join p.call.scene.dir name) found.there }) (record { by = b; among = in_b; is = of_file (join b.call.scene.dir name) was.1 }) found.alike in
          record { contents = was.0; was = was.1; is = found.there ∙ ap Some same; day = found.day; second = found.second };
    }

    -- the records are the same, where the texts and the configuration are
    same_record : b.call.settings ≡ p.call.settings → text_by b ≡ text_by p → record_by b ≡ record_by p
    unfolding identity_by
    same_record settings text =
        let who = same_identity in
        let extra = same_extra in
        λ i. record {
          compiler_digest = (who i).compiler_digest;
          plusplus = (who i).plusplus;
          language = (who i).language;
          words = stripped_words (settings i).basedirs ((who i).common_args ++ (who i).arch_args);
          variables = filter is_cached ((who i).env);
          extra_contents = extra i;
          assembler_digest = (who i).assembler_digest;
          text = stripped_of text_places (settings i).basedirs (text i);
        }

    -- a result of the one that matches on the other is true of it
    is_true : b.call.settings ≡ p.call.settings → (includes : List IncludeEntry) (text_key text : Bytes) → good_text b.printed ≡ Some text → text_key ≡ key_of digest_of (record_by b) → recorded_of (place_of b.call) digest_of (input_path b.call) text ≡ Some includes → are_there (place_of p.call) digest_of includes ≡ true → IsTrue digest_of p text_key
    is_true settings includes text_key text printed is_key list there =
        let parts = recorded_parts (place_of b.call) digest_of (named_at (place_of b.call) (input_path b.call) text) includes list in
        let around = same_surroundings text parts.0 includes parts.1 parts.2 there in
        let again : good_text p.printed ≡ Some text = premises.reprinted b p text parts.0 in_b in_p printed parts.1 same_identity around in
        let texts_same : text_by b ≡ text_by p = text_by_is b text has_b printed ∙ sym (text_by_is p text has_p again) in
        record { is_key = is_key ∙ ap (key_of digest_of) (same_record settings texts_same); succeeds = (text_is p.printed text again).1 }

asking_is : (p : PrintedCall) → has_entry_key p.call ≡ true → asking p ≡ p ∷ []
asking_is p h = ap (λ b. if b then p ∷ [] else []) h

-- what is recorded of a call's earlier ones is true of it
pub records_true : (digest_of : Bytes → Bytes) → TextsTell digest_of → IdentitiesTell digest_of → SightsTell digest_of → (settings : Settings) (earlier : List PrintedCall) (p : PrintedCall) (held : Held) → p.call.settings ≡ settings → EntryInvariant digest_of settings earlier held → EntryPremises digest_of (earlier ++ asking p) → AreTrue digest_of p held
records_true digest_of texts identities sights settings earlier p held own inv premises framed text_key match =
    let has_p = has_key digest_of p.call match.key match.is_entry in
    let found = inv match.key match.entry match.is_held match.r match.among in
    let b = found.0 in
    let it = found.2 in
    let has_b = has_key digest_of b.call match.key it.is_entry in
    let run = earlier ++ p ∷ [] in
    let assumed : EntryPremises digest_of run = subst (λ (l : List PrintedCall). EntryPremises digest_of (earlier ++ l)) (asking_is p has_p.0) premises in
    is_true digest_of texts identities sights run assumed b p (Contains-append_left earlier (p ∷ []) b found.1) (Contains-push earlier p) it.framed framed has_b.0 has_p.0 (sym has_b.1 ∙ has_p.1) (it.settled ∙ sym own) match.r.includes text_key it.own.text it.own.printed (sym match.is_key ∙ it.own.is_key) it.own.includes match.there

-- whatever calls meet the invariant, these followed by this one meet it at the end
pub entry_step : (digest_of : Bytes → Bytes) (settings : Settings) (earlier : List PrintedCall) (p : PrintedCall) (old new : Shelf EntryKey Record) (before after : ℕ) → p.call.settings ≡ settings → EntryTurn digest_of p old new before after → EntryInvariant digest_of settings earlier old.held → EntryInvariant digest_of settings (earlier ++ asking p) new.held
entry_step digest_of settings earlier p old new before after own turn inv key entry h r among =
    let past : (e : Record) → old.held key ≡ Some e → Contains e.results r → (q : PrintedCall) × Contains (earlier ++ asking p) q × IsRecorded digest_of settings q key r = λ e held within.
    let was = inv key e held r within in (was.0, Contains-append_left earlier (asking p) was.0 was.1, was.2) in
    elim (turn.gains key entry h) [
      | inl same ↦ past entry same among
      | inr mine ↦ elim (mine.from r among) [
        | inl before ↦ past before.0 before.1 before.2
        | inr result ↦
            let has_p = has_key digest_of p.call key mine.is_entry in
            let here : Contains (earlier ++ asking p) p = subst (λ (l : List PrintedCall). Contains (earlier ++ l) p) (sym (asking_is p has_p.0)) (Contains-push earlier p) in
            (p, here, record { settled = own; is_entry = mine.is_entry; framed = mine.framed; own = result })
      ]
    ]

only_one : (p q : PrintedCall) → Contains (p ∷ []) q → q ≡ p
only_one p q c = elim (cons_cases p [] q c) [
  | inl same ↦ sym same
  | inr none ↦ let within = none.1 in absurd (omega arith)
]

-- one call meets what is assumed, under a digest that distinguishes all strings
pub one_call_meets : (p : PrintedCall) → EntryPremises (λ bytes. bytes) (p ∷ [])
one_call_meets p = record {
  distinct = λ x y hx hy e. e;
  reprinted = λ earlier now text names in_b in_p printed accepted who around. ap (λ (q : PrintedCall). good_text q.printed) (only_one p now in_p ∙ sym (only_one p earlier in_b)) ∙ printed;
}
