-- The premises can be met over include records.
use Rattle.std.proofs.Common.{◌≡◌, ◌⊎◌, inl, inr, ℕ, zero, suc, ℤ, pos, ◌==◌, Bool, true, false, if◌then◌else◌, List, [], ◌∷◌, get_or, Some, None, refl, sym, ap, subst, ◌∙◌, arith, codes}
use Rattle.std.specs.List.{Contains}
use Rattle.std.specs.Option.{option_and_then}
use Rattle.std.specs.Str.{bytes_eq}
use Rattle.memchr.specs.Find.{first_of, matches_from}
use Rattle.base_files.specs.Bytes.{Bytes}
use Rattle.base_files.specs.Tree.{Node, contents_at}
use Rattle.base_files.specs.declared.files.Metadata.{Metadata}
use Rattle.ckeys_time_macros.specs.Days.{ZoneRule}
use Rattle.ckeys_time_macros.specs.Macros.{holds_date, holds_time, holds_timestamp}
use Rattle.ckeys_include_records.specs.Records.{result_with}
use Rattle.ckeys_include_records.specs.Identity.{identity_material}
use Rattle.ckeys_include_records.specs.Sights.{sight_material}
use Rattle.ckeys_include_records.specs.Telling.{entry_key_with}
use Rattle.ckeys.specs.Calls.{PrintedCall, record_by}
use Rattle.ckeys.specs.Entries.{HasMatch, Held, IsHashedBy, entry_key_by, good_text, has_entry_key, identity_by, includes_by, sights_by}
use Rattle.ckeys.specs.Entries.IsHashedBy.{of_identity, of_sights, of_extra_file, of_file}
use Rattle.ckeys_records.specs.Keys.{record_material}
use Rattle.wrap_keys.specs.CallRecords.{IsHashedFor}
use Rattle.ckeys_records.specs.Meaning.{made_of}
use Rattle.wrap_keys.specs.Account.{Work, direct_calls, worked}
use Rattle.wrap_keys.specs.StoreKeys.{HasRecord, IsHashedDirect, IsHashedIn, Premises}
use Rattle.wrap.specs.DirectExample.{call_on, header, header_include, first_byte_digest, printed_on, printed_text, record_on, file_with, source, text_key_on, two_files, two_moments, work_on}

some_same : {A : Type 0} (x y : A) → Some x ≡ Some y → x ≡ y
some_same x y e = cc

module _ (about : Metadata) (zone : ZoneRule) where
  pub asks_on : (moment : ℤ) → has_entry_key (call_on about zone moment) ≡ true
  unfolding holds_date holds_time first_of matches_from
  asks_on moment = refl

  pub recorded_on : (moment : ℤ) → includes_by first_byte_digest (call_on about zone moment) printed_text ≡ Some (header_include about zone ∷ [])
  unfolding holds_date holds_time holds_timestamp first_of matches_from
  recorded_on moment = refl

  -- no moment is given
  same_identity : (one other : ℤ) → identity_by (call_on about zone one) ≡ identity_by (call_on about zone other)
  unfolding identity_by
  same_identity one other = refl

  same_sights : (one other : ℤ) → sights_by first_byte_digest (call_on about zone one) ≡ sights_by first_byte_digest (call_on about zone other)
  unfolding sights_by identity_by holds_date holds_timestamp first_of matches_from
  same_sights one other = refl

  -- so the entry key is one
  pub found_on : (one other : ℤ) (held : Held) → held (entry_key_by first_byte_digest (call_on about zone one)) ≡ Some (record_on about zone one) → HasMatch first_byte_digest (call_on about zone other) held (text_key_on about zone one)
  found_on one other held h = record {
    key = entry_key_by first_byte_digest (call_on about zone one);
    is_entry = ap (λ b. if b then Some (entry_key_by first_byte_digest (call_on about zone other)) else None) (asks_on other) ∙ (λ i. Some (entry_key_with first_byte_digest (same_identity other one i) (same_sights other one i)));
    entry = record_on about zone one;
    is_held = h;
    r = result_with (text_key_on about zone one) (header_include about zone ∷ []);
    among = (0, omega arith, refl);
    is_key = refl;
    there = refl;
  }

  -- the strings that are hashed, whatever the moment is
  abbrev pub text_string : Bytes
  text_string = record_material first_byte_digest (record_by (printed_on about zone (pos 0)))

  abbrev pub identity_string : Bytes
  identity_string = identity_material (identity_by (call_on about zone (pos 0)))

  abbrev pub sights_string : Bytes
  sights_string = sight_material (sights_by first_byte_digest (call_on about zone (pos 0)))

  data Hashed (bytes : Bytes) : Type 0 where
    by_text : bytes ≡ text_string → Hashed bytes
    by_identity : bytes ≡ identity_string → Hashed bytes
    by_sights : bytes ≡ sights_string → Hashed bytes
    by_source : bytes ≡ source → Hashed bytes
    by_header : bytes ≡ header → Hashed bytes

  -- a regular file holds the one or the other
  held_in : (path bytes : Bytes) → contents_at (two_files about zone) path ≡ Some bytes → Hashed bytes
  held_in path bytes h = by (bytes_eq path (codes "/w/m.c")) (bytes_eq path (codes "/w/h.h")) h
    where
      by : (is_source is_header : Bool) → option_and_then (λ (n : Node). n.contents) (if is_source then Some (file_with about zone (codes "/w/m.c") source) else (if is_header then Some (file_with about zone (codes "/w/h.h") header) else None)) ≡ Some bytes → Hashed bytes
      by true is_header e = by_source (sym (some_same source bytes e))
      by false true e = by_header (sym (some_same header bytes e))
      by false false e = cc

  none_there : (bytes : Bytes) → Contains [] bytes → ⊥
  none_there bytes c = let within = c.1 in absurd (omega arith)

  asked_hashed : (moment : ℤ) (bytes : Bytes) → IsHashedBy first_byte_digest (call_on about zone moment) bytes → Hashed bytes
  asked_hashed moment bytes (of_identity is) = by_identity (is ∙ ap identity_material (same_identity moment (pos 0)))
  asked_hashed moment bytes (of_sights is) = by_sights (is ∙ ap sight_material (same_sights moment (pos 0)))
  asked_hashed moment bytes (of_extra_file c) = absurd (none_there bytes c)
  asked_hashed moment bytes (of_file path is) = held_in path bytes is

  direct_on : (moment : ℤ) → (work_on about zone moment).direct ≡ Some (printed_on about zone moment)
  direct_on moment = ap (λ b. if b then Some (printed_on about zone moment) else None) (asks_on moment)

  hashed_on : (moment : ℤ) (bytes : Bytes) → (HasRecord (work_on about zone moment) × IsHashedFor first_byte_digest (work_on about zone moment).rec bytes) ⊎ IsHashedDirect first_byte_digest (work_on about zone moment).direct bytes → Hashed bytes
  hashed_on moment bytes (inl (fine, inl c)) = absurd (none_there bytes c)
  hashed_on moment bytes (inl (fine, inr is)) = by_text is
  hashed_on moment bytes (inr h) = asked_hashed moment bytes (subst (λ o. IsHashedDirect first_byte_digest o bytes) (direct_on moment) h)

  module _ (one other : ℤ) where
    -- a call of the run is one of the two
    call_of : (w : Work) → Contains (two_moments about zone one other) (worked w) → (w ≡ work_on about zone one) ⊎ (w ≡ work_on about zone other)
    call_of w (zero, lt, is) = inl (cc)
    call_of w (suc zero, lt, is) = inr (cc)
    call_of w (suc (suc k), lt, is) = absurd (omega (arith, lt))

    hashed_in : (bytes : Bytes) → IsHashedIn first_byte_digest (two_moments about zone one other) bytes → Hashed bytes
    hashed_in bytes h = elim (call_of h.call h.among) [
      | inl is ↦ hashed_on one bytes (subst (λ (w : Work). (HasRecord w × IsHashedFor first_byte_digest w.rec bytes) ⊎ IsHashedDirect first_byte_digest w.direct bytes) is h.is)
      | inr is ↦ hashed_on other bytes (subst (λ (w : Work). (HasRecord w × IsHashedFor first_byte_digest w.rec bytes) ⊎ IsHashedDirect first_byte_digest w.direct bytes) is h.is)
    ]

    fresh_is : (w : Work) → Contains (two_moments about zone one other) (worked w) → w.fresh ≡ made_of (pos 0) (Some (codes "object") ∷ [])
    fresh_is w c = elim (call_of w c) [
      | inl is ↦ ap (λ (v : Work). v.fresh) is
      | inr is ↦ ap (λ (v : Work). v.fresh) is
    ]

    calls_are : direct_calls (two_moments about zone one other) ≡ printed_on about zone one ∷ printed_on about zone other ∷ []
    unfolding holds_date holds_time first_of matches_from
    calls_are = refl

    printed_is : (p : PrintedCall) → Contains (printed_on about zone one ∷ printed_on about zone other ∷ []) p → p.printed ≡ made_of (pos 0) (Some printed_text ∷ [])
    printed_is p (zero, lt, is) = sym (ap (λ (q : PrintedCall). q.printed) is)
    printed_is p (suc zero, lt, is) = sym (ap (λ (q : PrintedCall). q.printed) is)
    printed_is p (suc (suc k), lt, is) = absurd (omega (arith, lt))

  -- each of these strings by its first byte
  string_at : ℕ → Bytes
  string_at n = if n == 100 then text_string else (if n == 3 then identity_string else (if n == 2 then sights_string else (if n == 105 then source else header)))

  is_at : (bytes : Bytes) → Hashed bytes → bytes ≡ string_at (get_or bytes 0 0)
  unfolding string_at identity_by sights_by holds_date holds_timestamp first_of matches_from
  is_at bytes (by_text is) = is ∙ ap (λ (b : Bytes). string_at (get_or b 0 0)) (sym is)
  is_at bytes (by_identity is) = is ∙ ap (λ (b : Bytes). string_at (get_or b 0 0)) (sym is)
  is_at bytes (by_sights is) = is ∙ ap (λ (b : Bytes). string_at (get_or b 0 0)) (sym is)
  is_at bytes (by_source is) = is ∙ ap (λ (b : Bytes). string_at (get_or b 0 0)) (sym is)
  is_at bytes (by_header is) = is ∙ ap (λ (b : Bytes). string_at (get_or b 0 0)) (sym is)

  pub premises_on : (one other : ℤ) → Premises first_byte_digest (two_moments about zone one other)
  premises_on one other = record {
    distinct = λ x y hx hy e. is_at x (hashed_in one other x hx) ∙ ap (λ (d : Bytes). string_at (get_or d 0 0)) e ∙ sym (is_at y (hashed_in one other y hy));
    settled = λ a b ca cb fine fine_too same. fresh_is one other a ca ∙ sym (fresh_is one other b cb);
    reprinted = λ earlier now text names within also printed named who around.
        let printed_of : (p : PrintedCall) → Contains (direct_calls (two_moments about zone one other)) p → p.printed ≡ made_of (pos 0) (Some printed_text ∷ []) = λ p c. printed_is one other p (subst (λ (l : List PrintedCall). Contains l p) (calls_are one other) c) in
        ap good_text (printed_of now also ∙ sym (printed_of earlier within)) ∙ printed;
  }
