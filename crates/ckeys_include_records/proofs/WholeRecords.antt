-- Whole records, read and written.
use Rattle.std.proofs.Common.{◌≡◌, ℕ, suc, ◌<◌, true, false, cond, eqb, List, [], ◌∷◌, ◌++◌, length, get_or, Some, None, Result, Ok, Err, refl, sym, ap, subst, ◌∙◌, arith, inl, inr}
use Rattle.std.specs.Prelude.{◌&&◌, ◌≢◌, MatchResult, IfErr}
use Rattle.std.proofs.lemmas.Bool.{and_parts, eqb-true}
use Rattle.std.proofs.lemmas.List.{append-nil, nil_from_length}
use Rattle.base_files.specs.Bytes.{Bytes}
use Rattle.base_formats.specs.FieldFormats.{bind_some, counted_format, if_some, some_is}
use Rattle.base_formats.specs.Formats.{IsBytes, IsFormat, IsOnly}
use Rattle.base_formats.specs.Reading.{Fails, counted_at}
use Rattle.base_formats.specs.declared.fault.ReadFault.{ReadFault}
use Rattle.base_formats.specs.declared.fault.ReadFault.TheVariants as faults
use Rattle.base_formats.specs.Spelling.{counted, CountFits}
use Rattle.ckeys_include_records.specs.Layout.{IsRecord, ResultFits, record_bytes, result_at, result_bytes, results_at}
use Rattle.ckeys_include_records.specs.RecordFormats.{result_format}
use Rattle.ckeys_include_records.specs.Records.{Record, is_record, rises}
use Rattle.ckeys_include_records.specs.Refusals.{IsNoRecord, IsUnread, IsWrittenAs, OnRead}
use Rattle.ckeys_include_records.specs.declared.entry.CachedResult.{CachedResult}
use Rattle.ckeys_base.specs.declared.error.Error.{Error}
use Rattle.ckeys_base.specs.declared.error.Error.TheVariants.{Io, Deserialization, UnknownFormat, Memory}

results_format : IsFormat (counted_at result_at) (counted result_bytes) (CountFits ResultFits)
results_format = counted_format _ _ _ result_format

pub results_take : (bytes : Bytes) (results : List CachedResult) → IsBytes bytes → results_at bytes ≡ Some results → IsRecord results × (bytes ≡ counted result_bytes results)
unfolding results_at
results_take bytes results fits e =
    let b = bind_some (counted_at result_at bytes) (λ r. cond (eqb (length r.1) 0 && is_record r.0) (Some r.0) None) results e in
    let g = if_some (eqb (length b.0.1) 0 && is_record b.0.0) (Some b.0.0) results b.2 in
    let t = results_format.takes bytes b.0 fits b.1 in
    let tests = and_parts _ _ g.0 in
    let none : b.0.1 ≡ [] = nil_from_length b.0.1 (eqb-true _ _ tests.0) in
    let whole : bytes ≡ counted result_bytes b.0.0 = t.0.parts ∙ ap (λ (r : Bytes). counted result_bytes b.0.0 ++ r) none ∙ append-nil (counted result_bytes b.0.0) in
    subst (λ (v : List CachedResult). IsRecord v × (bytes ≡ counted result_bytes v)) (some_is b.0.0 results g.1) (record { fits = t.1; kept = tests.1 }, whole)

pub results_again : (results : List CachedResult) → IsRecord results → results_at (counted result_bytes results) ≡ Some results
unfolding results_at
results_again results is =
    let read : counted_at result_at (counted result_bytes results) ≡ Some (results, []) = ap (counted_at result_at) (sym (append-nil (counted result_bytes results))) ∙ results_format.again results [] is.fits in
    rw (read, is.kept) refl

module _ (bytes : Bytes) where
  pub results-fail : (fault : ReadFault) → Fails fault (counted_at result_at bytes) → Fails fault (results_at bytes)
  unfolding results_at
  results-fail faults.Memory none = tt
  results-fail faults.Unfit none = rw none refl

  module _ (results : List CachedResult) (rest : Bytes) (read : counted_at result_at bytes ≡ Some (results, rest)) where
    pub results-left : eqb (length rest) 0 ≡ false → results_at bytes ≡ None
    unfolding results_at
    results-left left = rw (read, left) refl

    pub results-kept : eqb (length rest) 0 ≡ true → is_record results ≡ true → results_at bytes ≡ Some results
    unfolding results_at
    results-kept ends kept = rw (read, ends, kept) refl

    pub results-not_kept : eqb (length rest) 0 ≡ true → is_record results ≡ false → results_at bytes ≡ None
    unfolding results_at
    results-not_kept ends kept = rw (read, ends, kept) refl

pub empty_is_record : IsRecord []
unfolding rises
empty_is_record = record { fits = (omega arith, tt); kept = refl }

abbrev pub Reads : Bytes → Result Record Error → Type 0
Reads rest r = MatchResult r (λ entry. results_at rest ≡ Some entry.results) (λ e. IsUnread rest e)

-- what a record is spelled as after the first byte
after_one : (bytes rest : Bytes) (results : List CachedResult) → bytes ≡ 1 ∷ rest → bytes ≡ record_bytes results → rest ≡ counted result_bytes results
after_one bytes rest results is spelled = let same : 1 ∷ rest ≡ 1 ∷ counted result_bytes results = sym is ∙ spelled in cc

unread_is_none : (bytes rest : Bytes) → bytes ≡ 1 ∷ rest → results_at rest ≡ None → (results : List CachedResult) → IsRecord results → bytes ≢ record_bytes results
unread_is_none bytes rest is none results fits spelled =
    let clash = sym none ∙ (ap results_at (after_one bytes rest results is spelled) ∙ results_again results fits) in
    absurd cc

-- where there are bytes, those of a record are its own
written_as : (bytes rest : Bytes) (b : ℕ) (results : List CachedResult) → bytes ≡ b ∷ rest → IsWrittenAs bytes results → bytes ≡ record_bytes results
written_as bytes rest b results is (fits, inl spelled) = spelled
written_as bytes rest b results is (fits, inr empty) = let clash : b ∷ rest ≡ [] = sym is ∙ empty.0 in absurd cc

-- what is read where there are no bytes, where another byte comes first, and after the first byte
pub read_empty : (bytes : Bytes) → bytes ≡ [] → IsOnly (IsWrittenAs bytes) (Some [])
read_empty bytes is = record {
  found = (empty_is_record, inr (is, refl));
  only = λ results h. elim h.1 [
    | inl spelled ↦ let clash : [] ≡ record_bytes results = sym is ∙ spelled in absurd cc
    | inr empty ↦ ap Some (sym empty.1)
  ];
}

pub read_other : (bytes rest : Bytes) (b : ℕ) → bytes ≡ b ∷ rest → b ≢ 1 → IsOnly (IsWrittenAs bytes) None
read_other bytes rest b is other = record {
  found = tt;
  only = λ results h. let same : b ∷ rest ≡ record_bytes results = sym is ∙ written_as bytes rest b results is h in absurd (other cc);
}

pub read_after : (bytes rest : Bytes) (r : Result Record Error) → bytes ≡ 1 ∷ rest → IsBytes rest → Reads rest r → OnRead r (IsOnly (IsWrittenAs bytes))
read_after bytes rest (Ok entry) is fits gave =
    let t = results_take rest entry.results fits gave in
    record {
      found = (t.0, inl (is ∙ ap (λ (x : Bytes). 1 ∷ x) t.1));
      only = λ results h. sym gave ∙ (ap results_at (after_one bytes rest results is (written_as bytes rest 1 results is h)) ∙ results_again results h.0);
    }
read_after bytes rest (Err Memory) is fits gave = tt
read_after bytes rest (Err Io) is fits gave = absurd gave
read_after bytes rest (Err (UnknownFormat b)) is fits gave = absurd gave
read_after bytes rest (Err Deserialization) is fits gave = record {
  found = tt;
  only = λ results h. absurd (unread_is_none bytes rest is gave results h.0 (written_as bytes rest 1 results is h));
}

refused_with : (bytes rest : Bytes) (e : Error) → bytes ≡ 1 ∷ rest → IsUnread rest e → IsNoRecord bytes e
refused_with bytes rest Memory is why = tt
refused_with bytes rest Io is why = why
refused_with bytes rest (UnknownFormat b) is why = absurd why
refused_with bytes rest Deserialization is why = ((rest, is), unread_is_none bytes rest is why)

pub refused_after : (bytes rest : Bytes) (r : Result Record Error) → bytes ≡ 1 ∷ rest → Reads rest r → IfErr r (λ e. IsNoRecord bytes e)
refused_after bytes rest (Ok entry) is gave = tt
refused_after bytes rest (Err e) is gave = refused_with bytes rest e is gave

pub rest_is_bytes : (bytes : Bytes) (b : ℕ) (rest : Bytes) → bytes ≡ b ∷ rest → IsBytes bytes → IsBytes rest
rest_is_bytes bytes b rest is fits i = let h = fits (suc i) in subst (λ (x : Bytes). get_or x (suc i) 0 < 256) is h
