-- Texts that are UTF-8, and others.
use Rattle.std.proofs.Common.{◌≡◌, Bool, true, false, Option, None, Some, [], refl}
use Rattle.std.specs.Prelude.{is_none, map}
use Rattle.std.specs.Option.{option_map}
use Rattle.std.specs.Str.{IsUtf8, is_utf8}
use Rattle.std.proofs.lemmas.Str.{IsUtf8-from_is_utf8, is_utf8-from_IsUtf8}
use Rattle.base_files.specs.Bytes.{Bytes}
use Rattle.base_files.specs.Path.{join}
use Rattle.ckeys_records.specs.declared.fault.Fault.TheVariants.{AnswerNotUtf8}
use Rattle.ckeys_records.specs.declared.step.Step.{Step}
use Rattle.rustc_texts.specs.DepInfo.{names_in, rule_of, sources_of}
use Rattle.rustkeys.specs.Calls.{utf8_fault_of}

pub utf8_fine : (step : Step) (text : Bytes) → IsUtf8 text → utf8_fault_of step text ≡ None
utf8_fine step text h = rw (is_utf8-from_IsUtf8 text h) refl

pub utf8_fault : (step : Step) (text : Bytes) → (IsUtf8 text → ⊥) → utf8_fault_of step text ≡ Some (AnswerNotUtf8 step)
utf8_fault step text h = by (is_utf8 text) refl
  where
    by : (b : Bool) → is_utf8 text ≡ b → utf8_fault_of step text ≡ Some (AnswerNotUtf8 step)
    by true e = absurd (h (IsUtf8-from_is_utf8 text e))
    by false e = rw e refl

-- a text without a rule names no sources
pub unruled : (dir text : Bytes) → is_none (rule_of text) ≡ true → sources_of dir text ≡ None
unruled dir text h = by (rule_of text) h
  where
    by : (rule : Option Bytes) → is_none rule ≡ true → option_map (λ found. map (join dir) (names_in found)) rule ≡ None
    by None e = refl
    by (Some found) e = cc
