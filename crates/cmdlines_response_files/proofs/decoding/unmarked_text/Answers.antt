use Rattle.std.proofs.Common.{◌≡◌, IfOk, string_bytes, subst}
use Rattle.std.proofs.lemmas.Str.{is_utf8-from_IsUtf8}
use Rattle.base_files.specs.Bytes.{Bytes}
use Rattle.cmdlines_response_files.proofs.DecodingLemmas.{no_utf8}
use Rattle.cmdlines_response_files.proofs.decoding.unmarked_text.Goals as goal

pub returns-in-Ok : goal.returns-in-Ok
returns-in-Ok c = rw (is_utf8-from_IsUtf8 c.args.bytes.now c.in-Ok.ensures.cases.1) (subst (λ (bytes : Bytes). IfOk c.from_str.result (λ text. string_bytes text ≡ bytes)) c.in-Ok.ensures.cases.0 c.from_str.ensures.ok)

pub returns-in-Err : goal.returns-in-Err
returns-in-Err c = rw (no_utf8 c.args.bytes.now c.in-Err.ensures.cases.0) c.windows_1252_text.ensures
