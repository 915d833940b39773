use Rattle.std.proofs.Common.{◌≡◌, ◌++◌, map, drop, string_bytes}
use Rattle.std.specs.Str.{encode_utf8_all}
use Rattle.cmdlines_response_files.specs.Decoding.{windows_1252}
use Rattle.cmdlines_response_files.proofs.decoding.windows_1252_text.Given as goal

-- the text so far, and that of the bytes that are left
abbrev pub invariant-loop-byte : goal.invariant-loop-byte
invariant-loop-byte l = string_bytes l.text ++ encode_utf8_all (map windows_1252 (drop l.byte-index l.bytes)) ≡ encode_utf8_all (map windows_1252 l.fn.bytes)
