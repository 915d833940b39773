use Rattle.std.proofs.Common.{rules, ◌≡◌, ◌<◌, [], ap, ◌∙◌, ◌++◌, length, string_bytes}
use Rattle.std.specs.Char.{encode_utf8}
use Rattle.std.specs.Char.Utf16.{utf16_lossy_chars}
use Rattle.std.specs.Str.{encode_utf8_all}
use Rattle.cmdlines_response_files.proofs.DecodingLemmas.{even_end, odd_end}
use Rattle.cmdlines_response_files.proofs.decoding.utf16_text.Goals as goal
use Rattle.cmdlines_response_files.proofs.decoding.utf16_text.Goals.{then-not-is_empty+in_ok-push-2, else-not-is_empty}

pub returns : goal.returns
returns c =
    let read = rw c.loop-rest.invariant.order at c.loop-rest.invariant.read in
    let units_text : string_bytes c.in_ok-text.text ≡ encode_utf8_all (utf16_lossy_chars c.loop-rest.units.items) = c.in_ok-text.ensures ∙ ap (λ units. encode_utf8_all (utf16_lossy_chars units)) c.as_slice.ensures.value in
    elim c.if-not-is_empty.branch [
      | then-not-is_empty+in_ok-push-2 w ↦
          let short : length c.loop-rest.rest.now < 2 = c.in_default.len_below in
          let some : c.loop-rest.rest.now ≡ [] → ⊥ = λ none. search rules in
          ap string_bytes w.text-is ∙ w.in_ok-push-2.ensures.bytes ∙ ap (λ text. text ++ encode_utf8 0xfffd) units_text ∙ odd_end c.args.high_first c.loop-rest.units.items c.args.bytes.now c.loop-rest.rest.now short some read c.loop-rest.invariant.odd
      | else-not-is_empty w ↦
          let none : c.loop-rest.rest.now ≡ [] = search rules in
          ap string_bytes w.text-is ∙ units_text ∙ even_end c.args.high_first c.loop-rest.units.items c.args.bytes.now c.loop-rest.rest.now none read c.loop-rest.invariant.odd
    ]
