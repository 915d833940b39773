use Rattle.std.proofs.Common.{◌≡◌, List, ℕ, [], ◌∷◌, ◌++◌, ap, ◌∙◌}
use Rattle.std.proofs.lemmas.Result.{IfOk-weaker}
use Rattle.std.specs.Prelude.{map, string_bytes}
use Rattle.base_files.specs.Path.{join}
use Rattle.ckeys_base.specs.Hex.{hex_of}
use Rattle.base_formats.specs.Spelling.{framed_all}
use Rattle.ckeys_include_records.specs.Identity.{identity_of}
use Rattle.ckeys_include_records.specs.Sights.{day_part, second_part, seen_by, sight_parts, sights_of}
use Rattle.ckeys_include_records.proofs.sights.told_key.Goals as goal

pub returns-clause-digest : goal.returns-clause-digest
returns-clause-digest g c =
    let p1 = c.as_slice-4.result.now ∷ [] in
    let p2 = p1 ++ c.as_bytes-3.result.now ∷ [] in
    let p3 = p2 ++ c.flag.result.now ∷ [] in
    let p4 = p3 ++ c.as_bytes-4.result.now ∷ [] in
    let p5 = p4 ++ c.as_slice-5.result.now ∷ [] in
    let p6 = p5 ++ c.as_slice-6.result.now ∷ [] in
    let p7 = p6 ++ c.as_slice-7.result.now ∷ [] in
    let p8 = p7 ++ c.as_slice-8.result.now ∷ [] in
    let p9 = p8 ++ c.as_bytes-5.result.now ∷ [] in
    let p10 = p9 ++ c.as_bytes-6.result.now ∷ [] in
    let p11 = p10 ++ c.as_bytes-7.result.now ∷ [] in
    let p12 = p11 ++ c.as_bytes-8.result.now ∷ [] in
    let h1 = c.put.ensures.held [] c.new-digest.ensures in
    let h2 = c.put-2.ensures.held p1 h1 in
    let h3 = c.put-3.ensures.held p2 h2 in
    let h4 = c.put-4.ensures.held p3 h3 in
    let h5 = c.put-5.ensures.held p4 h4 in
    let h6 = c.put-6.ensures.held p5 h5 in
    let h7 = c.put-7.ensures.held p6 h6 in
    let h8 = c.put-8.ensures.held p7 h7 in
    let h9 = c.put-9.ensures.held p8 h8 in
    let h10 = c.put-10.ensures.held p9 h9 in
    let h11 = c.put-11.ensures.held p10 h10 in
    let h12 = c.put-12.ensures.held p11 h11 in
    let language = c.as_bytes-4.ensures.value ∙ c.as_str.ensures in
    let words =
    c.as_slice-5.ensures.value
    ∙ c.in_ok-words.ensures.bytes
    ∙ (λ i. framed_all (c.as_slice.ensures i ++ (c.as_slice-2.ensures i ++ c.as_slice-3.ensures i)))
    in
    let extra = c.as_slice-6.ensures.value ∙ c.in_ok-extra.ensures.bytes in
    let assembler = c.as_slice-7.ensures.value ∙ c.in_ok-assembler_digest.ensures.bytes in
    let env = c.as_slice-8.ensures.value ∙ c.in_ok-env.ensures.bytes in
    let path = c.as_bytes-5.ensures ∙ c.in_ok-path.ensures ∙ (λ i. join (c.as_bytes.ensures i) (c.as_bytes-2.ensures i)) in
    let input = c.as_bytes-6.ensures.value ∙ c.in_ok-input_digest.ensures in
    let day = c.as_bytes-7.ensures.value ∙ c.in_ok-day.ensures ∙ ap day_part c.asked_of-day.ensures.day in
    let second = c.as_bytes-8.ensures.value ∙ c.in_ok-second.ensures ∙ ap second_part c.asked_of-day.ensures.second in
    let sights = sights_of g.H.HashState.digest_of (identity_of c.args.asker.now) (map string_bytes c.args.extra.now) (seen_by c.args.input.now) in
    let same : p12 ≡ sight_parts sights =
    λ i.
    c.as_slice-4.ensures i
    ∷ c.as_bytes-3.ensures.value i
    ∷ c.flag.ensures i
    ∷ language i
    ∷ words i
    ∷ extra i
    ∷ assembler i
    ∷ env i
    ∷ path i
    ∷ input i
    ∷ day i
    ∷ second i
    ∷ []
    in
    IfOk-weaker c.finish.result _ _ (λ key h. h p12 h12 ∙ ap (λ (parts : List (List ℕ)). hex_of (g.H.HashState.digest_of (framed_all parts))) same) c.finish.ensures
