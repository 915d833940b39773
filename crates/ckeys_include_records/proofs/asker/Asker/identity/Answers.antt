use Rattle.std.proofs.Common.{◌≡◌, List, ℕ, [], ◌∷◌, ◌++◌, ap, ◌∙◌}
use Rattle.std.proofs.lemmas.Result.{IfOk-weaker}
use Rattle.ckeys_base.specs.Hex.{hex_of}
use Rattle.base_formats.specs.Spelling.{framed_all}
use Rattle.ckeys_include_records.specs.Framing.{pair_parts, paths_of}
use Rattle.ckeys_include_records.specs.Identity.{identity_of, identity_parts}
use Rattle.ckeys_include_records.proofs.asker.Asker.identity.Goals as goal

pub returns-clause-digest : goal.returns-clause-digest
returns-clause-digest g c =
    let p1 = c.kind_name.result.now ∷ [] in
    let p2 = p1 ++ c.as_bytes.result.now ∷ [] in
    let p3 = p2 ++ c.flag.result.now ∷ [] in
    let p4 = p3 ++ c.as_slice-8.result.now ∷ [] in
    let p5 = p4 ++ c.as_bytes-2.result.now ∷ [] in
    let p6 = p5 ++ c.as_slice-9.result.now ∷ [] in
    let p7 = p6 ++ c.as_bytes-3.result.now ∷ [] in
    let p8 = p7 ++ c.as_slice-10.result.now ∷ [] in
    let p9 = p8 ++ c.as_bytes-4.result.now ∷ [] in
    let p10 = p9 ++ c.flag-2.result.now ∷ [] in
    let p11 = p10 ++ c.as_bytes-5.result.now ∷ [] in
    let p12 = p11 ++ c.as_slice-11.result.now ∷ [] in
    let p13 = p12 ++ c.as_slice-12.result.now ∷ [] in
    let p14 = p13 ++ c.as_slice-13.result.now ∷ [] in
    let p15 = p14 ++ c.as_slice-14.result.now ∷ [] in
    let p16 = p15 ++ c.as_slice-15.result.now ∷ [] in
    let p17 = p16 ++ c.as_slice-16.result.now ∷ [] in
    let p18 = p17 ++ c.as_slice-17.result.now ∷ [] in
    let h1 = c.put.ensures.held [] c.new-digest.ensures in
    let h2 = c.put-2.ensures.held p1 h1 in
    let h3 = c.put-3.ensures.held p2 h2 in
    let h4 = c.put-4.ensures.held p3 h3 in
    let h5 = c.put-5.ensures.held p4 h4 in
    let h6 = c.put-6.ensures.held p5 h5 in
    let h7 = c.put-7.ensures.held p6 h6 in
    let h8 = c.put-8.ensures.held p7 h7 in
    let h9 = c.put-9.ensures.held p8 h8 in
    let h10 = c.put-10.ensures.held p9 h9 in
    let h11 = c.put-11.ensures.held p10 h10 in
    let h12 = c.put-12.ensures.held p11 h11 in
    let h13 = c.put-13.ensures.held p12 h12 in
    let h14 = c.put-14.ensures.held p13 h13 in
    let h15 = c.put-15.ensures.held p14 h14 in
    let h16 = c.put-16.ensures.held p15 h15 in
    let h17 = c.put-17.ensures.held p16 h16 in
    let h18 = c.put-18.ensures.held p17 h17 in
    let version = c.as_slice-8.ensures.value ∙ c.in_ok-version.ensures.bytes in
    let assembler = c.as_slice-9.ensures.value ∙ c.in_ok-assembler_digest.ensures.bytes in
    let env = c.as_slice-10.ensures.value ∙ c.in_ok-env.ensures.bytes in
    let language = c.as_bytes-5.ensures.value ∙ c.as_str.ensures in
    let outputs = c.as_slice-11.ensures.value ∙ c.in_ok-outputs.ensures.bytes ∙ ap (λ outputs. framed_all (pair_parts (paths_of outputs))) c.as_slice.ensures in
    let preprocessor = c.as_slice-12.ensures.value ∙ c.in_ok-preprocessor_args.ensures.bytes ∙ ap framed_all c.as_slice-2.ensures in
    let dependency = c.as_slice-13.ensures.value ∙ c.in_ok-dependency_args.ensures.bytes ∙ ap framed_all c.as_slice-3.ensures in
    let unhashed = c.as_slice-14.ensures.value ∙ c.in_ok-unhashed_args.ensures.bytes ∙ ap framed_all c.as_slice-4.ensures in
    let common = c.as_slice-15.ensures.value ∙ c.in_ok-common_args.ensures.bytes ∙ ap framed_all c.as_slice-5.ensures in
    let arch = c.as_slice-16.ensures.value ∙ c.in_ok-arch_args.ensures.bytes ∙ ap framed_all c.as_slice-6.ensures in
    let extra = c.as_slice-17.ensures.value ∙ c.in_ok-extra_hash_files.ensures.bytes ∙ ap framed_all c.as_slice-7.ensures in
    let same : p18 ≡ identity_parts (identity_of c.args.self.now) =
    λ i.
    c.kind_name.ensures i
    ∷ c.as_bytes.ensures i
    ∷ c.flag.ensures i
    ∷ version i
    ∷ c.as_bytes-2.ensures.value i
    ∷ assembler i
    ∷ c.as_bytes-3.ensures i
    ∷ env i
    ∷ c.as_bytes-4.ensures i
    ∷ c.flag-2.ensures i
    ∷ language i
    ∷ outputs i
    ∷ preprocessor i
    ∷ dependency i
    ∷ unhashed i
    ∷ common i
    ∷ arch i
    ∷ extra i
    ∷ []
    in
    IfOk-weaker c.finish.result _ _ (λ text h. h p18 h18 ∙ ap (λ (parts : List (List ℕ)). hex_of (g.H.HashState.digest_of (framed_all parts))) same) c.finish.ensures
