use Rattle.std.proofs.Common.{◌++◌, ap, filter, ◌∙◌}
use Rattle.ckeys_records.specs.Meaning.{names_of}
use Rattle.ckeys_records.specs.Params.{is_cached, stripped_words}
use Rattle.wrap_fingerprints.proofs.fingerprint.c_parts.Goals as goal

pub returns : goal.returns
returns c =
    let executable = c.in_ok-executable.ensures ∙ c.as_bytes-digest.ensures.value in
    let words = c.in_ok-words.ensures ∙ (λ i. stripped_words (c.basedirs-folders.ensures i) (c.as_slice-common.ensures i ++ c.as_slice-arch.ensures i)) in
    let variables = c.in_ok-variables.ensures ∙ ap (filter is_cached) c.as_slice.ensures in
    let names = c.in_ok-names.ensures ∙ ap names_of c.as_slice-outputs.ensures in
    λ i. record {
      compiler = executable i;
      plusplus = c.plusplus.ensures i;
      language = c.args.parsed.now.language;
      words = words i;
      variables = variables i;
      extra_hashes = c.args.made.extra_hashes;
      assembler = c.in_ok-assembler.ensures i;
      text = c.args.made.text;
      names = names i;
    }
