use Rattle.std.proofs.Common.{◌≡◌, rules}
use Rattle.std.specs.List.{each_same}
use Rattle.cache_c_why.proofs.parts.kept_parts.Goals as goal

pub returns-clause-parts : goal.returns-clause-parts
returns-clause-parts c =
    let parts = c.args.parts.now in
    let compiler : c.in_ok-clone.field-0 ≡ parts.compiler = search rules in
    let words : c.in_ok-clone-2.field-0 ≡ parts.words = each_same parts.words c.in_ok-clone-2.field-0 c.in_ok-clone-2.ensures.cases.0 in
    let variables : c.in_ok-copied_variables.field-0 ≡ parts.variables = search rules in
    let extra_hashes : c.in_ok-clone-3.field-0 ≡ parts.extra_hashes = each_same parts.extra_hashes c.in_ok-clone-3.field-0 c.in_ok-clone-3.ensures.cases.0 in
    let assembler : c.in_ok-clone-4.field-0 ≡ parts.assembler = search rules in
    let text : c.in_ok-clone-5.field-0 ≡ parts.text = search rules in
    let names : c.in_ok-copied_names.field-0 ≡ parts.names = search rules in
    λ i. record {
      compiler = compiler i;
      plusplus = parts.plusplus;
      language = parts.language;
      words = words i;
      variables = variables i;
      extra_hashes = extra_hashes i;
      assembler = assembler i;
      text = text i;
      names = names i;
    }
