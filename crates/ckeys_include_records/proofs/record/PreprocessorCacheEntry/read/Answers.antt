use Rattle.std.proofs.Common.{◌≡◌, ◌∷◌, ap, ◌∙◌, arith, rules, ℕ}
use Rattle.std.proofs.lemmas.List.{nil_from_length}
use Rattle.ckeys_include_records.proofs.WholeRecords.{read_after, read_empty, read_other, refused_after, rest_is_bytes}
use Rattle.ckeys_include_records.proofs.record.PreprocessorCacheEntry.read.Goals as goal

pub returns-in_default-clause-read : goal.returns-in_default-clause-read
returns-in_default-clause-read c = rw c.new.ensures (read_empty c.args.bytes.now (nil_from_length c.args.bytes.now (search rules)))

pub returns-then-first-ne-FORMAT-clause-read : goal.returns-then-first-ne-FORMAT-clause-read
returns-then-first-ne-FORMAT-clause-read c = read_other c.args.bytes.now c.in-Some.rest.now c.in-Some.first.now c.in-Some.ensures.cases.0 c.if-first-ne-FORMAT.true

pub returns-clause-read : goal.returns-clause-read
returns-clause-read c =
    let is : c.args.bytes.now ≡ 1 ∷ c.in-Some.rest.now = c.in-Some.ensures.cases.0 ∙ ap (λ (n : ℕ). n ∷ c.in-Some.rest.now) c.if-first-ne-FORMAT.false in
    read_after c.args.bytes.now c.in-Some.rest.now c.read_after_format.result is (rest_is_bytes c.args.bytes.now 1 c.in-Some.rest.now is (λ i. omega (arith, c.type_inv.bytes i))) c.read_after_format.ensures

pub returns-clause-refused : goal.returns-clause-refused
returns-clause-refused c =
    let is : c.args.bytes.now ≡ 1 ∷ c.in-Some.rest.now = c.in-Some.ensures.cases.0 ∙ ap (λ (n : ℕ). n ∷ c.in-Some.rest.now) c.if-first-ne-FORMAT.false in
    refused_after c.args.bytes.now c.in-Some.rest.now c.read_after_format.result is c.read_after_format.ensures
