use Rattle.ckeys_include_records.proofs.Listed.{list_of_each}
use Rattle.ckeys_include_records.proofs.laws.include_lists_are_of_each_name.Goals as goal

pub returns : goal.returns
returns c = λ digest_of place names. list_of_each place digest_of names
