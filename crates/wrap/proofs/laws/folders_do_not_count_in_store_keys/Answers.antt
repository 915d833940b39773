use Rattle.std.proofs.Common.{◌≡◌}
use Rattle.ckeys.specs.Calls.{KeyCall, record_of}
use Rattle.ckeys_records.specs.Keys as keys
use Rattle.wrap_base.specs.declared.store_key.Shape.TheVariants as shapes
use Rattle.ckeys_records.specs.Meaning.{Meaning}
use Rattle.wrap.specs.SameCalls.{AreSameWithoutFolders}
use Rattle.wrap_base.specs.declared.store_key.Family.TheVariants.{C}
use Rattle.wrap.proofs.laws.folders_do_not_count_in_store_keys.Goals as goal

-- the records of such calls are equal
one_record : (meaning : Meaning) (one other : KeyCall) → AreSameWithoutFolders meaning one other → record_of meaning one ≡ record_of meaning other
one_record meaning one other same = λ i. record {
  compiler_digest = same.compiler i;
  plusplus = same.plusplus i;
  language = same.language i;
  words = same.words i;
  variables = same.variables i;
  extra_contents = same.extra_contents i;
  assembler_digest = same.assembler i;
  text = same.text i;
}

pub returns : goal.returns
returns c digest_of meaning one other same =
    let records = one_record meaning one other same in
    λ i. record { family = C; shape = shapes.C (keys.record_shape digest_of (records i)); names = same.names i; digest = keys.key_of digest_of (records i) }
