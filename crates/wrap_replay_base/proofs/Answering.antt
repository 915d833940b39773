-- A recorded answer is what a replaying tool means.
use Rattle.std.proofs.Common.{◌≡◌, Bool, true, ◌&&◌, List, Option, None, Some, refl, sym, ap, ◌∙◌, if◌then◌else◌}
use Rattle.std.specs.Str.{bytes_eq}
use Rattle.std.proofs.lemmas.Bool.{and_from}
use Rattle.base_files.specs.Bytes.{Bytes}
use Rattle.cmdlines_base.specs.Artifacts.{Artifacts}
use Rattle.cmdlines_tables.specs.declared.compiler.CCompilerKind.{CCompilerKind}
use Rattle.ckeys_records.specs.Meaning.{Made, asked_of, names_of, words}
use Rattle.ckeys_records.specs.declared.preprocessor.Printed.{Printed}
use Rattle.wrap_base.specs.AskedBy.{asked_by}
use Rattle.wrap_base.specs.declared.tool.Compiled.{Compiled}
use Rattle.wrap_replay_base.specs.Recorded.{compiled_for, crate_for, made_as, made_for, made_in, printed_as, printed_for, printed_in, same_outputs, told_for, unmade}
use Rattle.wrap_replay_base.specs.SameAsked.{same_asked, same_list, same_name}
use Rattle.wrap_replay_base.specs.declared.replay_tool.RecordedOutputs.{RecordedOutputs}
use Rattle.wrap_replay_base.specs.declared.replay_tool.RecordedText.{RecordedText}
use Rattle.wrap_replay_base.specs.declared.rustc_records.RecordedAnswer.{RecordedAnswer}
use Rattle.wrap_replay_base.specs.declared.rustc_records.RecordedCrate.{RecordedCrate}
use Rattle.wrap_replay_base.proofs.AskedAlike.{asked_own, bytes_own}

taken : (b : Bool) (made : Made) → b ≡ true → made ≡ (if b then made else unmade)
taken b made h = rw h refl

-- ---- a C compiler's

same_question : (kind own : CCompilerKind) (command their : List Bytes) → own ≡ kind → their ≡ command → same_asked (asked_of kind command) (asked_of own their) ≡ true
same_question kind own command their k w = rw (k, w) (asked_own (asked_of kind command))

pub prints_again : (text : Option RecordedText) (r : RecordedText) (kind : CCompilerKind) (command : List Bytes) (p : Printed) → text ≡ Some r → r.kind ≡ kind → r.words ≡ command → p ≡ r.printed → printed_as p ≡ printed_for text (asked_of kind command)
prints_again text r kind command p is k w same =
    ap printed_as same ∙ taken (same_asked (asked_of kind command) (asked_of r.kind r.words)) (printed_in r) (same_question kind r.kind command r.words k w) ∙ ap (λ t. printed_for t (asked_of kind command)) (sym is)

-- a command to the C compiler of the recorded kind, with the recorded words, for outputs of the recorded names
makes_again : (outputs : Option RecordedOutputs) (r : RecordedOutputs) (command : List Bytes) (asked : Artifacts) (m : Compiled) → outputs ≡ Some r → r.words ≡ command → same_outputs asked r.names ≡ true → m ≡ r.made → made_as m ≡ made_for outputs (asked_of r.kind command) (names_of asked)
makes_again outputs r command asked m is w names same =
    let question = asked_of r.kind command in
    let one = same_question r.kind r.kind command r.words refl w in
    let both = and_from (same_asked question (asked_of r.kind r.words)) (same_list same_name (names_of asked) r.names) one names in
    ap made_as same ∙ taken (same_asked question (asked_of r.kind r.words) && same_list same_name (names_of asked) r.names) (made_in r) both ∙ ap (λ o. made_for o question (names_of asked)) (sym is)

pub compiles_again : (outputs : Option RecordedOutputs) (crate : Option RecordedCrate) (dir : Bytes) (r : RecordedOutputs) (kind : Option CCompilerKind) (command : List Bytes) (asked : Artifacts) (m : Compiled) → outputs ≡ Some r → kind ≡ Some r.kind → r.words ≡ command → same_outputs asked r.names ≡ true → m ≡ r.made → made_as m ≡ compiled_for outputs crate (asked_by kind command) (names_of asked) dir
compiles_again outputs crate dir r kind command asked m is k w names same =
    makes_again outputs r command asked m is w names same ∙ ap (λ k. compiled_for outputs crate (asked_by k command) (names_of asked) dir) (sym k)

-- ---- rustc's

same_command : (command their : List Bytes) → their ≡ command → same_asked (words command) (words their) ≡ true
same_command command their w = rw w (asked_own (words command))

same_folder : (dir their : Bytes) → their ≡ dir → bytes_eq dir their ≡ true
same_folder dir their d = rw d (bytes_own dir)

-- a command of the recorded words, in the recorded folder
pub tells_again : (told : Option RecordedAnswer) (r : RecordedAnswer) (command : List Bytes) (dir : Bytes) (p : Printed) → told ≡ Some r → r.words ≡ command → r.dir ≡ dir → p ≡ r.printed → printed_as p ≡ told_for told (words command) dir
tells_again told r command dir p is w d same =
    let both = and_from (same_asked (words command) (words r.words)) (bytes_eq dir r.dir) (same_command command r.words w) (same_folder dir r.dir d) in
    ap printed_as same ∙ taken (same_asked (words command) (words r.words) && bytes_eq dir r.dir) (printed_as r.printed) both ∙ ap (λ t. told_for t (words command) dir) (sym is)

-- and for outputs of the recorded names
crate_again : (crate : Option RecordedCrate) (r : RecordedCrate) (command : List Bytes) (dir : Bytes) (asked : Artifacts) (m : Compiled) → crate ≡ Some r → r.words ≡ command → r.dir ≡ dir → same_outputs asked r.names ≡ true → m ≡ r.made → made_as m ≡ crate_for crate (words command) (names_of asked) dir
crate_again crate r command dir asked m is w d names same =
    let after = and_from (same_list same_name (names_of asked) r.names) (bytes_eq dir r.dir) names (same_folder dir r.dir d) in
    let all = and_from (same_asked (words command) (words r.words)) (same_list same_name (names_of asked) r.names && bytes_eq dir r.dir) (same_command command r.words w) after in
    ap made_as same ∙ taken (same_asked (words command) (words r.words) && (same_list same_name (names_of asked) r.names && bytes_eq dir r.dir)) (made_as r.made) all ∙ ap (λ c. crate_for c (words command) (names_of asked) dir) (sym is)

pub crates_again : (outputs : Option RecordedOutputs) (crate : Option RecordedCrate) (r : RecordedCrate) (kind : Option CCompilerKind) (command : List Bytes) (dir : Bytes) (asked : Artifacts) (m : Compiled) → crate ≡ Some r → kind ≡ None → r.words ≡ command → r.dir ≡ dir → same_outputs asked r.names ≡ true → m ≡ r.made → made_as m ≡ compiled_for outputs crate (asked_by kind command) (names_of asked) dir
crates_again outputs crate r kind command dir asked m is k w d names same =
    crate_again crate r command dir asked m is w d names same ∙ ap (λ k. compiled_for outputs crate (asked_by k command) (names_of asked) dir) (sym k)
