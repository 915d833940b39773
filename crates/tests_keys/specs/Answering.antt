-- What a tool means that answers each question with one text.
use Rattle.std.specs.Prelude.{pos, [], ◌∷◌, Some}
use Rattle.base_files.specs.Bytes.{Bytes}
use Rattle.ckeys_records.specs.Meaning.{Meaning, made_of}
use Rattle.ckeys_records.specs.declared.step.Step.TheVariants.{Preprocess, Compile, DepInfo, FileNames, ArchiveDigest}

-- rustc gives these texts on dependencies, on names and as a digest; whatever else is asked fails
abbrev pub answering : Bytes → Bytes → Bytes → Meaning
answering dep_info file_names digest DepInfo asked outputs scene = made_of (pos 0) (Some dep_info ∷ [])
answering dep_info file_names digest FileNames asked outputs scene = made_of (pos 0) (Some file_names ∷ [])
answering dep_info file_names digest ArchiveDigest asked outputs scene = made_of (pos 0) (Some digest ∷ [])
answering dep_info file_names digest Preprocess asked outputs scene = made_of (pos 1) (Some [] ∷ [])
answering dep_info file_names digest Compile asked outputs scene = made_of (pos 1) []
