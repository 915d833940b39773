-- What is collected of rustc's answers and of the files of a request before it has its key.
use Rattle.std.specs.Prelude.{◌≡◌, List, Option, map, string_bytes}
use Rattle.std.specs.Option.{option_map}
use Rattle.base_files.specs.Bytes.{Bytes}
use Rattle.base_files.specs.Tree.{Tree}
use Rattle.ckeys_include_records.specs.Surroundings.{contents_in}
use Rattle.ckeys_records.specs.Meaning.{text_in}
use Rattle.rustkeys.specs.Questions.{Answers, Question, extern_paths, profile_path, sources_in, target_path}
use Rattle.rustkeys.specs.Records.{digest_text}
use Rattle.rustkeys.specs.declared.collecting.Collected.{Collected}
use Rattle.rustkeys.specs.declared.collecting.OtherFiles.{OtherFiles}

-- the digests of the files of these paths, and that of a file where there is a path
abbrev pub file_digests : (Bytes → Bytes) → Tree → List Bytes → List Bytes
file_digests digest_of files paths = map (digest_text digest_of) (map (contents_in files) paths)

abbrev pub file_digest : (Bytes → Bytes) → Tree → Option Bytes → Option Bytes
file_digest digest_of files path = option_map (digest_text digest_of) (option_map (contents_in files) path)

-- the digests of all files but the sources, where static libraries have these
pub record AreFilesOf (digest_of : Bytes → Bytes) (q : Question) (libraries : List (Bytes × Bytes)) (found : OtherFiles) : Type 0 where
  pub externs : found.externs ≡ file_digests digest_of q.scene.files (extern_paths q)
  pub archives : found.archives ≡ map (λ library. library.1) libraries
  pub target : found.target ≡ file_digest digest_of q.scene.files (target_path q)
  pub profile : found.profile ≡ file_digest digest_of q.scene.files (profile_path q)

-- both texts as they were answered, and the digests of all files
pub record IsCollected (digest_of : Bytes → Bytes) (q : Question) (answers : Answers) (found : Collected) : Type 0 where
  pub text : string_bytes found.sources.text ≡ text_in answers.dep_info.contents
  pub names : string_bytes found.names ≡ text_in answers.file_names.contents
  pub sources : found.sources.digests ≡ file_digests digest_of q.scene.files (sources_in q.scene.dir (text_in answers.dep_info.contents))
  pub files : AreFilesOf digest_of q answers.archives found.files
