use Rattle.std.proofs.Common.{◌≡◌, ◌++◌, ℕ, length, map}
use Rattle.std.specs.List.{AllByRecursion}
use Rattle.ckeys_records.specs.Meaning.{Scene}
use Rattle.rustc_parts.specs.Formed.{IsDigest, digest_digits}
use Rattle.rustkeys.specs.Calls.{digest_fault_of}
use Rattle.rustkeys.specs.Questions.{digested}
use Rattle.rustkeys.specs.Runs.{AtMostFor, ticked_for}
use Rattle.rustkeys.proofs.archives.archive_digests.Given as goal

-- the digests so far come before those of the libraries that are left, and the first one that isn't a digest is among these
abbrev pub invariant-loop-path : goal.invariant-loop-path
invariant-loop-path g l =
    let tree = g.F.Files.tree l.fn.files in
    let meaning = g.A.Preprocessor.meaning l.fn.answers in
    record {
      digests : (scene : Scene) → scene.files ≡ tree → l.digests ++ map (λ archive. archive.1) (digested meaning scene l.rest) ≡ map (λ archive. archive.1) (digested meaning scene l.fn.paths);
      fault : (scene : Scene) → scene.files ≡ tree → digest_fault_of (digested meaning scene l.fn.paths) ≡ digest_fault_of (digested meaning scene l.rest);
      formed : AllByRecursion (IsDigest digest_digits) l.digests;
      tree : g.F.Files.tree l.files ≡ tree;
      meaning : g.A.Preprocessor.meaning l.answers ≡ meaning;
      steady : g.F.Files.failed l.files ≡ g.F.Files.failed l.fn.files;
      tool : g.A.Preprocessor.failed l.answers ≡ g.A.Preprocessor.failed l.fn.answers;
      runs : g.A.Preprocessor.preprocessed l.answers ≡ g.A.Preprocessor.preprocessed l.fn.answers;
      asked : ticked_for l.rest (g.A.RustcAnswers.archived l.answers) ≡ ticked_for l.fn.paths (g.A.RustcAnswers.archived l.fn.answers);
      once : (after : ℕ) → AtMostFor l.rest (g.A.RustcAnswers.archived l.answers) after → AtMostFor l.fn.paths (g.A.RustcAnswers.archived l.fn.answers) after;
      compiles : g.A.Preprocessor.compiled l.answers ≡ g.A.Preprocessor.compiled l.fn.answers;
    }

abbrev pub decreases-loop-path : goal.decreases-loop-path
decreases-loop-path g l = length l.rest
