use Rattle.std.proofs.Common.{◌≡◌, false, List, take, drop, fold, filter}
use Rattle.base_files.specs.Bytes.{Bytes}
use Rattle.rustc_texts.specs.Outputs.{Tells, with_metadata_of}
use Rattle.rustc_texts.specs.Places.{TellsLast, is_none_of}
use Rattle.rustc_texts.proofs.metadata.in_place.Given as goal

-- The set contains the names with the metadata of the libraries so far. Those of them are made that are none of the libraries left.
abbrev pub invariant-loop-place : goal.invariant-loop-place
invariant-loop-place l =
    let names : List Bytes = fold (with_metadata_of false) l.fn.names.items (take l.place l.libraries) in
    record {
      told : Tells l.known names;
      last : TellsLast l.last l.libraries;
      made : l.made.items ≡ filter (is_none_of (drop l.place l.libraries)) names;
    }
