use Rattle.std.proofs.Common.{◌≡◌, true, take, fold}
use Rattle.rustc_texts.specs.Outputs.{Tells, with_metadata_of}
use Rattle.rustc_texts.proofs.metadata.beside.Given as goal

-- the names with the metadata of the libraries so far, which the set contains
abbrev pub invariant-loop-library : goal.invariant-loop-library
invariant-loop-library l = record {
  names : l.names.items ≡ fold (with_metadata_of true) l.fn.names.items (take l.library-index l.libraries);
  told : Tells l.known l.names.items;
}
