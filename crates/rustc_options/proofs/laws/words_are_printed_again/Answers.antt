use Rattle.rustc_options.specs.Printed.{word_again}
use Rattle.rustc_options.proofs.PrintedLemmas.{library-again, library-named, path-again, path-named}
use Rattle.rustc_options.proofs.CrateTypeLemmas.{crate-types-printed}
use Rattle.rustc_options.proofs.laws.words_are_printed_again.Goals as goal

pub returns-clause-word : goal.returns-clause-word
returns-clause-word c = word_again

pub returns-clause-library : goal.returns-clause-library
returns-clause-library c = library-again

pub returns-clause-bare_library : goal.returns-clause-bare_library
returns-clause-bare_library c = library-named

pub returns-clause-path : goal.returns-clause-path
returns-clause-path c = path-again

pub returns-clause-bare_path : goal.returns-clause-bare_path
returns-clause-bare_path c = path-named

pub returns-clause-crate_types : goal.returns-clause-crate_types
returns-clause-crate_types c = crate-types-printed
