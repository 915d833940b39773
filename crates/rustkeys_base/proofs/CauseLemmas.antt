-- Causes of faults, later on, and items with a fault.
use Rattle.std.proofs.Common.{◌≡◌, List, [], ◌∷◌, ◌++◌, map, Ok, Err, ◌∙◌}
use Rattle.base_files.specs.Bytes.{Bytes}
use Rattle.base_files.specs.Views.{FilesFail, FilesView}
use Rattle.cmdlines_response_files.specs.Causes.{CauseOf}
use Rattle.cmdlines_response_files.specs.Words.{Items}
use Rattle.cmdlines_response_files.specs.declared.fault.ParseFault.{ParseFault}
use Rattle.cmdlines_response_files.specs.declared.fault.ParseFault.TheVariants.{Memory, Read}

-- a fault from a state of the same files, without a failure in between, has its cause from before too
pub cause-later : {F : Type 0} (files : FilesView F) (old mid new : F) → files.tree mid ≡ files.tree old → files.failed mid ≡ files.failed old
    → (fault : ParseFault) → CauseOf (FilesFail files mid new) fault → CauseOf (FilesFail files old new) fault
cause-later files old mid new same steady Memory h = tt
cause-later files old mid new same steady (Read path) h = record { from = h.from; same = h.same ∙ same; steady = h.steady ∙ steady; ticks = h.ticks; leads = h.leads }

-- items that end with a fault aren't words alone
pub no_fault : (front : Items) (fault : ParseFault) (given : List Bytes) → front ++ Err fault ∷ [] ≡ map Ok given → ⊥
no_fault [] fault [] e = cc
no_fault [] fault (word ∷ words) e = cc
no_fault (item ∷ items) fault [] e = cc
no_fault (item ∷ items) fault (word ∷ words) e = let rest : items ++ Err fault ∷ [] ≡ map Ok words = cc in no_fault items fault words rest
