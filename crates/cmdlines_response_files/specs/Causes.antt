-- Why words aren't expanded.
use Rattle.base_files.specs.Bytes.{Bytes}
use Rattle.cmdlines_response_files.specs.declared.fault.ParseFault.{ParseFault}
use Rattle.cmdlines_response_files.specs.declared.fault.ParseFault.TheVariants.{Memory, Read}

-- out of memory, or an I/O error at that name
abbrev pub CauseOf : (Bytes → Type 0) → ParseFault → Type 0
CauseOf on_file Memory = Unit {0}
CauseOf on_file (Read path) = on_file path
