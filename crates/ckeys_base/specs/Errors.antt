-- Why bytes aren't read or written.
use Rattle.ckeys_base.specs.declared.error.Error.{Error}
use Rattle.ckeys_base.specs.declared.error.Error.TheVariants.{Io, Deserialization, UnknownFormat, Memory}

-- memory was refused, or the reader or the writer failed
abbrev pub IsIoError : Error → Type 0
IsIoError Memory = Unit {0}
IsIoError Io = Unit {0}
IsIoError (UnknownFormat first) = ⊥
IsIoError Deserialization = ⊥
