-- The parts of a call as they are kept, and as a session has them.
use Rattle.wrap_fingerprints.specs.declared.c_parts.CParts.{CParts}
use Rattle.cache_format.specs.declared.kept_parts.KeptParts.{KeptParts}

-- the parts that are kept so
abbrev pub parts_in : KeptParts → CParts
parts_in k = record { compiler = k.compiler; plusplus = k.plusplus; language = k.language; words = k.words; variables = k.variables; extra_hashes = k.extra_hashes; assembler = k.assembler; text = k.text; names = k.names }
