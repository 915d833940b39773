-- What is left to read of the response files that are open.
use Rattle.std.specs.Prelude.{List, reverse}
use Rattle.cmdlines_response_files.specs.declared.unread.Part.{Part}
use Rattle.cmdlines_response_files.specs.declared.unread.Unread.{Unread}

-- the parts, in the order in which they are read
abbrev pub parts_of : Unread → List Part
parts_of unread = reverse unread.parts.items
