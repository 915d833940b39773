-- What a scanner of lines finds, without where it lies in memory.
use Rattle.ckeys_marker_walk.specs.declared.line.Quoted.{Quoted}
use Rattle.ckeys_marker_walk.specs.declared.line.Quoted.TheVariants.{Closed, Unclosed, Misspelled}
use Rattle.ckeys_marker_walk.specs.declared.line.Start as the
use Rattle.ckeys_marker_walk.specs.declared.line.Start.TheVariants.{Bare, Worded}
use Rattle.ckeys_marker_walk.specs.Markers.{Start, bare, worded}
use Rattle.ckeys_marker_walk.specs.Scanning.{Name, closed, unclosed, misspelled}

abbrev pub start_of : the.Start → Start
start_of Bare = bare
start_of Worded = worded

abbrev pub quoted_of : Quoted → Name
quoted_of (Closed raw) = closed raw.now
quoted_of Unclosed = unclosed
quoted_of Misspelled = misspelled
