use Rattle.std.proofs.Common.{refl}
use Rattle.memchr.specs.Find.{matches_from, first_of}
use Rattle.ckeys_time_macros.specs.Macros.{holds_date, holds_time, holds_timestamp}
use Rattle.ckeys_time_macros.proofs.time_macro_finder.TimeMacroFinder.new.Goals as goal

pub returns : goal.returns
unfolding holds_date holds_time holds_timestamp matches_from first_of
returns c = record {
  tail = c.new.ensures;
  date = refl;
  time = refl;
  timestamp = refl;
}
