-- What a finder knows of the bytes that it was shown.
use Rattle.std.specs.Prelude.{◌≡◌, ◌-◌, length, drop}
use Rattle.base_files.specs.Bytes.{Bytes}
use Rattle.ckeys_time_macros.specs.Macros.{holds_date, holds_time, holds_timestamp}
use Rattle.ckeys_time_macros.specs.declared.time_macro_finder.TimeMacroFinder.{TimeMacroFinder}

-- the last twelve bytes, or all of them where they are fewer
abbrev pub end_of : Bytes → Bytes
end_of text = drop (length text - 12) text

-- it was shown these bytes, in whatever pieces
pub record HasSeen (finder : TimeMacroFinder) (bytes : Bytes) : Type 0 where
  pub tail : finder.tail.items ≡ end_of bytes
  pub date : finder.date ≡ holds_date bytes
  pub time : finder.time ≡ holds_time bytes
  pub timestamp : finder.timestamp ≡ holds_timestamp bytes
