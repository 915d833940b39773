use Rattle.std.proofs.Common.{◌≡◌, ◌++◌, find, map, length}
use Rattle.ckeys_records.specs.Folders.{is_bad, without_slashes}
use Rattle.ckeys_records.proofs.config.KeyConfig.new.Given as goal

-- those that are left are cut and come after those so far, and the first bad one is among them
abbrev pub invariant-loop-folder : goal.invariant-loop-folder
invariant-loop-folder l = record {
  cut : map without_slashes l.fn.basedirs ≡ l.folders ++ map without_slashes l.rest;
  first : find is_bad l.fn.basedirs ≡ find is_bad l.rest;
}

abbrev pub decreases-loop-folder : goal.decreases-loop-folder
decreases-loop-folder l = length l.rest
