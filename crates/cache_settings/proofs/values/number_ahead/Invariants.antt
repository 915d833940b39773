use Rattle.std.proofs.Common.{◌≡◌, ◌^◌, ◌<◌, length}
use Rattle.cache_settings.specs.Values.{digits_after}
use Rattle.cache_settings.proofs.values.number_ahead.Given as goal

abbrev pub decreases-digits : goal.decreases-digits
decreases-digits l = length l.rest

-- the digits so far begin the number
abbrev pub invariant-digits : goal.invariant-digits
invariant-digits l = (digits_after l.number l.rest ≡ digits_after 0 l.text) × (l.number < 2 ^ 64)
