-- The rule `UTC0`, read.
use Rattle.std.proofs.Common.{◌≡◌, pos, [], ◌∷◌, Some, None, codes, refl}
use Rattle.jiff_tz.specs.PosixReader.{read_abbreviation, read_digit, read_minutes, read_offset, read_sign, read_tz, read_unquoted, read_up_to_two, read_whole}

pub utc_is_read : read_whole (codes "UTC0") ≡ Some (record { std_name = 85 ∷ 84 ∷ 67 ∷ []; std_seconds = pos 0; dst = None })
unfolding read_whole read_tz read_abbreviation read_unquoted read_offset read_up_to_two read_digit read_sign read_minutes
utc_is_read = refl
