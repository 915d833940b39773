-- What the bytes of a response file say, as UTF-8: by its byte order mark, else as UTF-8 where they are that, else by windows-1252.
use Rattle.std.specs.Prelude.{ℕ, ◌+◌, ◌*◌, ◌-◌, nat_eq, nat_lt, Bool, true, false, ◌||◌, List, [], ◌∷◌, ◌++◌, drop, map, if◌then◌else◌, get_or}
use Rattle.std.specs.List.{starts_with}
use Rattle.std.specs.Char.Utf16.{utf16_lossy_chars}
use Rattle.std.specs.Str.{encode_utf8_all, is_utf8}
use Rattle.std.specs.Str.Lossy.{utf8_lossy}
use Rattle.base_files.specs.Bytes.{Bytes}

-- the characters of the bytes 80 to 9f
abbrev pub high_characters : List ℕ
high_characters =
    0x20ac ∷ 0x81 ∷ 0x201a ∷ 0x192 ∷ 0x201e ∷ 0x2026 ∷ 0x2020 ∷ 0x2021
    ∷ 0x2c6 ∷ 0x2030 ∷ 0x160 ∷ 0x2039 ∷ 0x152 ∷ 0x8d ∷ 0x17d ∷ 0x8f
    ∷ 0x90 ∷ 0x2018 ∷ 0x2019 ∷ 0x201c ∷ 0x201d ∷ 0x2022 ∷ 0x2013 ∷ 0x2014
    ∷ 0x2dc ∷ 0x2122 ∷ 0x161 ∷ 0x203a ∷ 0x153 ∷ 0x9d ∷ 0x17e ∷ 0x178
    ∷ []

-- the character of a byte in windows-1252: of the same number, but for 80 to 9f
abbrev pub windows_1252 : ℕ → ℕ
windows_1252 b = if nat_lt b 128 || nat_lt 159 b then b else get_or high_characters (b - 128) 0

-- units of 16 bits, of two bytes each, the high one first or not; an odd byte at the end is in none
abbrev pub units : Bool → Bytes → List ℕ
units high_first [] = []
units high_first (b ∷ []) = []
units high_first (b ∷ c ∷ rest) = (if high_first then b * 256 + c else c * 256 + b) ∷ units high_first rest

-- U+FFFD for an odd byte
abbrev pub odd_byte : Bytes → List ℕ
odd_byte [] = []
odd_byte (b ∷ []) = 0xfffd ∷ []
odd_byte (b ∷ c ∷ rest) = odd_byte rest

abbrev pub utf16_text : Bool → Bytes → Bytes
utf16_text high_first bytes = encode_utf8_all (utf16_lossy_chars (units high_first bytes) ++ odd_byte bytes)

abbrev pub unmarked_text : Bytes → Bytes
unmarked_text bytes = if is_utf8 bytes then bytes else encode_utf8_all (map windows_1252 bytes)

abbrev pub begins : Bytes → Bytes → Bool
begins bytes mark = starts_with nat_eq bytes mark

-- the text of the bytes, without its byte order mark
abbrev pub decoded : Bytes → Bytes
decoded bytes =
    if begins bytes (0xef ∷ 0xbb ∷ 0xbf ∷ []) then utf8_lossy (drop 3 bytes)
    else (if begins bytes (0xff ∷ 0xfe ∷ []) then utf16_text false (drop 2 bytes)
    else (if begins bytes (0xfe ∷ 0xff ∷ []) then utf16_text true (drop 2 bytes)
    else unmarked_text bytes))
