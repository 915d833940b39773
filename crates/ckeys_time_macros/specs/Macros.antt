-- Words that occur in a text, and the macros of date and time.
use Rattle.std.specs.Prelude.{◌≡◌, ◌++◌, Bool, ◌||◌, codes, is_some}
use Rattle.memchr.specs.Find.{first_of, matches}
use Rattle.base_files.specs.Bytes.{Bytes}

-- the text is some front, the word, and some rest
pub record StandsIn (word text : Bytes) : Type 0 where
  pub front : Bytes
  pub rest : Bytes
  pub cut : text ≡ front ++ word ++ rest

-- whether the word occurs somewhere in the text
abbrev pub holds : Bytes → Bytes → Bool
holds text word = is_some (first_of (matches text word 0))

-- whether the text holds `__DATE__`
unfoldable pub holds_date : Bytes → Bool
holds_date text = holds text (codes "__DATE__")

-- whether the text holds `__TIME__`
unfoldable pub holds_time : Bytes → Bool
holds_time text = holds text (codes "__TIME__")

-- whether the text holds `__TIMESTAMP__`
unfoldable pub holds_timestamp : Bytes → Bool
holds_timestamp text = holds text (codes "__TIMESTAMP__")

-- whether the text holds one of them
abbrev pub holds_time_macros : Bytes → Bool
holds_time_macros text = holds_date text || holds_time text || holds_timestamp text
