-- Words between commas, and ordered sets of words. 44 is ','.
use Rattle.std.specs.Prelude.{◌==◌, List, [], fold}
use Rattle.std.specs.BTreeSet.{insert_key}
use Rattle.std.specs.Cmp.Lexicographic.{slice_cmp}
use Rattle.std.specs.List.{slice_split, join_with_byte}
use Rattle.std.specs.Ordering.{nat_cmp}
use Rattle.base_files.specs.Bytes.{Bytes}

abbrev pub between_commas : Bytes → List Bytes
between_commas word = slice_split (λ b. b == 44) word

abbrev pub joined_by_commas : List Bytes → Bytes
joined_by_commas words = join_with_byte 44 words

-- each of the words once, in the order of their bytes
unfoldable pub in_order : List Bytes → List Bytes
in_order words = fold (insert_key (slice_cmp nat_cmp)) [] words
