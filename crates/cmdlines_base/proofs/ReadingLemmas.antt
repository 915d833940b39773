-- Each list of words has exactly one reading.
use Rattle.std.proofs.Common.{◌≡◌, Bool, List, [], ◌∷◌, refl, ap, sym, ◌∙◌}
use Rattle.base_files.specs.Bytes.{Bytes}
use Rattle.cmdlines_base.specs.Table.{Entry}
use Rattle.cmdlines_base.specs.Reading.{Item, valued, Start, whole, awaits, ends, Reading, before, all_after, first_word, from_last, from_first, reading, Reads, at_end, alone, with_value, lacking, options_end}

module _ {K : Type 0} (dashes : Bool) (table : List (Entry K)) where
  -- a word that is an item by itself, and then the others
  pub reading-alone : (word : Bytes) (item : Item K) → first_word dashes table word ≡ whole item → (words : List Bytes) → reading dashes table (word ∷ words) ≡ before item (reading dashes table words)
  reading-alone word item h [] = ap from_last h
  reading-alone word item h (next ∷ words) = ap (λ s. from_first s next words (reading dashes table (next ∷ words)) (reading dashes table words)) h

  -- a flag and its value, and then the others
  pub reading-with_value : (word value f : Bytes) (k : K) (d : _) → first_word dashes table word ≡ awaits f k d → (words : List Bytes) → reading dashes table (word ∷ value ∷ words) ≡ before (valued f k value d) (reading dashes table words)
  reading-with_value word value f k d h words = ap (λ s. from_first s value words (reading dashes table (value ∷ words)) (reading dashes table words)) h

  -- the end of the options, and then loose words
  pub reading-options_end : (word : Bytes) → first_word dashes table word ≡ ends → (words : List Bytes) → reading dashes table (word ∷ words) ≡ all_after words
  reading-options_end word h [] = ap from_last h
  reading-options_end word h (next ∷ words) = ap (λ s. from_first s next words (reading dashes table (next ∷ words)) (reading dashes table words)) h

  pub reading_reads : (words : List Bytes) → Reads dashes table words (reading dashes table words)
  reading_reads [] = at_end
  reading_reads (word ∷ []) = by (first_word dashes table word) refl
    where
      by : (s : Start K) → first_word dashes table word ≡ s → Reads dashes table (word ∷ []) (from_last s)
      by (whole a) q = alone q at_end
      by (awaits f k d) q = lacking q
      by ends q = options_end q
  reading_reads (word ∷ next ∷ words) = by (first_word dashes table word) refl (reading_reads (next ∷ words)) (reading_reads words)
    where
      by : (s : Start K) → first_word dashes table word ≡ s → Reads dashes table (next ∷ words) (reading dashes table (next ∷ words)) → Reads dashes table words (reading dashes table words) → Reads dashes table (word ∷ next ∷ words) (from_first s next words (reading dashes table (next ∷ words)) (reading dashes table words))
      by (whole a) q one two = alone q one
      by (awaits f k d) q one two = with_value q two
      by ends q one two = options_end q

  pub only_reading : {words : List Bytes} {r : Reading K} → Reads dashes table words r → r ≡ reading dashes table words
  only_reading at_end = refl
  only_reading (alone {word} {words} {item} {r} h rest) = ap (before item) (only_reading rest) ∙ sym (reading-alone word item h words)
  only_reading (with_value {word} {value} {words} {f} {k} {d} {r} h rest) = ap (before (valued f k value d)) (only_reading rest) ∙ sym (reading-with_value word value f k d h words)
  only_reading (lacking h) = sym (ap from_last h)
  only_reading (options_end {word} {words} h) = sym (reading-options_end word h words)
