-- What files are together, with one more of them.
use Rattle.std.proofs.Common.{◌≡◌, ℕ, suc, ◌+◌, ◌<◌, List, length, take, get_or, ap, ◌∙◌}
use Rattle.std.proofs.Math.Seq.{take-suc}
use Rattle.std.proofs.lemmas.List.Sums.{sum_by_push}
use Rattle.cache_dir.specs.Together.{bytes_together}
use Rattle.cache_dir.specs.declared.listing.KeptFile.{KeptFile}

pub together_more : (files : List KeptFile) (i : ℕ) (d : KeptFile) → i < length files → bytes_together (take (suc i) files) ≡ bytes_together (take i files) + (get_or files i d).size
together_more files i d below = ap bytes_together (take-suc files i d below) ∙ sum_by_push (λ (f : KeptFile). f.size) (take i files) (get_or files i d)
