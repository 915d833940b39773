use Rattle.std.proofs.Common.{◌≡◌, ◌<◌, inr, suc, length, take, get_or, sym, ap, arith}
use Rattle.cache_dir.specs.Together.{bytes_together}
use Rattle.cache_dir.specs.declared.listing.KeptFile.{KeptFile}
use Rattle.cache_dir.proofs.TakenSums.{together_more}
use Rattle.cache_dir.proofs.listing.count_that_fit.Goals as goal

-- with the file that stopped the loop there is more than what was left
pub returns-then-left-file-clause-most : goal.returns-then-left-file-clause-most
returns-then-left-file-clause-most c =
    let files = c.args.files.now in
    let i = c.loop-file.file-index in
    let below : i < length files = omega (arith, c.loop-file-test.true) in
    let size : (get_or files i c.file-item.result).size ≡ c.file-item.result.size = ap (λ (f : KeptFile). f.size) (sym c.file-item.is) in
    let more : c.args.room < bytes_together (take (suc i) files) = omega (arith, together_more files i c.file-item.result below, size, c.loop-file.invariant.1, c.if-left-file.true) in
    inr (rw c.loop-file.invariant.0 more)
