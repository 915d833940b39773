use Rattle.std.proofs.Common.{◌≡◌, ◌++◌, take, ap, ◌∙◌, arith}
use Rattle.base_files.specs.Bytes.{Bytes}
use Rattle.ckeys_time_macros.specs.Macros.{holds_date, holds_time, holds_timestamp}
use Rattle.ckeys_time_macros.specs.Seen.{end_of}
use Rattle.ckeys_time_macros.proofs.Seams.{flag-more, end_of-end}
use Rattle.ckeys_time_macros.proofs.time_macro_finder.TimeMacroFinder.find_time_macros.Goals as goal

pub returns : goal.returns
unfolding holds_date holds_time holds_timestamp
returns c = λ bytes seen.
    let p = c.args.piece.now in
    let seam : c.seam_of-seam.result.items ≡ end_of bytes ++ take 12 p = c.seam_of-seam.ensures ∙ ap (λ (x : Bytes). x ++ take 12 p) (c.as_slice.ensures.value ∙ seen.tail) in
    record {
      tail = c.tail_of-self.ensures ∙ ap (λ (x : Bytes). end_of (x ++ p)) (c.as_slice-5.ensures.value ∙ seen.tail) ∙ end_of-end bytes p;
      date = flag-more _ _ bytes p _ c.as_slice-2.result.now (omega arith) (c.as_slice-2.ensures.value ∙ seam) seen.date c.is_found-self.ensures;
      time = flag-more _ _ bytes p _ c.as_slice-3.result.now (omega arith) (c.as_slice-3.ensures.value ∙ seam) seen.time c.is_found-self-2.ensures;
      timestamp = flag-more _ _ bytes p _ c.as_slice-4.result.now (omega arith) (c.as_slice-4.ensures.value ∙ seam) seen.timestamp c.is_found-self-3.ensures;
    }
