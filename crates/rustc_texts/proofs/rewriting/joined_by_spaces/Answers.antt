use Rattle.std.proofs.Common.{◌++◌, ap, sym, ◌∙◌}
use Rattle.std.specs.List.{join_with_byte}
use Rattle.base_files.specs.Bytes.{Bytes}
use Rattle.rustc_texts.proofs.JoinedPieces.{after_spaces, join-first}
use Rattle.rustc_texts.proofs.rewriting.joined_by_spaces.Goals as goal

pub loop-piece-init : goal.loop-piece-init
loop-piece-init c =
    ap (λ (x : Bytes). x ++ after_spaces c.in-Some.later.now) (c.in_ok-joined.ensures.items ∙ c.as_bytes.ensures)
    ∙ join-first c.in-Some.first.now c.in-Some.later.now
    ∙ ap (join_with_byte 32) (sym c.in-Some.ensures.cases.0)
