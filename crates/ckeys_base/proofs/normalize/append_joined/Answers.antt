use Rattle.std.proofs.Common.{◌++◌, List, map, ap, sym, ◌∙◌, append_assoc}
use Rattle.std.specs.Borrow.{Bor}
use Rattle.std.specs.List.{join_with_byte}
use Rattle.base_files.specs.Bytes.{Bytes}
use Rattle.ckeys_base.proofs.NormalNames.{after_slashes, join-first}
use Rattle.ckeys_base.proofs.normalize.append_joined.Goals as goal

pub loop-name-init : goal.loop-name-init
loop-name-init c =
    let bytes = c.args.bytes.now.items in
    let first = c.in-Some.first.now.now in
    let later : List Bytes = map (λ name. name.now) c.in-Some.later.now in
    ap (λ (x : Bytes). x ++ after_slashes later) c.in_ok-extend_from_slice.ensures.items
    ∙ append_assoc bytes first (after_slashes later)
    ∙ ap (λ (x : Bytes). bytes ++ x) (join-first first later)
    ∙ ap (λ (x : List (Bor Bytes)). bytes ++ join_with_byte 47 (map (λ name. name.now) x)) (sym c.in-Some.ensures.cases.0)
