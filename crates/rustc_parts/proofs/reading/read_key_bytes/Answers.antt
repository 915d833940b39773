use Rattle.std.proofs.Common.{◌≡◌, Option, Some, None, sym, subst, ◌∙◌, arith}
use Rattle.std.specs.Prelude.{IfSome}
use Rattle.base_files.specs.Bytes.{Bytes}
use Rattle.base_formats.specs.FieldFormats.{some_is}
use Rattle.rustc_parts.specs.Formed.{AreFormed, IsSortedByNames}
use Rattle.rustc_parts.specs.Material.{material_of}
use Rattle.rustc_parts.specs.Shapes.{shape_of}
use Rattle.rustc_parts.specs.declared.parts.Parts.{Parts}
use Rattle.rustc_parts.specs.declared.parts.RShape.{RShape}
use Rattle.rustc_parts.proofs.WholeKeys.{IsRead, parts_take, parts_are_read}
use Rattle.rustc_parts.proofs.reading.read_key_bytes.Goals as goal

found_sorted : (s : RShape) (bytes : Bytes) (parts : Parts) (found : Option Parts) → IsRead 64 s bytes parts → IfSome found (λ kept. (parts ≡ kept) × IsSortedByNames kept)
    → IfSome found (λ kept. AreFormed 64 kept × (material_of kept ≡ bytes) × (shape_of kept ≡ s))
found_sorted s bytes parts None read sorted = tt
found_sorted s bytes parts (Some kept) read sorted =
    let h = subst (IsRead 64 s bytes) sorted.0 read in
    (record { digests = h.digests; sorted = sorted.1 }, h.material, h.shape)

pub returns-in-Ok : goal.returns-in-Ok
returns-in-Ok c = record {
  found = found_sorted c.args.shape.now c.args.bytes.now c.in-Ok.parts c.if_sorted.result
      (parts_take 64 c.args.shape.now c.args.bytes.now c.in-Ok.parts (λ i. omega (arith, c.type_inv.bytes i)) c.in-Ok.ensures) c.if_sorted.ensures.sorted;
  only = λ parts is.
      let read = parts_are_read 64 c.args.shape.now c.args.bytes.now parts is.0.digests c.has_a_length.ensures is.1 is.2 in
      let same = some_is c.in-Ok.parts parts (sym c.in-Ok.ensures ∙ read) in
      c.if_sorted.ensures.kept (subst IsSortedByNames (sym same) is.0.sorted) ∙ sym c.in-Ok.ensures ∙ read;
}

pub returns-in-Err-Unfit : goal.returns-in-Err-Unfit
returns-in-Err-Unfit c = record {
  found = tt;
  only = λ parts is.
      let unread = rw c.in-Err-Unfit.field-0-is at c.in-Err-Unfit.ensures in
      let clash = sym unread ∙ parts_are_read 64 c.args.shape.now c.args.bytes.now parts is.0.digests c.has_a_length.ensures is.1 is.2 in
      absurd cc;
}
