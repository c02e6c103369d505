use Rattle.std.proofs.Common.{◌≡◌, [], string_bytes}
use Rattle.std.proofs.lemmas.List.Folds.{flat_map-map}
use Rattle.room.specs.Listed.{listed}
use Rattle.sheet.specs.Held.{plan_of}
use Rattle.canon.specs.Canonical.{canonical, piece_line, row_line}
use Rattle.text.proofs.Writes.{four_writes}
use Rattle.canon.proofs.Whole.{reads_back, written_keeps_limits}
use Rattle.canon.proofs.format.write_sheet.Goals as goal

pub returns : goal.returns
returns c =
    let p = plan_of c.args.sheet.now in
    let contents = rw (c.new-out.ensures.bytes, c.contents.ensures) at c.in_ok-put.ensures in
    let pieces = rw (← flat_map-map piece_line (λ es. listed es) c.pieces.result.now, c.pieces.ensures) at c.in_ok-put_each.ensures in
    let orders = rw (c.as_slice.ensures.items, c.orders.ensures) at c.in_ok-put_each-2.ensures in
    let rows = rw (← flat_map-map row_line (λ row. listed row) c.as_slice-2.result.now, c.as_slice-2.ensures.items, c.walls.ensures) at c.in_ok-put_each-3.ensures in
    let text : string_bytes c.put_each-3.new.out ≡ canonical p = four_writes [] _ _ _ _ _ _ _ _ contents pieces orders rows in
    record {
      text = text;
      back = rw text (reads_back p c.args.sheet.now.fits);
      limits = rw text (written_keeps_limits p c.args.sheet.now.fits);
    }
