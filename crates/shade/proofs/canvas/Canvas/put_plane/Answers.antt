use Rattle.std.proofs.Common.{string_bytes, arith}
use Rattle.std.specs.List.{range_with_len, flat_map}
use Rattle.shade.specs.Canvas.{breadth_at, plane_heading_at, row_at}
use Rattle.text.proofs.Writes.{two_writes}
use Rattle.shade.proofs.Joining.{joined_all, joined_next}
use Rattle.shade.proofs.canvas.Canvas.put_plane.Goals as goal

pub loop-row-preserved : goal.loop-row-preserved
loop-row-preserved g c =
    joined_next (row_at c.args.self.now g.R.Rule.shut c.args.plane) (string_bytes c.put_plane_heading.new.out) (string_bytes c.loop-row.out) (string_bytes c.put_row.new.out) c.loop-row.row c.loop-row.invariant c.in_ok-put_row.ensures

pub returns : goal.returns
returns g c =
    let rows = row_at c.args.self.now g.R.Rule.shut c.args.plane in
    let n = breadth_at c.args.self.now 1 in
    let heading = string_bytes c.put_plane_heading.new.out in
    let after = string_bytes c.loop-row.out in
    two_writes (string_bytes c.args.out.now) heading after (plane_heading_at c.args.self.now c.args.plane) (flat_map rows (range_with_len 0 n)) c.in_ok-put_plane_heading.ensures (joined_all rows heading after c.loop-row.row n (omega arith) c.loop-row.invariant)
