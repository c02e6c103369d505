use Rattle.std.proofs.Common.{string_bytes, arith}
use Rattle.shade.specs.Canvas.{breadth_at, plane_at}
use Rattle.shade.proofs.Joining.{joined_all, joined_next}
use Rattle.shade.proofs.canvas.Canvas.put_picture.Goals as goal

pub loop-plane-preserved : goal.loop-plane-preserved
loop-plane-preserved g c =
    joined_next (plane_at c.args.self.now g.R.Rule.shut) (string_bytes c.args.out.now) (string_bytes c.loop-plane.out) (string_bytes c.put_plane.new.out) c.loop-plane.plane c.loop-plane.invariant c.in_ok-put_plane.ensures

pub returns : goal.returns
returns g c =
    joined_all (plane_at c.args.self.now g.R.Rule.shut) (string_bytes c.args.out.now) (string_bytes c.loop-plane.out) c.loop-plane.plane (breadth_at c.args.self.now 2) (omega arith) c.loop-plane.invariant
