use Rattle.std.proofs.Common.{min, length, string_bytes, arith}
use Rattle.rule.specs.Means.{max_listed}
use Rattle.shade.specs.Canvas.{boxes_at}
use Rattle.shade.specs.Picture.{box_text}
use Rattle.shade.proofs.Joining.{joined_all, joined_next}
use Rattle.shade.proofs.canvas.Canvas.put_boxes.Goals as goal

pub loop-number-preserved : goal.loop-number-preserved
loop-number-preserved g c =
    joined_next (box_text c.args.self.now.subject.axes (boxes_at c.args.self.now g.R.Rule.boxes)) (string_bytes c.args.out.now) (string_bytes c.loop-number.out) (string_bytes c.put_box.new.out) c.loop-number.number c.loop-number.invariant c.in_ok-put_box.ensures

pub returns : goal.returns
returns g c =
    let boxes = boxes_at c.args.self.now g.R.Rule.boxes in
    joined_all (box_text c.args.self.now.subject.axes boxes) (string_bytes c.args.out.now) (string_bytes c.loop-number.out) c.loop-number.number (min (length boxes) max_listed) (omega arith) c.loop-number.invariant
