use Rattle.std.proofs.Common.{◌≡◌, ◌++◌, string_bytes}
use Rattle.std.specs.List.{range_with_len, flat_map}
use Rattle.shade.specs.Canvas.{boxes_at}
use Rattle.shade.specs.Picture.{box_text}
use Rattle.shade.proofs.canvas.Canvas.put_boxes.Given as goal

abbrev pub invariant-loop-number : goal.invariant-loop-number
invariant-loop-number g l = string_bytes l.out ≡ string_bytes l.initial.out ++ flat_map (box_text l.self.subject.axes (boxes_at l.self g.R.Rule.boxes)) (range_with_len 0 l.number)
