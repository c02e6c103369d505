use Rattle.std.proofs.Common.{◌≡◌, ◌++◌, string_bytes}
use Rattle.std.specs.List.{range_with_len, flat_map}
use Rattle.shade.specs.Canvas.{plane_at}
use Rattle.shade.proofs.canvas.Canvas.put_picture.Given as goal

abbrev pub invariant-loop-plane : goal.invariant-loop-plane
invariant-loop-plane g l = string_bytes l.out ≡ string_bytes l.initial.out ++ flat_map (plane_at l.self g.R.Rule.shut) (range_with_len 0 l.plane)
