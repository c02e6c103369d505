use Rattle.std.proofs.Common.{◌≡◌, ◌++◌, string_bytes}
use Rattle.std.specs.List.{range_with_len, flat_map}
use Rattle.shade.specs.Canvas.{row_at}
use Rattle.shade.proofs.canvas.Canvas.put_plane.Given as goal

abbrev pub invariant-loop-row : goal.invariant-loop-row
invariant-loop-row g l = string_bytes l.out ≡ string_bytes l.initial.out ++ flat_map (row_at l.self g.R.Rule.shut l.plane) (range_with_len 0 l.row)
