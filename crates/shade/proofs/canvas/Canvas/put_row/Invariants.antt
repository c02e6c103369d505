use Rattle.std.proofs.Common.{◌≡◌, ◌++◌, string_bytes}
use Rattle.std.specs.List.{range_with_len, flat_map}
use Rattle.shade.specs.Canvas.{cell_at}
use Rattle.shade.proofs.canvas.Canvas.put_row.Given as goal

abbrev pub invariant-loop-column : goal.invariant-loop-column
invariant-loop-column g l = string_bytes l.out ≡ string_bytes l.initial.out ++ flat_map (cell_at l.self g.R.Rule.shut l.plane l.row) (range_with_len 0 l.column)
