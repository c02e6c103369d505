use Rattle.std.proofs.Common.{◌≡◌, ◌++◌, string_bytes}
use Rattle.room.specs.Seen.{highs, lows}
use Rattle.shade.specs.Picture.{ranges_text}
use Rattle.shade.proofs.canvas.Canvas.put_ranges.Given as goal

abbrev pub invariant-loop-axis : goal.invariant-loop-axis
invariant-loop-axis g l = string_bytes l.out ≡ string_bytes l.initial.out ++ ranges_text l.axis (lows l.region) (highs l.region)
