-- The asked piece by its lengths, and another by its record.
use Rattle.std.specs.Prelude.{ℕ, List, ℤ, pos, ◌≤ℤ◌}
use Rattle.room.specs.Fit.{AxisLimits}
use Rattle.room.specs.Limits.{max_length}
use Rattle.room.specs.Seen.{on_axis}
use Rattle.room.specs.declared.piece.Piece.{Piece}

-- on an axis both lengths, and the other's ends, are within the limits
pub record PairLimits (lengths : List ℤ) (other : Piece) (d : ℕ) : Type 0 where
  pub mine_from : pos 0 ≤ℤ on_axis lengths d
  pub mine_to : on_axis lengths d ≤ℤ pos max_length
  pub its : AxisLimits other d
