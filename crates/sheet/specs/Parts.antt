-- The parts of a sheet in memory, and the plan that they hold.
use Rattle.std.specs.Prelude.{ℕ, map}
use Rattle.room.specs.Listed.{listed, rows_of}
use Rattle.room.specs.declared.array_vec.ArrayVec.{ArrayVec}
use Rattle.room.specs.declared.orders.Order.{Order}
use Rattle.room.specs.declared.piece.Extent.{Extent}
use Rattle.room.specs.declared.walls.Cell.{Cell}
use Rattle.forms.specs.declared.contents.Mode.{Mode}
use Rattle.sheet.specs.Plan.{Plan}

abbrev pub plan_held : ℕ → Mode → ArrayVec (ArrayVec Extent 3) 24 → ArrayVec Order 32 → ArrayVec (ArrayVec Cell 64) 64 → Plan
plan_held axes mode pieces orders walls = record {
  axes = axes;
  mode = mode;
  pieces = map (λ es. listed es) (listed pieces);
  orders = listed orders;
  rows = rows_of walls;
}
