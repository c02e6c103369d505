-- Plans within the limits of a sheet.
use Rattle.std.specs.Prelude.{◌≡◌, ℕ, ◌<◌, ◌≤◌, true, ◌≢◌, List, length, pos, ◌≤ℤ◌}
use Rattle.std.specs.List.{AllByRecursion}
use Rattle.room.specs.Limits.{max_axes, max_pieces, max_orders, max_rows, max_cells, max_length, extent_fits}
use Rattle.room.specs.declared.orders.Order.{Order}
use Rattle.room.specs.declared.piece.Extent.{Extent}
use Rattle.room.specs.declared.walls.Cell.{Cell}
use Rattle.sheet.specs.Plan.{Plan}

-- a piece has an extent within the limits on each axis
pub record PieceFits (axes : ℕ) (es : List Extent) : Type 0 where
  pub each_axis : length es ≡ axes
  pub each_fits : AllByRecursion (λ e. extent_fits e ≡ true) es

-- an order is between two pieces of the room on one of its axes
pub record OrderFits (axes pieces : ℕ) (o : Order) : Type 0 where
  pub before_known : o.before < pieces
  pub after_known : o.after < pieces
  pub apart : o.before ≢ o.after
  pub axis_known : o.axis < axes
  pub gap_from : pos 0 ≤ℤ o.gap
  pub gap_to : o.gap ≤ℤ pos max_length

-- a row has a cell at least, and not too many
pub record RowFits (cs : List Cell) : Type 0 where
  pub some : 1 ≤ length cs
  pub few : length cs ≤ max_cells

pub record Fits (p : Plan) : Type 0 where
  pub axes_from : 1 ≤ p.axes
  pub axes_to : p.axes ≤ max_axes
  pub pieces_from : 1 ≤ length p.pieces
  pub pieces_to : length p.pieces ≤ max_pieces
  pub orders_to : length p.orders ≤ max_orders
  pub rows_to : length p.rows ≤ max_rows
  pub pieces_fit : AllByRecursion (PieceFits p.axes) p.pieces
  pub orders_fit : AllByRecursion (OrderFits p.axes (length p.pieces)) p.orders
  pub rows_fit : AllByRecursion RowFits p.rows
