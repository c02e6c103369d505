-- Contents within the limits of a room.
use Rattle.std.specs.Prelude.{◌≤◌}
use Rattle.room.specs.Limits.{max_axes, max_pieces, max_orders, max_rows}
use Rattle.forms.specs.declared.contents.Contents.{Contents}

-- the limits of what a contents line announces
pub record Within (c : Contents) : Type 0 where
  pub axes_from : 1 ≤ c.axes
  pub axes_to : c.axes ≤ max_axes
  pub pieces_from : 1 ≤ c.pieces
  pub pieces_to : c.pieces ≤ max_pieces
  pub orders_to : c.orders ≤ max_orders
  pub rows_to : c.rows ≤ max_rows
