-- What a sheet says of a room.
use Rattle.std.specs.Prelude.{ℕ, List, length}
use Rattle.room.specs.declared.orders.Order.{Order}
use Rattle.room.specs.declared.piece.Extent.{Extent}
use Rattle.room.specs.declared.walls.Cell.{Cell}
use Rattle.forms.specs.declared.contents.Contents.{Contents}
use Rattle.forms.specs.declared.contents.Mode.{Mode}

-- the number of axes, the mode, for each piece its extent on each axis, the orders, and the rows of the wall map
pub record Plan : Type 0 where
  pub axes : ℕ
  pub mode : Mode
  pub pieces : List (List Extent)
  pub orders : List Order
  pub rows : List (List Cell)

-- the table of contents of a plan
abbrev pub contents_of : Plan → Contents
contents_of p = record { axes = p.axes; mode = p.mode; pieces = length p.pieces; orders = length p.orders; rows = length p.rows }
