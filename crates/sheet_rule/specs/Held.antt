-- The rules of a sheet in memory.
use Rattle.std.specs.Prelude.{◌≡◌, List}
use Rattle.room.specs.declared.orders.Order.{Order}
use Rattle.room.specs.declared.walls.Cell.{Cell}
use Rattle.rule.specs.Pair.{one_of, two_of}
use Rattle.rule.specs.declared.both.Both.{Both}
use Rattle.forms.specs.declared.contents.Mode.{Mode}
use Rattle.overlap.specs.declared.Overlap.{Overlap}
use Rattle.orders.specs.Entries.{entries_of}
use Rattle.orders.specs.declared.held.OrderRule.{OrderRule}
use Rattle.walls.specs.Held.{walls_of}
use Rattle.walls.specs.declared.WallRule.{WallRule}
use Rattle.sheet_rule.specs.Together.{overlap_of}

-- the pair holds just these
pub record HoldsRules (mode : Mode) (rows : List (List Cell)) (orders : List Order) (rule : Both OrderRule (Both WallRule Overlap)) : Type 0 where
  pub entries : entries_of (one_of rule) ≡ orders
  pub walls : walls_of (one_of (two_of rule)) ≡ rows
  pub overlap : two_of (two_of rule) ≡ overlap_of mode
