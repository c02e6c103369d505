-- The entries that a rule of orders holds.
use Rattle.std.specs.Prelude.{List}
use Rattle.room.specs.Listed.{listed}
use Rattle.room.specs.declared.orders.Order.{Order}
use Rattle.orders.specs.declared.held.OrderRule.{OrderRule}

-- in the order of their adding
abbrev pub entries_of : OrderRule → List Order
entries_of s = listed s.entries
