use Rattle.std.proofs.Common.{◌≡◌, take}
use Rattle.room.specs.Listed.{listed}
use Rattle.orders.specs.Entries.{entries_of}
use Rattle.orders.proofs.held.adding.OrderRuleTryFromRefOrders.try_from.Given as goal

abbrev pub invariant-loop-order : goal.invariant-loop-order
invariant-loop-order l = entries_of l.rule ≡ take l.order-index (listed l.orders)
