use Rattle.orders.specs.Shutting.{orders_kept}
use Rattle.orders.proofs.held.OrderRule.new.Goals as goal

pub returns : goal.returns
returns c = record { empty = c.new-none.ensures; kept = orders_kept _ }
