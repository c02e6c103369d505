use Rattle.std.proofs.Common.{rules}
use Rattle.forms.proofs.before.BeforeLine.order.Goals as goal
use Rattle.forms.proofs.before.BeforeLine.order.Goals.{else-order-via-then-order+else-contains, else-order-via-else-order}

pub returns-else-order : goal.returns-else-order
returns-else-order c =
    elim c.else-order.branch [ else-order-via-then-order+else-contains w ↦ search rules | else-order-via-else-order w ↦ search rules ]
