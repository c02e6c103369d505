use Rattle.std.proofs.Common.{ℕ, ◌<◌, get_or}
use Rattle.room.specs.Seen.{Holds, point_of}
use Rattle.rule.specs.Subjects.{room_seen}
use Rattle.orders.specs.Boxes.{order_box}
use Rattle.orders.specs.Entries.{entries_of}
use Rattle.orders.specs.Named.{naming_of}
use Rattle.orders.specs.Ordered.{no_order}
use Rattle.orders.proofs.held.answering.OrderRuleRule.cover.Given as goal

abbrev pub invariant-loop-entry : goal.invariant-loop-entry
invariant-loop-entry l =
    (i : ℕ) → i < l.entry-index → Holds l.subject.axes (order_box (room_seen l.subject) l.subject.piece (get_or (naming_of l.subject.piece (entries_of l.self)) i no_order)) (point_of l.subject.axes l.point.origins) → ⊥
