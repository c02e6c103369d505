-- What orders between pieces shut.
use Rattle.std.specs.Prelude.{◌≡◌, ℕ, ◌<◌, Bool, true, not, ◌&&◌, ◌||◌, List, length, ℤ, pos, ◌+ℤ◌, ◌≤ℤ◌, None, Option, ◌==◌, int_le, int_lt, nat_lt, slice_index_or}
use Rattle.std.specs.List.{list_all, list_any}
use Rattle.room.specs.Limits.{max_axes, max_pieces, max_orders, max_length}
use Rattle.room.specs.Seen.{Room, Point}
use Rattle.room.specs.declared.orders.Order.{Order}
use Rattle.room.specs.declared.refusal.Layer.TheVariants.{Rule}
use Rattle.room.specs.declared.refusal.Refusal.{Refusal}
use Rattle.room.specs.declared.refusal.Refusal.TheVariants.{OutOfRange, OrdersFull}
use Rattle.rule.specs.Kept.{Placement, Keeps, Same}
use Rattle.rule.specs.Refused.{unless}

-- an entry that may be added: two pieces and an axis that some board has, and a gap within its range
abbrev pub order_legal : Order → Bool
order_legal o =
    nat_lt o.before max_pieces
    && (nat_lt o.after max_pieces
    && (nat_lt o.axis max_axes
    && (int_le (pos 0) o.gap
    && (int_le o.gap (pos max_length)
    && not (o.before == o.after)))))

-- why an entry is not added to these
abbrev pub add_refusal : List Order → Order → Option Refusal
add_refusal entries o = unless (order_legal o) (OutOfRange Rule) (unless (nat_lt (length entries) max_orders) OrdersFull None)

-- a board that has the pieces and the axis of the entry
abbrev pub order_suits : ℕ → ℕ → Order → Bool
order_suits k n o = nat_lt o.before n && (nat_lt o.after n && nat_lt o.axis k)

abbrev pub orders_suit : List Order → ℕ → ℕ → Bool
orders_suit entries k n = list_all (order_suits k n) entries

-- where the piece before ends, with the gap, if it stands at this origin
abbrev pub reach : Room → Order → ℤ → ℤ
reach r o origin = (origin +ℤ r.size o.before o.axis) +ℤ o.gap

-- a point of the piece before is shut when it then reaches past the other's upper end; a point of the piece after when it
-- lies below the reach of the other's lower end
abbrev pub order_shuts : ℕ → Room → ℕ → Point → Order → Bool
order_shuts k r p x o =
    order_suits k r.count o
    && ((p == o.before && int_lt (r.high o.after o.axis) (reach r o (x o.axis)))
    || (p == o.after && int_lt (x o.axis) (reach r o (r.low o.before o.axis))))

unfoldable pub orders_shut : List Order → ℕ → Room → ℕ → Point → Bool
orders_shut entries k r p x = list_any (order_shuts k r p x) entries

abbrev pub no_order : Order
no_order = record { before = 0; after = 0; axis = 0; gap = pos 0 }

-- a placement keeps the entry: on its axis the piece before, with its length and the gap, ends no later than the other begins
abbrev pub OrderKept : Room → Placement → Order → Type 0
OrderKept r q o = reach r o (q o.before o.axis) ≤ℤ q o.after o.axis

-- exactly the placements that keep every entry keep the rule
abbrev pub OrdersKept : List Order → Type 0
OrdersKept entries =
    (k : ℕ) (r : Room) (q : Placement) → orders_suit entries k r.count ≡ true →
    Same (Keeps (orders_shut entries) k r q) ((i : ℕ) → i < length entries → OrderKept r q (slice_index_or entries i no_order))
