-- The boxes of points that entries shut.
use Rattle.std.specs.Prelude.{◌≡◌, ℕ, true, cond, ◌&&◌, List, length, ℤ, pos, ◌+ℤ◌, ◌-ℤ◌, Some, None, Option, ◌==◌, int_le, slice_index_or}
use Rattle.std.specs.Int.{int_max, int_min}
use Rattle.room.specs.Fit.{AxisLimits}
use Rattle.room.specs.Seen.{Room, Box, at}
use Rattle.room.specs.declared.orders.Order.{Order}
use Rattle.room.specs.declared.span.Span.{Span}
use Rattle.rule.specs.declared.subject.Subject.{Subject}
use Rattle.orders.specs.Named.{Legal, Suits, names, naming_of}
use Rattle.orders.specs.Ordered.{no_order, reach}

-- the least origin of the piece before that reaches past the other's upper end
abbrev pub first_shut : Room → Order → ℤ
first_shut r o = ((r.high o.after o.axis -ℤ r.size o.before o.axis) -ℤ o.gap) +ℤ pos 1

-- the greatest origin of the piece after that lies below the reach of the other's lower end
abbrev pub last_shut : Room → Order → ℤ
last_shut r o = reach r o (r.low o.before o.axis) -ℤ pos 1

-- an entry that names the piece asked about: a legal one, on a board that has its pieces and its axis, so their limits are known
pub record Applies (s : Subject) (o : Order) : Type 0 where
  pub legal : Legal o
  pub suits : Suits s.axes (length s.records.now) o
  pub named : names s.piece o ≡ true
  pub before_limits : AxisLimits (at s.records.now o.before) o.axis
  pub after_limits : AxisLimits (at s.records.now o.after) o.axis

-- the bounds of the piece, with one end moved on the axis of the entry
abbrev pub order_box : Room → ℕ → Order → Box
order_box r p o = record {
  from = λ d. cond (d == o.axis && p == o.before) (int_max (r.low p d) (first_shut r o)) (r.low p d);
  to = λ d. cond (d == o.axis && p == o.after) (int_min (r.high p d) (last_shut r o)) (r.high p d);
}

-- its range on that axis
abbrev pub order_span : Room → ℕ → Order → Span
order_span r p o = record { lower = (order_box r p o).from o.axis; upper = (order_box r p o).to o.axis }

-- the box of an entry, where the ends that are left on its axis hold an origin
abbrev pub box_if_any : Box → ℕ → Option Box
box_if_any b d = cond (int_le (b.from d) (b.to d)) (Some b) None

-- a source of a piece's boxes: an entry that names it, by its number among those
abbrev pub source_of : List Order → Room → ℕ → ℕ → Option Box
source_of entries r p i = let o = slice_index_or (naming_of p entries) i no_order in box_if_any (order_box r p o) o.axis
