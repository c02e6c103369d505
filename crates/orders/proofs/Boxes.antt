-- The box of an entry: its ends, and that it holds exactly the points that the entry shuts.
use Rattle.std.proofs.Common.{◌≡◌, ℕ, ◌<◌, true, cond, eqb, ◌≤ℤ◌, ap, ◌∙◌, arith}
use Rattle.std.specs.Int.{int_max, int_min}
use Rattle.std.proofs.lemmas.Int.{ints, clamps}
use Rattle.std.proofs.lemmas.Bool.Decides.{nat_tests}
use Rattle.room.specs.Seen.{Room, Point, Within, Holds, Meets, at, box_of, highs, lows, on_axis, span_at}
use Rattle.room.specs.declared.orders.Order.{Order}
use Rattle.room.specs.declared.piece.Piece.{Piece}
use Rattle.room.specs.declared.region.Region.{Region}
use Rattle.room.specs.declared.span.Span.{Span}
use Rattle.room.proofs.Cuts.{cut_below}
use Rattle.rule.specs.Means.{SameBox}
use Rattle.rule.specs.Subjects.{room_seen}
use Rattle.rule.specs.declared.subject.Subject.{Subject}
use Rattle.orders.specs.Boxes.{Applies, first_shut, last_shut, order_box, order_span}
use Rattle.orders.specs.Named.{Legal, names}
use Rattle.orders.specs.Shutting.{Parted}

module _ (r : Room) (p : ℕ) (o : Order) where
  -- what lies in the box is shut
  pub shut_in : (k : ℕ) (x : Point) → names p o ≡ true → o.axis < k → Holds k (order_box r p o) x → Parted r p x o
  shut_in k x named in_axis held = let h = held o.axis in_axis in grind (arith, ints, clamps, nat_tests)

  -- and what is shut within the bounds lies in it
  pub held_in : (k : ℕ) (x : Point) → Legal o → Within k r p x → Parted r p x o → Holds k (order_box r p o) x
  held_in k x legal within parted d h =
      let a = within.above d h in
      let u = within.under d h in
      let two = legal.two in
      (grind (arith, ints, clamps, nat_tests), grind (arith, ints, clamps, nat_tests))

  -- the box lies inside the bounds of the piece
  pub inside_bounds : (d : ℕ) → (r.low p d ≤ℤ (order_box r p o).from d) × ((order_box r p o).to d ≤ℤ r.high p d)
  inside_bounds d = (grind (arith, ints, clamps, nat_tests), grind (arith, ints, clamps, nat_tests))

  -- and meets them where its range on the entry's axis holds an origin
  pub meets_bounds : (k : ℕ) → ((d : ℕ) → d < k → r.low p d ≤ℤ r.high p d) → (order_box r p o).from o.axis ≤ℤ (order_box r p o).to o.axis → Meets k (order_box r p o) (r.low p) (r.high p)
  meets_bounds k order opens d h =
      let b = order d h in
      (grind (arith, ints, clamps, nat_tests), grind (arith, ints, clamps, nat_tests), grind (arith, ints, clamps, nat_tests))

same_span : (one two : Span) → one.lower ≡ two.lower → one.upper ≡ two.upper → one ≡ two
same_span one two lower upper = ap (λ z. record { lower = z; upper = one.upper }) lower ∙ ap (λ z. record { lower = two.lower; upper = z }) upper

-- where an entry applies to the piece asked about, the room shows what the records hold on its axis
module _ (s : Subject) (o : Order) (applies : Applies s o) where
  pub size_seen : (room_seen s).size o.before o.axis ≡ on_axis (at s.records.now o.before).lengths o.axis
  size_seen = cut_below s.axes _ o.axis applies.suits.axis_in

  pub low_seen : (p : ℕ) → (room_seen s).low p o.axis ≡ lows (at s.records.now p).present o.axis
  low_seen p = cut_below s.axes _ o.axis applies.suits.axis_in

  pub high_seen : (p : ℕ) → (room_seen s).high p o.axis ≡ highs (at s.records.now p).present o.axis
  high_seen p = cut_below s.axes _ o.axis applies.suits.axis_in

  -- the bounds of the piece before, cut to what is shut
  pub span_before : (piece : Piece) (span : Span) → piece ≡ at s.records.now s.piece → s.piece ≡ o.before → span.lower ≡ int_max (lows piece.present o.axis) (first_shut (room_seen s) o) → span.upper ≡ highs piece.present o.axis → span ≡ order_span (room_seen s) s.piece o
  span_before piece span asked is lower upper =
      let two = applies.legal.two in
      let low = low_seen s.piece in
      let high = high_seen s.piece in
      same_span span _ (grind (arith, nat_tests)) (grind (arith, nat_tests))

  -- and those of the piece after
  pub span_after : (piece : Piece) (span : Span) → piece ≡ at s.records.now s.piece → (s.piece ≡ o.before → ⊥) → span.lower ≡ lows piece.present o.axis → span.upper ≡ int_min (highs piece.present o.axis) (last_shut (room_seen s) o) → span ≡ order_span (room_seen s) s.piece o
  span_after piece span asked other lower upper =
      let named = applies.named in
      let low = low_seen s.piece in
      let high = high_seen s.piece in
      same_span span _ (grind (arith, nat_tests)) (grind (arith, nat_tests))

  -- the bounds with that range on the entry's axis
  pub region_box : (region : Region) (piece : Piece) (span : Span) → piece ≡ at s.records.now s.piece → span ≡ order_span (room_seen s) s.piece o → ((d : ℕ) → span_at region d ≡ cond (eqb d o.axis) span (span_at piece.present d)) → SameBox s.axes (box_of region) (order_box (room_seen s) s.piece o)
  region_box region piece span asked is spans = record {
    from_same = λ d h. let e = spans d in let seen = cut_below s.axes (lows (at s.records.now s.piece).present) d h in grind (arith, nat_tests);
    to_same = λ d h. let e = spans d in let seen = cut_below s.axes (highs (at s.records.now s.piece).present) d h in grind (arith, nat_tests);
  }
