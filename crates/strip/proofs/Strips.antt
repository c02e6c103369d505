-- The strip as facts, and that its one box is right.
use Rattle.std.proofs.Common.{◌≡◌, ℕ, ◌<◌, Bool, true, false, cond, eqb, List, ℤ, ◌≤ℤ◌, Option, Decides, sym, ap, ◌∙◌, subst, arith}
use Rattle.std.specs.Bool.{then_some}
use Rattle.std.specs.Int.{int_max, int_min}
use Rattle.std.proofs.lemmas.Int.{clamps, ints}
use Rattle.std.proofs.lemmas.Bool.{both_ways, cond-true, ltb-true}
use Rattle.std.proofs.lemmas.Bool.Decides.{nat_tests}
use Rattle.room.specs.Seen.{Room, Point, Holds, Meets, Within, at, box_of, highs, lows, on_axis, point_of, span_at}
use Rattle.room.specs.Spans.{span_holds}
use Rattle.room.specs.declared.piece.Piece.{Piece}
use Rattle.room.specs.declared.region.Region.{Region}
use Rattle.room.specs.declared.span.Span.{Span}
use Rattle.room.proofs.Belows.{false_from}
use Rattle.room.proofs.Cuts.{common_point, cut_below, decides_meets, meets_from}
use Rattle.rule.specs.Gathered.{Shows, Sound}
use Rattle.rule.specs.Means.{Covered, EndsFit, ListsBox, SameBox, Shuts}
use Rattle.rule.specs.Subjects.{room_seen}
use Rattle.rule.specs.declared.subject.Subject.{Subject}
use Rattle.rule.proofs.Boxes.{bounds_order, given_some, inside_fits, met_seen, same_back, same_covers, shows_given}
use Rattle.strip.specs.Meaning.{StripKept, strip_box, strip_shut, strip_source}
use Rattle.strip.specs.declared.Strip.{Strip}

-- the origin lies in the strip
pub record InStrip (s : Strip) (x : Point) : Type 0 where
  pub past : s.span.lower ≤ℤ x s.axis
  pub before : x s.axis ≤ℤ s.span.upper

decides_shut : (s : Strip) (k : ℕ) (r : Room) (p : ℕ) (x : Point) → s.axis < k → Decides (strip_shut s k r p x) (InStrip s x)
unfolding strip_shut
decides_shut s k r p x known = (
  λ e. record { past = grind (arith, ints, nat_tests); before = grind (arith, ints, nat_tests) },
  λ i. grind (arith, ints, nat_tests),
)

pub strip_kept : (s : Strip) → StripKept s
strip_kept s k r q suits = (
  λ keeps p h past before. both_ways _ (keeps p h) ((decides_shut s k _ p (q p) (ltb-true _ _ suits)).1 (record { past = past; before = before })),
  λ free p h. false_from _ (decides_shut s k _ p (q p) (ltb-true _ _ suits)) (λ i. free p h i.past i.before),
)

-- the box of a piece lies inside its bounds, and holds just the points within them that lie in the strip
module _ (s : Strip) (r : Room) (p : ℕ) where
  inside_bounds : (d : ℕ) → (r.low p d ≤ℤ (strip_box s r p).from d) × ((strip_box s r p).to d ≤ℤ r.high p d)
  inside_bounds d = (grind (arith, ints, clamps, nat_tests), grind (arith, ints, clamps, nat_tests))

  held_from : (k : ℕ) (x : Point) → Within k r p x → InStrip s x → Holds k (strip_box s r p) x
  held_from k x within i d h =
      let above = within.above d h in
      let under = within.under d h in
      (grind (arith, ints, clamps, nat_tests), grind (arith, ints, clamps, nat_tests))

  strip_from : (k : ℕ) (x : Point) → s.axis < k → Holds k (strip_box s r p) x → InStrip s x
  strip_from k x known held = let h = held s.axis known in record { past = grind (arith, ints, clamps, nat_tests); before = grind (arith, ints, clamps, nat_tests) }

module _ (s : Strip) (a : Subject) (known : s.axis < a.axes) where
  -- the bounds of the record with the range on the strip's axis cut
  pub region_box : (region : Region) (piece : Piece) (span : Span) → piece ≡ at a.records.now a.piece → span.lower ≡ int_max (lows piece.present s.axis) s.span.lower → span.upper ≡ int_min (highs piece.present s.axis) s.span.upper → ((d : ℕ) → span_at region d ≡ cond (eqb d s.axis) span (span_at piece.present d)) → SameBox a.axes (box_of region) (strip_box s (room_seen a) a.piece)
  region_box region piece span asked lower upper spans = record {
    from_same = λ d h. let e = spans d in let seen = cut_below a.axes (lows (at a.records.now a.piece).present) d h in grind (arith, nat_tests);
    to_same = λ d h. let e = spans d in let seen = cut_below a.axes (highs (at a.records.now a.piece).present) d h in grind (arith, nat_tests);
  }

  shuts : Shuts a.axes (room_seen a) a.piece (strip_shut s a.axes (room_seen a) a.piece) (strip_box s (room_seen a) a.piece)
  shuts y within held = (decides_shut s a.axes (room_seen a) a.piece y known).1 (strip_from s (room_seen a) a.piece a.axes y known held)

  ends_fit : EndsFit a.axes (strip_box s (room_seen a) a.piece)
  ends_fit = inside_fits a _ (inside_bounds s (room_seen a) a.piece)

  pub sound : Sound a.axes (room_seen a) a.piece (strip_shut s a.axes (room_seen a) a.piece) (strip_source s a.axes (room_seen a) a.piece) 1
  unfolding strip_source
  sound = record {
    each = λ j b below gives.
        let (test, same) = given_some _ (strip_box s (room_seen a) a.piece) b gives in
        let met = (decides_meets a.axes (strip_box s (room_seen a) a.piece) ((room_seen a).low a.piece) ((room_seen a).high a.piece)).0 test in
        subst (ListsBox a.axes (room_seen a) a.piece (strip_shut s a.axes (room_seen a) a.piece)) same (record {
          shuts = shuts;
          some = common_point a.axes (strip_box s (room_seen a) a.piece) (room_seen a) a.piece (bounds_order a) met;
          ends = ends_fit;
        });
    every = λ x within shut.
        let i = (decides_shut s a.axes (room_seen a) a.piece x known).0 shut in
        let at_x = held_from s (room_seen a) a.piece a.axes x within i in
        let met = meets_from a.axes (strip_box s (room_seen a) a.piece) (room_seen a) a.piece x within at_x in
        (0, strip_box s (room_seen a) a.piece, omega arith, cond-true _ _ _ ((decides_meets a.axes (strip_box s (room_seen a) a.piece) _ _).1 met), at_x);
  }

  -- an answer under the test of the origin on the strip's axis is right
  pub covered : (origins : List ℤ) (test : Bool) (region : Region) (answer : Option Region) → Within a.axes (room_seen a) a.piece (point_of a.axes origins) → test ≡ span_holds s.span (on_axis origins s.axis) → SameBox a.axes (box_of region) (strip_box s (room_seen a) a.piece) → answer ≡ then_some test region → Covered a.axes (room_seen a) a.piece (strip_shut s a.axes (room_seen a) a.piece) (point_of a.axes origins) answer
  unfolding strip_shut
  covered origins false region answer within is same gives =
      let e = cut_below a.axes (on_axis origins) s.axis known in
      subst (Covered a.axes (room_seen a) a.piece (strip_shut s a.axes (room_seen a) a.piece) (point_of a.axes origins)) (sym gives) (grind (arith, nat_tests))
  covered origins true region answer within is same gives =
      let e = cut_below a.axes (on_axis origins) s.axis known in
      subst (Covered a.axes (room_seen a) a.piece (strip_shut s a.axes (room_seen a) a.piece) (point_of a.axes origins)) (sym gives)
      (same_covers (same_back same) (record {
        holds = held_from s (room_seen a) a.piece a.axes (point_of a.axes origins) within (record { past = grind (arith, ints); before = grind (arith, ints) });
        shuts = shuts;
        ends = ends_fit;
      }))

  -- a region that is given where it meets the bounds of the record shows the box
  pub shows : (source : ℕ) (piece : Piece) (region : Region) (met : Bool) (answer : Option Region) → piece ≡ at a.records.now a.piece → SameBox a.axes (box_of region) (strip_box s (room_seen a) a.piece) → Decides met (Meets a.axes (box_of region) (lows piece.present) (highs piece.present)) → answer ≡ then_some met region → Shows a.axes (strip_source s a.axes (room_seen a) a.piece source) answer
  unfolding strip_source
  shows source piece region met answer asked same decides gives =
      shows_given a.axes _ (strip_box s (room_seen a) a.piece) region answer (gives ∙ ap (λ t. then_some t region) (met_seen a (strip_box s (room_seen a) a.piece) region piece met asked same decides)) same
