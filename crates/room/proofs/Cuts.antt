-- What is cut to the axes of a board, and points and boxes on them.
use Rattle.std.proofs.Common.{◌≡◌, ℕ, zero, suc, ◌<◌, ◌≤◌, List, length, ℤ, pos, ◌≤ℤ◌, Decides, refl, arith}
use lib.Signed.{le_z}
use Rattle.std.specs.Int.{int_max}
use Rattle.std.proofs.lemmas.Int.{ints, clamps}
use Rattle.std.proofs.lemmas.Bool.{cond-true, cond-false, lt-ltb, le-ltb}
use Rattle.std.proofs.lemmas.Bool.Decides.{Decides-and, Decides-like}
use Rattle.room.specs.Seen.{Room, Point, Box, Within, Holds, Meets, box_of, cut, highs, holds, lows, meets, no_span, on_axis, point_of}
use Rattle.room.specs.Spans.{span_holds, span_meets, spans_hold, spans_meet}
use Rattle.room.specs.declared.region.Region.{Region}
use Rattle.room.proofs.Belows.{decides_all, decides_zipped}

pub cut_below : (k : ℕ) (f : ℕ → ℤ) (d : ℕ) → d < k → cut k f d ≡ f d
unfolding cut
cut_below k f d h = cond-true _ _ _ (lt-ltb d k h)

pub cut_past : (k : ℕ) (f : ℕ → ℤ) (d : ℕ) → k ≤ d → cut k f d ≡ pos 0
unfolding cut
cut_past k f d h = cond-false _ _ _ (le-ltb d k h)

-- what holds on each of three axes
pub by_axis : (P : ℕ → Type 0) → P 0 → P 1 → P 2 → (d : ℕ) → d < 3 → P d
by_axis P a b c zero h = a
by_axis P a b c (suc zero) h = b
by_axis P a b c (suc (suc zero)) h = c
by_axis P a b c (suc (suc (suc d))) h = absurd (omega arith)

pub decides_int_le : (a b : ℤ) → Decides (le_z a b) (a ≤ℤ b)
decides_int_le a b = (λ e. grind (arith, ints), λ h. grind (arith, ints))

pub decides_holds : (k : ℕ) (b : Box) (x : Point) → Decides (holds k b x) (Holds k b x)
decides_holds k b x = decides_all _ (λ d. (b.from d ≤ℤ x d) × (x d ≤ℤ b.to d)) (λ d. Decides-and _ _ (decides_int_le (b.from d) (x d)) (decides_int_le (x d) (b.to d))) k

pub decides_meets : (k : ℕ) (b : Box) (low high : ℕ → ℤ) → Decides (meets k b low high) (Meets k b low high)
decides_meets k b low high =
    decides_all _ (λ d. (b.from d ≤ℤ b.to d) × (b.from d ≤ℤ high d) × (low d ≤ℤ b.to d))
    (λ d. Decides-like _ (λ (a, (c, e)). (a, c, e)) (λ (a, c, e). (a, (c, e))) (Decides-and _ _ (decides_int_le (b.from d) (b.to d)) (Decides-and _ _ (decides_int_le (b.from d) (high d)) (decides_int_le (low d) (b.to d))))) k

-- the ranges of a box, put to the origins of a point one by one
pub decides_spans_hold : (k : ℕ) (region : Region) (origins : List ℤ) → length region.spans ≡ length origins → Decides (spans_hold k region.spans origins) (Holds k (box_of region) (point_of k origins))
decides_spans_hold k region origins same =
    Decides-like _
    (λ every d h. let e = cut_below k (on_axis origins) d h in let is = every d h in (grind (arith, ints), grind (arith, ints)))
    (λ held d h. let e = cut_below k (on_axis origins) d h in let (above, under) = held d h in grind (arith, ints))
    (decides_zipped span_holds no_span (pos 0) refl k region.spans origins same)

-- and to the ranges of bounds
pub decides_spans_meet : (k : ℕ) (region bounds : Region) → length region.spans ≡ length bounds.spans → Decides (spans_meet k region.spans bounds.spans) (Meets k (box_of region) (lows bounds) (highs bounds))
decides_spans_meet k region bounds same =
    Decides-like _
    (λ every d h. let is = every d h in (grind (arith, ints), grind (arith, ints), grind (arith, ints)))
    (λ met d h. let (order, from, to) = met d h in grind (arith, ints))
    (decides_zipped span_meets no_span no_span refl k region.spans bounds.spans same)

-- where a box meets the bounds of a piece, a point within them lies in it
pub common_point : (k : ℕ) (b : Box) (r : Room) (p : ℕ) → ((d : ℕ) → d < k → r.low p d ≤ℤ r.high p d) → Meets k b (r.low p) (r.high p) → (x : Point) × Within k r p x × Holds k b x
common_point k b r p order meets =
    let x : Point = cut k (λ d. int_max (r.low p d) (b.from d)) in
    let at : (d : ℕ) → d < k → x d ≡ int_max (r.low p d) (b.from d) = cut_below k (λ d. int_max (r.low p d) (b.from d)) in (
      x,
      record {
        above = λ d h. let e = at d h in omega (arith, ints, clamps);
        under = λ d h. let e = at d h in let o = order d h in let m = meets d h in omega (arith, ints, clamps);
        flat = cut_past k (λ d. int_max (r.low p d) (b.from d));
      },
      λ d h. let e = at d h in let m = meets d h in (omega (arith, ints, clamps), omega (arith, ints, clamps)),
    )

-- a box that holds a point within the bounds of a piece meets them
pub meets_from : (k : ℕ) (b : Box) (r : Room) (p : ℕ) (x : Point) → Within k r p x → Holds k b x → Meets k b (r.low p) (r.high p)
meets_from k b r p x within held d h =
    let a = within.above d h in
    let u = within.under d h in
    let e = held d h in
    (omega (arith, ints), omega (arith, ints), omega (arith, ints))

-- a box holds the point of an array where it holds its numbers on the axes of the board
pub held_on_axes : (k n : ℕ) (b : Box) (origins : List ℤ) → k ≤ n → Holds n b (on_axis origins) → Holds k b (point_of k origins)
held_on_axes k n b origins few held d h =
    let e = cut_below k (on_axis origins) d h in
    let t = held d (omega arith) in
    (omega (arith, ints), omega (arith, ints))

pub axis_held : (k : ℕ) (b : Box) (origins : List ℤ) (d : ℕ) → d < k → Holds k b (point_of k origins) → (b.from d ≤ℤ on_axis origins d) × (on_axis origins d ≤ℤ b.to d)
axis_held k b origins d h held =
    let e = cut_below k (on_axis origins) d h in
    let t = held d h in
    (omega (arith, ints), omega (arith, ints))

-- a box meets ends as they are seen where it meets them as they stand in a record
pub meets_seen : (k : ℕ) (b : Box) (low high : ℕ → ℤ) → Meets k b low high → Meets k b (cut k low) (cut k high)
meets_seen k b low high met d h =
    let l = cut_below k low d h in
    let u = cut_below k high d h in
    let m = met d h in
    (omega (arith, ints), omega (arith, ints), omega (arith, ints))

pub meets_known : (k : ℕ) (b : Box) (low high : ℕ → ℤ) → Meets k b (cut k low) (cut k high) → Meets k b low high
meets_known k b low high met d h =
    let l = cut_below k low d h in
    let u = cut_below k high d h in
    let m = met d h in
    (omega (arith, ints), omega (arith, ints), omega (arith, ints))
