-- What a strip shuts.
use Rattle.std.specs.Prelude.{◌≡◌, ℕ, ◌<◌, Bool, true, cond, ◌&&◌, ◌≤ℤ◌, Some, None, Option, ◌==◌, nat_lt}
use Rattle.std.specs.Int.{int_max, int_min}
use Rattle.room.specs.Seen.{Room, Point, Box, meets}
use Rattle.room.specs.Spans.{span_holds}
use Rattle.rule.specs.Kept.{Placement, Keeps, Same}
use Rattle.strip.specs.declared.Strip.{Strip}

-- a board that has the axis
abbrev pub strip_suits : Strip → ℕ → ℕ → Bool
strip_suits s k n = nat_lt s.axis k

-- an origin in the strip is shut
unfoldable pub strip_shut : Strip → ℕ → Room → ℕ → Point → Bool
strip_shut s k r p x = nat_lt s.axis k && span_holds s.span (x s.axis)

-- the bounds of a piece, cut to the strip
abbrev pub strip_box : Strip → Room → ℕ → Box
strip_box s r p = record {
  from = λ d. cond (d == s.axis) (int_max (r.low p d) s.span.lower) (r.low p d);
  to = λ d. cond (d == s.axis) (int_min (r.high p d) s.span.upper) (r.high p d);
}

-- the one box of a piece, where it holds an origin
unfoldable pub strip_source : Strip → ℕ → Room → ℕ → ℕ → Option Box
strip_source s k r p _ = cond (meets k (strip_box s r p) (r.low p) (r.high p)) (Some (strip_box s r p)) None

-- exactly the placements with no origin in the strip keep it
abbrev pub StripKept : Strip → Type 0
StripKept s =
    (k : ℕ) (r : Room) (q : Placement) → strip_suits s k r.count ≡ true →
    Same (Keeps (strip_shut s) k r q) ((p : ℕ) → p < r.count → s.span.lower ≤ℤ q p s.axis → q p s.axis ≤ℤ s.span.upper → ⊥)
