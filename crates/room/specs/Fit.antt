-- Records within the limits.
use Rattle.std.specs.Prelude.{ℕ, ◌<◌, ◌≤◌, Bool, ◌&&◌, List, length, ℤ, pos, neg_ℤ, ◌≤ℤ◌}
use Rattle.std.specs.List.{list_all}
use Rattle.room.specs.Below.{all_below}
use Rattle.room.specs.Limits.{max_axes, max_pieces, max_length, max_end, extent_fits}
use Rattle.room.specs.Seen.{on_axis, at, lows, highs, span_at}
use Rattle.room.specs.Spans.{span_inside}
use Rattle.room.specs.declared.piece.Extent.{Extent}
use Rattle.room.specs.declared.piece.Piece.{Piece}

-- the length and the first ends of a piece on an axis
abbrev pub first_extent : Piece → ℕ → Extent
first_extent p d = record { length = on_axis p.lengths d; span = span_at p.first d }

-- on that axis the present ends are a range inside the first
abbrev pub present_inside : Piece → ℕ → Bool
present_inside p d = span_inside (span_at p.present d) (span_at p.first d)

-- and the length and the first ends are within the limits
abbrev pub axis_fits : Piece → ℕ → Bool
axis_fits p d = extent_fits (first_extent p d) && present_inside p d

-- on each of k axes
abbrev pub piece_fits : ℕ → Piece → Bool
piece_fits k p = all_below (axis_fits p) k

abbrev pub records_fit : ℕ → List Piece → Bool
records_fit k records = list_all (piece_fits k) records

-- a length and present ends within the limits
pub record Limits (size low high : ℤ) : Type 0 where
  pub size_from : pos 0 ≤ℤ size
  pub size_to : size ≤ℤ pos max_length
  pub from : neg_ℤ (pos max_end) ≤ℤ low
  pub order : low ≤ℤ high
  pub to : high ≤ℤ pos max_end

abbrev pub AxisLimits : Piece → ℕ → Type 0
AxisLimits p d = Limits (on_axis p.lengths d) (lows p.present d) (highs p.present d)

-- records that a rule may be asked about: not too many axes or pieces, and each within the limits
pub record Board (k : ℕ) (records : List Piece) : Type 0 where
  pub axes_from : 1 ≤ k
  pub axes_to : k ≤ max_axes
  pub pieces_to : length records ≤ max_pieces
  pub limits : (p : ℕ) → p < length records → (d : ℕ) → d < k → AxisLimits (at records p) d
