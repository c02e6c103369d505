-- What a rule sees of a board: for each piece and axis a length and the present ends. It sees no first ends, and nothing
-- past the board's axes and pieces.
use Rattle.std.specs.Prelude.{◌≡◌, ℕ, ◌<◌, ◌≤◌, Bool, cond, ◌&&◌, List, [], length, ℤ, pos, ◌≤ℤ◌, int_le, nat_lt, slice_index_or}
use Rattle.room.specs.Below.{all_below}
use Rattle.room.specs.declared.piece.Piece.{Piece}
use Rattle.room.specs.declared.region.Region.{Region}
use Rattle.room.specs.declared.span.Span.{Span}

-- how many pieces there are, and of each piece, on each axis, its length and its present ends
pub record Room : Type 0 where
  pub count : ℕ
  pub size : ℕ → ℕ → ℤ
  pub low : ℕ → ℕ → ℤ
  pub high : ℕ → ℕ → ℤ

-- an origin for each axis, 0 past the axes of the board
abbrev pub Point : Type 0
Point = ℕ → ℤ

-- a box of points: its ends on each axis
pub record Box : Type 0 where
  pub from : ℕ → ℤ
  pub to : ℕ → ℤ

-- the number of an array at an axis
abbrev pub on_axis : List ℤ → ℕ → ℤ
on_axis xs d = slice_index_or xs d (pos 0)

-- numbers of axes, cut to a board of k axes: 0 past them
unfoldable pub cut : ℕ → (ℕ → ℤ) → ℕ → ℤ
cut k f d = cond (nat_lt d k) (f d) (pos 0)

abbrev pub no_span : Span
no_span = record { lower = pos 0; upper = pos 0 }

-- the range of a box at an axis, and its ends there
abbrev pub span_at : Region → ℕ → Span
span_at region d = slice_index_or region.spans d no_span

abbrev pub lows : Region → ℕ → ℤ
lows region d = (span_at region d).lower

abbrev pub highs : Region → ℕ → ℤ
highs region d = (span_at region d).upper

abbrev no_bounds : Region
no_bounds = record { spans = [] }

abbrev pub no_piece : Piece
no_piece = record { lengths = []; first = no_bounds; present = no_bounds }

-- the record of a piece
abbrev pub at : List Piece → ℕ → Piece
at records p = slice_index_or records p no_piece

-- what a rule sees of the records of a board of k axes
abbrev pub room_of : ℕ → List Piece → Room
room_of k records = record {
  count = length records;
  size = λ p. cut k (on_axis (at records p).lengths);
  low = λ p. cut k (lows (at records p).present);
  high = λ p. cut k (highs (at records p).present);
}

abbrev pub point_of : ℕ → List ℤ → Point
point_of k origins = cut k (on_axis origins)

abbrev pub box_of : Region → Box
box_of region = record { from = lows region; to = highs region }

-- the origins within the present ends of a record
abbrev pub bounds_box : Piece → Box
bounds_box p = box_of p.present

-- x is a point of k axes within the bounds of piece p
pub record Within (k : ℕ) (r : Room) (p : ℕ) (x : Point) : Type 0 where
  pub above : (d : ℕ) → d < k → r.low p d ≤ℤ x d
  pub under : (d : ℕ) → d < k → x d ≤ℤ r.high p d
  pub flat : (d : ℕ) → k ≤ d → x d ≡ pos 0

-- the bounds of c lie inside those of b, at the same lengths
pub record Inside (k : ℕ) (c b : Room) : Type 0 where
  pub counts : c.count ≡ b.count
  pub sizes : (p d : ℕ) → p < b.count → d < k → c.size p d ≡ b.size p d
  pub lows : (p d : ℕ) → p < b.count → d < k → b.low p d ≤ℤ c.low p d
  pub highs : (p d : ℕ) → p < b.count → d < k → c.high p d ≤ℤ b.high p d

-- the box holds the point
abbrev pub Holds : ℕ → Box → Point → Type 0
Holds k b x = (d : ℕ) → d < k → (b.from d ≤ℤ x d) × (x d ≤ℤ b.to d)

abbrev pub holds : ℕ → Box → Point → Bool
holds k b x = all_below (λ d. int_le (b.from d) (x d) && int_le (x d) (b.to d)) k

-- the box has a point in common with the range from low to high on each axis
abbrev pub Meets : ℕ → Box → (ℕ → ℤ) → (ℕ → ℤ) → Type 0
Meets k b low high = (d : ℕ) → d < k → (b.from d ≤ℤ b.to d) × (b.from d ≤ℤ high d) × (low d ≤ℤ b.to d)

abbrev pub meets : ℕ → Box → (ℕ → ℤ) → (ℕ → ℤ) → Bool
meets k b low high = all_below (λ d. int_le (b.from d) (b.to d) && (int_le (b.from d) (high d) && int_le (low d) (b.to d))) k
