-- What a wall map shuts. Its rows are counted from 0, and so are the cells of a row; a cell that no row has is open.
use Rattle.std.specs.Prelude.{◌≡◌, ℕ, ◌<◌, Bool, true, false, ◌&&◌, ◌||◌, List, [], length, ℤ, pos, ◌+ℤ◌, ◌-ℤ◌, ◌≤ℤ◌, ◌==◌, int_le, nat_le, nat_lt, slice_index_or}
use Rattle.room.specs.Below.{any_below}
use Rattle.room.specs.Limits.{max_cells, max_rows}
use Rattle.room.specs.Seen.{Room, Point}
use Rattle.room.specs.declared.walls.Cell.{Cell}
use Rattle.room.specs.declared.walls.Cell.TheVariants.{Wall, Open}
use Rattle.rule.specs.Kept.{Placement, Keeps, Same}

abbrev pub is_wall : Cell → Bool
is_wall Wall = true
is_wall Open = false

-- whether there is a wall at this row and column; past the rows and cells that a map may have, all is open
unfoldable pub wall : List (List Cell) → ℕ → ℕ → Bool
wall rows row column = nat_lt row max_rows && (nat_lt column max_cells && is_wall (slice_index_or (slice_index_or rows row []) column Open))

-- a piece with this origin and length on an axis covers the cells from its origin to one before its far end
abbrev pub spans : ℤ → ℤ → ℕ → Bool
spans origin size cell = int_le origin (pos cell) && int_le (pos cell) ((origin +ℤ size) -ℤ pos 1)

pub record Spans (origin size : ℤ) (cell : ℕ) : Type 0 where
  pub first : origin ≤ℤ pos cell
  pub last : pos cell ≤ℤ ((origin +ℤ size) -ℤ pos 1)

-- columns lie along axis 0, rows along axis 1; a map with rows suits two axes or more
abbrev pub walls_suit : List (List Cell) → ℕ → ℕ → Bool
walls_suit rows k n = nat_le 2 k || length rows == 0

-- piece p at x covers a wall cell
pub record CoversWall (rows : List (List Cell)) (r : Room) (p : ℕ) (x : Point) : Type 0 where
  pub row : ℕ
  pub column : ℕ
  pub is_there : wall rows row column ≡ true
  pub in_columns : Spans (x 0) (r.size p 0) column
  pub in_rows : Spans (x 1) (r.size p 1) row

-- the same as a test; on a board of one axis a map shuts nothing
unfoldable pub walls_shut : List (List Cell) → ℕ → Room → ℕ → Point → Bool
walls_shut rows k r p x =
    nat_le 2 k
    && any_below (λ row. any_below (λ column. wall rows row column && (spans (x 0) (r.size p 0) column && spans (x 1) (r.size p 1) row)) max_cells) max_rows

-- exactly the placements in which no piece covers a wall cell keep the map
abbrev pub WallsKept : List (List Cell) → Type 0
WallsKept rows =
    (k : ℕ) (r : Room) (q : Placement) → walls_suit rows k r.count ≡ true →
    Same (Keeps (walls_shut rows) k r q) ((p : ℕ) → p < r.count → CoversWall rows r p (q p) → ⊥)
