-- The boxes of the origins at which a piece covers walls: of a run of cells in one column, and of each cell of a map.
use Rattle.std.specs.declared.ops.Range.{Range}
use Rattle.std.specs.Prelude.{ℕ, ◌+◌, ◌*◌, ◌/◌, ◌%◌, min, cond, ◌&&◌, List, [], ◌∷◌, length, ℤ, pos, ◌+ℤ◌, ◌-ℤ◌, neg_ℤ, ◌≤ℤ◌, Some, None, Option}
use Rattle.room.specs.Limits.{max_cells, max_length, max_rows}
use Rattle.room.specs.Seen.{Room, Box, box_of, meets}
use Rattle.room.specs.declared.region.Region.{Region}
use Rattle.room.specs.declared.span.Span.{Span}
use Rattle.room.specs.declared.walls.Cell.{Cell}
use Rattle.rule.specs.Means.{max_box_end}
use Rattle.rule.specs.Subjects.{room_seen}
use Rattle.rule.specs.declared.subject.Subject.{Subject}
use Rattle.walls.specs.Walled.{wall}

-- a length within the limits
pub record LengthFits (size : ℤ) : Type 0 where
  pub from : pos 0 ≤ℤ size
  pub to : size ≤ℤ pos max_length

-- the length of the piece that a rule is asked about, on an axis
abbrev pub length_seen : Subject → ℕ → ℤ
length_seen s d = (room_seen s).size s.piece d

-- the origins at which a piece of this length covers some of the cells
abbrev pub reach : ℤ → Range ℕ → Span
reach length cells = record { lower = (pos cells.start -ℤ length) +ℤ pos 1; upper = pos cells.end -ℤ pos 1 }

abbrev any_origin : Span
any_origin = record { lower = neg_ℤ (pos max_box_end); upper = pos max_box_end }

-- one row, or one column
abbrev pub only : ℕ → Range ℕ
only cell = record { start = cell; end = cell + 1 }

-- where a piece of this width and height covers some cell of a run of rows in a column
abbrev pub run_region : ℤ → ℤ → ℕ → Range ℕ → Region
run_region width height column run = record { spans = reach width (only column) ∷ reach height run ∷ any_origin ∷ [] }

abbrev pub run_box : ℤ → ℤ → ℕ → Range ℕ → Box
run_box width height column run = box_of (run_region width height column run)

-- the cells of a map are numbered row by row, as if each row had as many cells as a row may have; rows past those that a
-- map may have are not counted
abbrev pub row_of : ℕ → ℕ
row_of source = source / max_cells

abbrev pub column_of : ℕ → ℕ
column_of source = source % max_cells

abbrev pub cells_of : List (List Cell) → ℕ
cells_of rows = min (length rows) max_rows * max_cells

-- the box of one cell
abbrev pub cell_box : Room → ℕ → ℕ → Box
cell_box r p source = run_box (r.size p 0) (r.size p 1) (column_of source) (only (row_of source))

-- the box that a cell gives for a piece: where it is a wall, and the piece can cover it within its bounds
unfoldable pub cell_given : List (List Cell) → ℕ → Room → ℕ → ℕ → Option Box
cell_given rows k r p source =
    cond (wall rows (row_of source) (column_of source) && meets k (cell_box r p source) (r.low p) (r.high p))
    (Some (cell_box r p source))
    None
