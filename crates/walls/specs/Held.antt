-- What a wall rule holds, and what it finds.
use Rattle.std.specs.declared.ops.Range.{Range}
use Rattle.std.specs.Prelude.{◌≡◌, ℕ, ◌+◌, ◌<◌, ◌≤◌, true, false, List, slice_index_or}
use Rattle.room.specs.Limits.{max_rows}
use Rattle.room.specs.Listed.{rows_of}
use Rattle.room.specs.declared.walls.Cell.{Cell}
use Rattle.room.specs.declared.walls.Cell.TheVariants.{Open}
use Rattle.walls.specs.Walled.{is_wall, wall}
use Rattle.walls.specs.declared.Place.{Place}
use Rattle.walls.specs.declared.WallRule.{WallRule}

-- the rows of its map, each as its cells
abbrev pub walls_of : WallRule → List (List Cell)
walls_of w = rows_of w.map

-- a cell is one of these
abbrev pub Among : Range ℕ → ℕ → Type 0
Among cells cell = (cells.start ≤ cell) × (cell < cells.end)

-- the first wall of a row in some columns
abbrev pub FirstWall : List Cell → Range ℕ → ℕ → Type 0
FirstWall cells columns column =
    (columns.start ≤ column) × (column < columns.end) × (is_wall (slice_index_or cells column Open) ≡ true)
    × ((before : ℕ) → columns.start ≤ before → before < column → is_wall (slice_index_or cells before Open) ≡ false)

-- the first wall in some rows and columns
pub record Found (rows : List (List Cell)) (across columns : Range ℕ) (at : Place) : Type 0 where
  pub is_there : wall rows at.row at.column ≡ true
  pub in_rows : Among across at.row
  pub in_columns : Among columns at.column
  pub first_row : (row : ℕ) → row < at.row → across.start ≤ row → (column : ℕ) → Among columns column → wall rows row column ≡ false
  pub first_column : (column : ℕ) → column < at.column → columns.start ≤ column → wall rows at.row column ≡ false

-- the rows from one to before another are walls in a column
abbrev pub Run : List (List Cell) → ℕ → ℕ → ℕ → Type 0
Run rows column start end = (row : ℕ) → start ≤ row → row < end → wall rows row column ≡ true

-- the whole run of walls that a wall stands in: above and below it the column is open
pub record WholeRun (rows : List (List Cell)) (at : Place) (run : Range ℕ) : Type 0 where
  pub walls : Run rows at.column run.start run.end
  pub around : Among run at.row
  pub within : run.end ≤ max_rows
  pub above : (row : ℕ) → row + 1 ≡ run.start → wall rows row at.column ≡ false
  pub below : wall rows run.end at.column ≡ false
