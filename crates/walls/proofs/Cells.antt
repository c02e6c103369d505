-- A cell of a wall map, as the code reads it.
use Rattle.std.proofs.Common.{◌≡◌, ℕ, ◌≤◌, false, List, [], length, get_or, arith}
use Rattle.std.proofs.lemmas.List.{get_or_past}
use Rattle.std.proofs.lemmas.Bool.Decides.{nat_tests}
use Rattle.room.specs.Limits.{max_cells, max_rows}
use Rattle.room.specs.declared.walls.Cell.{Cell}
use Rattle.room.specs.declared.walls.Cell.TheVariants.{Open}
use Rattle.room.proofs.Belows.{false_from, passes}
use Rattle.walls.specs.Walled.{is_wall, wall}
use Rattle.walls.specs.Walls.{wall_within}

-- a map and its rows keep their limits, so that what a row has is what the map has there
pub wall_read : (rows : List (List Cell)) (cells : List Cell) (row column : ℕ) → cells ≡ get_or rows row [] → length rows ≤ max_rows → length cells ≤ max_cells → wall rows row column ≡ is_wall (get_or cells column Open)
unfolding wall
wall_read rows cells row column those few short =
    let past_row : max_rows ≤ row → get_or rows row [] ≡ [] = λ past. get_or_past rows row [] (omega arith) in
    let past_column : max_cells ≤ column → get_or cells column Open ≡ Open = λ past. get_or_past cells column Open (omega arith) in
    grind (arith, nat_tests)

-- past the last row all is open
pub wall_past : (rows : List (List Cell)) (row column : ℕ) → length rows ≤ row → wall rows row column ≡ false
wall_past rows row column past = false_from _ (passes (wall rows row column)) (λ is. let within = wall_within rows row column is in omega arith)
