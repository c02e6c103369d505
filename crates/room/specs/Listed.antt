-- What a list of fixed capacity holds.
use Rattle.std.specs.Prelude.{ℕ, List, map, take}
use Rattle.room.specs.declared.array_vec.ArrayVec.{ArrayVec}
use Rattle.room.specs.declared.walls.Cell.{Cell}

-- the items, in order: the slots in use
abbrev pub listed : {T : Type 0} {N : ℕ} → ArrayVec T N → List T
listed v = take v.len v.slots

-- the rows of a wall map, each as its cells
abbrev pub rows_of : ArrayVec (ArrayVec Cell 64) 64 → List (List Cell)
rows_of walls = map (λ row. listed row) (listed walls)
