use Rattle.std.proofs.Common.{◌≡◌, List, take, drop}
use Rattle.room.specs.Listed.{listed}
use Rattle.room.specs.declared.walls.Cell.{Cell}
use Rattle.forms.specs.Forms.{cells}
use Rattle.forms.proofs.Cells.{put_cells}
use Rattle.forms.proofs.wall.cells.Given as goal

-- the row has the cells read so far, as far as there is room, and those still to read make up the rest
abbrev pub invariant-loop-letter : goal.invariant-loop-letter
invariant-loop-letter l =
    (done : List Cell) × (listed l.row ≡ take 64 done) × (put_cells done (cells (drop l.letter-index l.letters)) ≡ cells l.letters)
