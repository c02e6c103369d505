use Rattle.walls.specs.Held.{Run, walls_of}
use Rattle.walls.proofs.WallRule.run_end.Given as goal

abbrev pub invariant-loop-row : goal.invariant-loop-row
invariant-loop-row l = Run (walls_of l.self) l.place.column l.place.row l.row
