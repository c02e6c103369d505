use Rattle.std.proofs.Common.{◌≡◌, ℕ, ◌<◌, ◌≤◌, false}
use Rattle.walls.specs.Held.{Among, walls_of}
use Rattle.walls.specs.Walled.{wall}
use Rattle.walls.proofs.WallRule.wall_among.Given as goal

abbrev pub invariant-loop-row : goal.invariant-loop-row
invariant-loop-row l = (row column : ℕ) → l.rows.start ≤ row → row < l.row → Among l.columns column → wall (walls_of l.self) row column ≡ false
