use Rattle.std.proofs.Common.{arith}
use Rattle.std.proofs.lemmas.Grind.{common_steps}
use Rattle.walls.proofs.Cells.{wall_past}
use Rattle.walls.proofs.WallRule.wall_among.Goals as goal

pub returns : goal.returns
returns c row column across columns = grind (arith, common_steps, wall_past)
