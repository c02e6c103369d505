use Rattle.std.proofs.Common.{arith}
use Rattle.std.proofs.lemmas.List.{get_or-map}
use Rattle.std.proofs.lemmas.Grind.{common_steps}
use Rattle.walls.proofs.Cells.{wall_read}
use Rattle.walls.proofs.WallRule.row.Goals as goal

pub returns : goal.returns
returns c column = grind (arith, common_steps, get_or-map, wall_read)
