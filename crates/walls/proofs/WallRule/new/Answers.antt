use Rattle.room.specs.Listed.{rows_of}
use Rattle.walls.specs.Walls.{kept}
use Rattle.walls.proofs.WallRule.new.Goals as goal

pub returns-clause-kept : goal.returns-clause-kept
returns-clause-kept c = kept (rows_of c.args.map.now)
