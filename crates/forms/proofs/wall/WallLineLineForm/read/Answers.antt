use Rattle.std.proofs.Common.{arith, rules}
use Rattle.std.proofs.lemmas.Bool.Decides.{nat_tests}
use Rattle.room.specs.Listed.{listed}
use Rattle.forms.proofs.Cells.{wall_wide, wall_row}
use Rattle.forms.proofs.wall.WallLineLineForm.read.Goals as goal

pub returns-then-too_wide : goal.returns-then-too_wide
returns-then-too_wide c = wall_wide c.args.body.now c.in-Some-Wall.letters.now (listed c.in_ok-row.row) (search rules) (grind (arith, nat_tests)) (search rules) (omega arith)

pub returns : goal.returns
returns c = wall_row c.args.body.now c.in-Some-Wall.letters.now (listed c.in_ok-row.row) (search rules) (grind (arith, nat_tests)) (search rules) (omega arith)
