use Rattle.rule.proofs.Gatherings.{sound_lists}
use Rattle.rule.specs.Subjects.{room_seen}
use Rattle.walls.specs.Drawn.{cell_given, cells_of}
use Rattle.walls.specs.Held.{walls_of}
use Rattle.walls.specs.Walled.{walls_shut}
use Rattle.walls.proofs.Boxes.{cells_sound}
use Rattle.walls.proofs.WallRuleRule.count.Goals as goal

pub returns-clause-lists : goal.returns-clause-lists
returns-clause-lists c =
    let rows = walls_of c.args.self.now in
    let s = c.args.subject.now in
    let r = room_seen s in
    sound_lists (cell_given rows s.axes r s.piece) s.axes r s.piece (walls_shut rows s.axes r s.piece) (cells_of rows) (cells_sound rows s c.requires.suits)
