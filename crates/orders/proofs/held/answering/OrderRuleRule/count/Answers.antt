use Rattle.rule.specs.Subjects.{room_seen}
use Rattle.rule.proofs.Gatherings.{sound_lists}
use Rattle.orders.proofs.Sourcing.{sound}
use Rattle.orders.proofs.held.answering.OrderRuleRule.count.Goals as goal

pub returns-clause-lists : goal.returns-clause-lists
returns-clause-lists c =
    let s = c.args.subject.now in
    sound_lists _ s.axes (room_seen s) s.piece _ _ (sound c.args.self.now s c.requires.suits)
