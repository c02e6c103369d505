use Rattle.rule.proofs.Gatherings.{sound_lists}
use Rattle.overlap.proofs.Rivals.{sound}
use Rattle.overlap.proofs.OverlapRule.count.Goals as goal

pub returns-clause-lists : goal.returns-clause-lists
returns-clause-lists c = sound_lists _ _ _ _ _ _ (sound c.args.self.now c.args.subject.now)
