use Rattle.std.proofs.lemmas.Bool.{ltb-true}
use Rattle.rule.specs.Subjects.{room_seen}
use Rattle.rule.proofs.Gatherings.{sound_lists}
use Rattle.strip.proofs.Strips.{sound}
use Rattle.strip.proofs.StripRule.count.Goals as goal

pub returns-clause-lists : goal.returns-clause-lists
returns-clause-lists c =
    let a = c.args.subject.now in
    sound_lists _ a.axes (room_seen a) a.piece _ _ (sound c.args.self.now a (ltb-true _ _ c.requires.suits))
