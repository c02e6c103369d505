use Rattle.std.proofs.Common.{◌≡◌, ◌+◌, length}
use Rattle.rule.specs.Gathered.{gathered}
use Rattle.rule.specs.Subjects.{room_seen}
use Rattle.rule.proofs.listing.listed_box.Given as goal

abbrev pub invariant-loop-source : goal.invariant-loop-source
invariant-loop-source g l = l.left + length (gathered (g.S.Sources.given l.rule l.subject.axes (room_seen l.subject) l.subject.piece) l.source) ≡ l.number
