use Rattle.std.proofs.Common.{ℕ, ◌<◌}
use Rattle.room.specs.Seen.{point_of}
use Rattle.rule.specs.Subjects.{room_seen}
use Rattle.overlap.specs.Clashing.{Boxed}
use Rattle.overlap.proofs.OverlapRule.cover.Given as goal

abbrev pub invariant-loop-j : goal.invariant-loop-j
invariant-loop-j l = (j : ℕ) → j < l.j → Boxed l.self l.subject.axes (room_seen l.subject) l.subject.piece (point_of l.subject.axes l.point.origins) j → ⊥
