use Rattle.std.proofs.Common.{arith, below_more}
use Rattle.room.specs.Seen.{point_of}
use Rattle.room.proofs.Belows.{false_from}
use Rattle.rule.specs.Subjects.{room_seen}
use Rattle.overlap.specs.Clashing.{decides_shut}
use Rattle.overlap.proofs.Paired.{covers_there, not_exempt, not_held}
use Rattle.overlap.proofs.OverlapRule.cover.Goals as goal
use Rattle.overlap.proofs.OverlapRule.cover.Goals.{else-is_other-via-then-is_other+then-clashes_at+else-not-exempts, else-is_other-via-then-is_other+else-clashes_at, else-is_other-via-else-is_other}

pub returns-then-not-exempts : goal.returns-then-not-exempts
returns-then-not-exempts c =
    covers_there c.args.subject.now c.loop-j.j c.new-pair.result c.new-pair.ensures c.args.self.now _ c.exempts.ensures _ c.args.point.now.origins _
    c.clashes_at.ensures c.region.ensures c.loop-j-test.true c.if-is_other.true c.if-not-exempts.true c.if-clashes_at.true

pub loop-j-preserved : goal.loop-j-preserved
loop-j-preserved c =
    let s = c.args.subject.now in
    let j = c.loop-j.j in
    below_more _ _ c.loop-j.invariant
    (λ boxed. elim c.else-is_other.branch [
      | else-is_other-via-then-is_other+then-clashes_at+else-not-exempts w ↦ not_exempt s j c.new-pair.result c.new-pair.ensures c.args.self.now _ w.exempts.ensures w.if-not-exempts.false boxed.rival
      | else-is_other-via-then-is_other+else-clashes_at w ↦ not_held s j c.new-pair.result c.new-pair.ensures _ c.args.point.now.origins w.clashes_at.ensures w.if-clashes_at.false boxed.held
      | else-is_other-via-else-is_other w ↦ boxed.rival.other w.if-is_other.false
    ])

pub returns : goal.returns
returns c =
    let s = c.args.subject.now in
    false_from _ (decides_shut c.args.self.now s.axes (room_seen s) s.piece (point_of s.axes c.args.point.now.origins))
    (λ (j, known, boxed). c.loop-j.invariant j (omega arith) boxed)
