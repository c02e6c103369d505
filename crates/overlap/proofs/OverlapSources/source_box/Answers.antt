use Rattle.rule.specs.Subjects.{room_seen}
use Rattle.overlap.proofs.Paired.{not_exempt, shown_there}
use Rattle.overlap.proofs.Rivals.{source_none}
use Rattle.overlap.proofs.OverlapSources.source_box.Goals as goal
use Rattle.overlap.proofs.OverlapSources.source_box.Goals.{then-is_asked-via-then-is_asked, then-is_asked-via-else-is_asked+then-exempts}

pub returns-then-is_asked : goal.returns-then-is_asked
returns-then-is_asked c =
    let s = c.args.subject.now in
    source_none c.args.self.now s.axes (room_seen s) s.piece c.args.source
    (λ rival met. elim c.then-is_asked.branch [
      | then-is_asked-via-then-is_asked w ↦ rival.other w.if-is_asked.true
      | then-is_asked-via-else-is_asked+then-exempts w ↦ not_exempt s c.args.source c.new-pair.result c.new-pair.ensures c.args.self.now _ w.exempts.ensures w.if-exempts.true rival
    ])

pub returns : goal.returns
returns c =
    shown_there c.args.subject.now c.args.source c.new-pair.result c.new-pair.ensures c.args.self.now _ c.exempts.ensures _ c.record.result.now c.region-region.result _
    c.region-region.ensures c.record.ensures c.meets.ensures c.then_some.ensures c.if-is_asked.false c.if-exempts.false
