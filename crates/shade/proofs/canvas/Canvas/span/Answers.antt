use Rattle.std.proofs.Common.{ap}
use Rattle.room.specs.Seen.{highs, lows}
use Rattle.shade.proofs.Spanning.{spans_below, spans_past}
use Rattle.shade.proofs.canvas.Canvas.span.Goals as goal

pub returns-then-axis-self : goal.returns-then-axis-self
returns-then-axis-self g c =
    let subject = c.args.self.now.subject in
    spans_below subject.axes subject.records.now subject.piece c.args.axis _ _ subject.board subject.known c.if-axis-self.true (ap (λ r. lows r.present c.args.axis) c.record.ensures) (ap (λ r. highs r.present c.args.axis) c.record.ensures)

pub returns-else-axis-self : goal.returns-else-axis-self
returns-else-axis-self g c = let subject = c.args.self.now.subject in spans_past subject.axes subject.records.now subject.piece c.args.axis c.if-axis-self.false
