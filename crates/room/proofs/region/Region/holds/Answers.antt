use Rattle.std.proofs.Common.{arith}
use Rattle.std.proofs.lemmas.Bool.Decides.{Decides-at}
use Rattle.room.proofs.Cuts.{decides_spans_hold}
use Rattle.room.proofs.region.Region.holds.Goals as goal

pub returns : goal.returns
returns c = Decides-at _ _ c.spans_hold.ensures (decides_spans_hold c.args.axes c.args.self.now c.args.point.now.origins (omega arith))
