use Rattle.std.proofs.Common.{arith}
use Rattle.std.proofs.lemmas.Bool.Decides.{Decides-at}
use Rattle.room.proofs.Cuts.{decides_spans_meet}
use Rattle.room.proofs.region.Region.meets.Goals as goal

pub returns : goal.returns
returns c = Decides-at _ _ c.spans_meet.ensures (decides_spans_meet c.args.axes c.args.self.now c.args.bounds.now (omega arith))
