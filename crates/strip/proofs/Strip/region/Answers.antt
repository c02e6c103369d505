use Rattle.std.proofs.Common.{arith}
use Rattle.std.proofs.lemmas.Int.{ints, to_z-of_z}
use Rattle.strip.proofs.Strips.{region_box}
use Rattle.strip.proofs.Strip.region.Goals as goal

pub returns : goal.returns
returns c = region_box c.args.self.now c.args.subject.now c.requires c.with_span.result c.record.result.now _ c.record.ensures (grind (arith, ints, to_z-of_z)) (grind (arith, ints, to_z-of_z)) c.with_span.ensures
