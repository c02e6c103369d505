use Rattle.std.proofs.Common.{arith}
use Rattle.std.proofs.lemmas.Int.{ints, to_z-of_z}
use Rattle.std.proofs.lemmas.Bool.{ltb-true}
use Rattle.strip.proofs.Strips.{covered}
use Rattle.strip.proofs.StripRule.cover.Goals as goal

pub returns : goal.returns
returns c =
    let test = c.holds.ensures in
    covered c.args.self.now c.args.subject.now (ltb-true _ _ c.requires.suits) c.args.point.now.origins c.holds.result c.region.result _ c.requires.within (grind (arith, ints, to_z-of_z)) c.region.ensures c.then_some.ensures
