use Rattle.std.proofs.lemmas.Bool.{ltb-true}
use Rattle.strip.proofs.Strips.{shows}
use Rattle.strip.proofs.StripSources.source_box.Goals as goal

pub returns : goal.returns
returns c = shows c.args.self.now c.args.subject.now (ltb-true _ _ c.requires.suits) c.args._source c.record.result.now c.region-region.result c.meets.result _ c.record.ensures c.region-region.ensures c.meets.ensures c.then_some.ensures
