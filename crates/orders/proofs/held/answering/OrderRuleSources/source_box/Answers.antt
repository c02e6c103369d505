use Rattle.orders.proofs.Sourcing.{applies_item, shows, there_item}
use Rattle.orders.proofs.held.answering.OrderRuleSources.source_box.Goals as goal

pub invariant_of-applied : goal.invariant_of-applied
invariant_of-applied c =
    let known = there_item c.args.self.now c.args.subject.now c.requires.suits _ c.as_slice.ensures.items c.args.source c.requires.there in
    record { applies = applies_item c.args.self.now c.args.subject.now c.requires.suits _ c.as_slice.ensures.items c.args.source known }

pub returns : goal.returns
returns c = shows c.args.self.now c.args.subject.now c.requires.suits _ c.as_slice.ensures.items c.args.source c.region.result c.span.result _ _ c.region.ensures.shut c.span.ensures c.holds_any.ensures c.then_some.ensures
