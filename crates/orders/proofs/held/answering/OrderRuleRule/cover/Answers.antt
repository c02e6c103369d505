use Rattle.std.proofs.Common.{refl, below_more}
use Rattle.std.proofs.lemmas.Bool.{both_ways}
use Rattle.room.specs.Seen.{point_of}
use Rattle.orders.proofs.Sourcing.{applies_item, covers, none_holds, not_held}
use Rattle.orders.proofs.held.answering.OrderRuleRule.cover.Goals as goal

pub invariant_of-applied : goal.invariant_of-applied
invariant_of-applied c = record { applies = applies_item c.args.self.now c.args.subject.now c.requires.suits _ c.as_slice-entry-items.ensures.items c.loop-entry.entry-index c.loop-entry-test.true }

pub returns-then-holds : goal.returns-then-holds
returns-then-holds c = covers c.args.self.now c.args.subject.now c.requires.suits _ c.as_slice-entry-items.ensures.items c.loop-entry.entry-index c.region-region.result _ c.loop-entry-test.true c.region-region.ensures.shut (c.if-holds.ensures.0 refl)

pub loop-entry-preserved : goal.loop-entry-preserved
loop-entry-preserved c =
    let s = c.args.subject.now in
    below_more _ _ c.loop-entry.invariant
    (not_held c.args.self.now s c.requires.suits _ c.as_slice-entry-items.ensures.items c.loop-entry.entry-index c.region-region.result (point_of s.axes c.args.point.now.origins) c.region-region.ensures.shut (λ held. both_ways _ c.if-holds.false (c.holds.ensures.1 held)))

pub returns : goal.returns
returns c = none_holds c.args.self.now c.args.subject.now c.requires.suits _ c.as_slice-entry-items.ensures.items c.loop-entry.entry-index _ c.loop-entry-test.false c.requires.within c.loop-entry.invariant
