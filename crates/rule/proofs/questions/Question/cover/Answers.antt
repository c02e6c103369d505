use Rattle.std.proofs.Common.{refl, ◌∙◌}
use Rattle.std.proofs.lemmas.Bool.{cond-false, cond-true}
use Rattle.room.specs.Seen.{box_of, point_of, room_of}
use Rattle.rule.specs.Means.{Covered}
use Rattle.rule.proofs.Ready.{held_first, moved, within_first}
use Rattle.rule.proofs.questions.Question.cover.Goals as goal

pub cover-requires : goal.cover-requires
cover-requires g c = record {
  suits = c.in_ok-subject.ensures.suits;
  within = within_first _ c.args.self.now c.in_ok-subject.subject c.in_ok-subject.ensures c.args.point.now.origins c.record.result.now (box_of c.bounds.result) c.record.ensures c.bounds.ensures (c.if-holds.ensures.0 refl);
}

pub returns-then-holds : goal.returns-then-holds
returns-then-holds g c =
    let shut = g.R.Rule.shut c.args.rule.now in
    let origins = c.args.point.now.origins in
    let ready = c.in_ok-subject.ensures in
    let held = held_first _ c.args.self.now c.in_ok-subject.subject ready origins c.record.result.now (box_of c.bounds.result) c.holds.result c.record.ensures c.bounds.ensures c.holds.ensures in (
      ready.passes _ ∙ cond-true _ _ _ (held ∙ c.if-holds.true),
      moved _ c.args.self.now c.in_ok-subject.subject ready (λ k rs p. Covered k (room_of k rs) p (shut k (room_of k rs) p) (point_of k origins) c.cover.result) c.cover.ensures,
    )

pub returns-else-holds : goal.returns-else-holds
returns-else-holds g c =
    let ready = c.in_ok-subject.ensures in
    let held = held_first _ c.args.self.now c.in_ok-subject.subject ready c.args.point.now.origins c.record.result.now (box_of c.bounds.result) c.holds.result c.record.ensures c.bounds.ensures c.holds.ensures in
    ready.passes _ ∙ cond-false _ _ _ (held ∙ c.if-holds.false)
