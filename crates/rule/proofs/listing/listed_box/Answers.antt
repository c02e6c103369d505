use Rattle.std.proofs.Common.{◌≡◌, ◌<◌, length, sym, ap, ◌∙◌, subst, arith}
use Rattle.std.proofs.lemmas.List.{length_push}
use Rattle.room.specs.Seen.{box_of}
use Rattle.rule.specs.Gathered.{gathered}
use Rattle.rule.specs.Subjects.{room_seen}
use Rattle.rule.specs.Means.{SameBox, box_at}
use Rattle.rule.proofs.Gatherings.{gathered_some, gathered_none, found_at}
use Rattle.rule.proofs.listing.listed_box.Goals as goal
use Rattle.rule.proofs.listing.listed_box.Goals.{in-Some+else-reached, in_default}

pub returns-then-reached : goal.returns-then-reached
returns-then-reached g c =
    let k = c.args.subject.now.axes in
    let source = g.S.Sources.given c.args.rule.now k (room_seen c.args.subject.now) c.args.subject.now.piece in
    let all = g.S.Sources.many c.args.rule.now k (room_seen c.args.subject.now) c.args.subject.now.piece in
    let n = c.loop-source.source in
    let (b, e, same) = c.in-Some.ensures in
    let below : n < all = omega arith in
    let here : length (gathered source n) ≡ c.args.number = omega arith in
    subst (SameBox k (box_of c.in-Some.region)) (sym (ap (box_at (gathered source all)) (sym here) ∙ (found_at source all n b below e).1)) same

pub loop-source-preserved : goal.loop-source-preserved
loop-source-preserved g c =
    let k = c.args.subject.now.axes in
    let source = g.S.Sources.given c.args.rule.now k (room_seen c.args.subject.now) c.args.subject.now.piece in
    let n = c.loop-source.source in
    elim c.match-source_box.branch [
      | in-Some+else-reached w ↦
          let (b, e, same) = w.in-Some.ensures in
          let more = ap length (gathered_some source n b e) ∙ length_push (gathered source n) b in
          omega (arith, w.left-is)
      | in_default w ↦
          let more = ap length (gathered_none source n w.in_default.ensures) in
          omega (arith, w.left-is)
    ]
