use Rattle.std.proofs.Common.{◌≡◌, ◌-◌, take, length, refl, sym, ap, ◌∙◌, subst, arith}
use Rattle.std.proofs.lemmas.List.{length-take-le}
use Rattle.room.specs.Fit.{Board, records_fit}
use Rattle.rule.proofs.Ready.{board_is, passed}
use Rattle.rule.proofs.questions.Question.subject.Goals as goal

pub invariant_of-result : goal.invariant_of-result
invariant_of-result g c =
    let q = c.args.self.now in
    let front : take q.pieces q.records.now ≡ take (q.pieces - 0) q.records.now = ap (λ i. take i q.records.now) (omega arith) in
    record {
      board = subst (Board q.axes) front (board_is q.axes q.pieces q.records.now (sym c.if-not-is_board_range.ensures) c.if-records-pieces.false (ap (records_fit q.axes) front ∙ sym c.if-not-records_fit.ensures));
      known = omega (arith, ap length front, length-take-le q.pieces q.records.now c.if-records-pieces.false);
    }

pub returns : goal.returns
returns g c =
    let q = c.args.self.now in
    let suited = g.R.Rule.suited c.args.rule.now in
    let front : take (q.pieces - 0) q.records.now ≡ take q.pieces q.records.now = ap (λ i. take i q.records.now) (omega arith) in
    record {
      axes = refl;
      first = front;
      piece = refl;
      suits = ap (suited q.axes) (ap length front ∙ length-take-le q.pieces q.records.now c.if-records-pieces.false) ∙ sym c.if-not-suits.ensures;
      passes = passed q.axes q.pieces q.records.now (sym c.if-not-is_board_range.ensures) c.if-records-pieces.false (ap (records_fit q.axes) (sym front) ∙ sym c.if-not-records_fit.ensures) suited q.piece (sym c.if-not-suits.ensures) c.if-piece-pieces.false;
    }
