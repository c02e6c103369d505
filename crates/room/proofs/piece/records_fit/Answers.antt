use Rattle.std.proofs.Common.{◌+◌, ◌&&◌, drop, sym, ap, ◌∙◌, arith}
use Rattle.std.proofs.lemmas.List.{at_drop_more, at_drop_all}
use Rattle.room.specs.Fit.{records_fit}
use Rattle.room.proofs.piece.records_fit.Goals as goal

pub returns-then-not-fits : goal.returns-then-not-fits
returns-then-not-fits c =
    sym (sym c.loop-piece.invariant
    ∙ at_drop_more (records_fit c.args.axes) c.args.records.now c.loop-piece.piece-index _ (omega arith)
    ∙ ap (λ b. b && records_fit c.args.axes (drop (c.loop-piece.piece-index + 1) c.args.records.now)) (sym c.if-not-fits.ensures))

pub loop-piece-preserved : goal.loop-piece-preserved
loop-piece-preserved c =
    sym (at_drop_more (records_fit c.args.axes) c.args.records.now c.loop-piece.piece-index _ (omega arith)
    ∙ ap (λ b. b && records_fit c.args.axes (drop (c.loop-piece.piece-index + 1) c.args.records.now)) (sym c.if-not-fits.ensures))
    ∙ c.loop-piece.invariant

pub returns : goal.returns
returns c = sym (at_drop_all (records_fit c.args.axes) c.args.records.now c.loop-piece.piece-index (omega arith)) ∙ c.loop-piece.invariant
