use Rattle.std.proofs.Common.{get_or, ap, ◌∙◌, arith}
use Rattle.std.proofs.lemmas.List.{take_all}
use Rattle.sheet.specs.Lay.{laid, axis_laid}
use Rattle.sheet.proofs.Laying.{axis_more, no_extent}
use Rattle.sheet.proofs.lay.lay_piece.Goals as goal

pub loop-axis-preserved : goal.loop-axis-preserved
loop-axis-preserved c = c.lay_axis.ensures ∙ ap (λ p. axis_laid c.loop-axis.axis (get_or c.args.extents.now c.loop-axis.axis no_extent) p) c.loop-axis.invariant ∙ axis_more c.args.extents.now c.loop-axis.axis no_extent c.args.piece.now (omega arith)

pub returns : goal.returns
returns c = c.loop-axis.invariant ∙ ap (λ es. laid es c.args.piece.now) (take_all c.loop-axis.axis c.args.extents.now (omega arith))
