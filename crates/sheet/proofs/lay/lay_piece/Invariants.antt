use Rattle.std.proofs.Common.{◌≡◌, take}
use Rattle.sheet.specs.Lay.{laid}
use Rattle.sheet.proofs.lay.lay_piece.Given as goal

abbrev pub invariant-loop-axis : goal.invariant-loop-axis
invariant-loop-axis l = l.piece ≡ laid (take l.axis l.extents) l.initial.piece
