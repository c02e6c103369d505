use Rattle.std.proofs.Common.{◌≡◌, drop}
use Rattle.room.specs.Fit.{records_fit}
use Rattle.room.proofs.piece.records_fit.Given as goal

abbrev pub invariant-loop-piece : goal.invariant-loop-piece
invariant-loop-piece l = records_fit l.axes (drop l.piece-index l.records) ≡ records_fit l.axes l.records
