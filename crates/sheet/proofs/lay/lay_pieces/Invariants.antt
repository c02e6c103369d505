use Rattle.std.proofs.Common.{◌≡◌, map, take}
use Rattle.room.specs.Listed.{listed}
use Rattle.sheet.specs.Lay.{laid_all}
use Rattle.sheet.proofs.lay.lay_pieces.Given as goal

abbrev pub invariant-loop-i : goal.invariant-loop-i
invariant-loop-i l = l.records ≡ laid_all (map (λ es. listed es) (take l.i l.pieces)) l.initial.records
