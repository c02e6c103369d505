use Rattle.std.proofs.Common.{map, get_or, set, ap, ◌∙◌, arith}
use Rattle.std.proofs.lemmas.List.{take_all}
use Rattle.room.specs.Listed.{listed}
use Rattle.sheet.specs.Lay.{laid, laid_all}
use Rattle.room.specs.Seen.{no_piece}
use Rattle.sheet.proofs.Laying.{piece_more, no_extents}
use Rattle.sheet.proofs.lay.lay_pieces.Goals as goal

pub loop-i-preserved : goal.loop-i-preserved
loop-i-preserved c =
    ap (set c.loop-i.records c.loop-i.i) c.lay_piece.ensures
    ∙ ap (λ es. set c.loop-i.records c.loop-i.i (laid es (get_or c.loop-i.records c.loop-i.i no_piece))) c.as_slice.ensures.items
    ∙ ap (λ rs. set rs c.loop-i.i (laid (listed (get_or c.args.pieces.now c.loop-i.i no_extents)) (get_or rs c.loop-i.i no_piece))) c.loop-i.invariant
    ∙ piece_more (λ es. listed es) c.args.pieces.now c.loop-i.i no_extents c.args.records.now no_piece (omega arith) (omega arith)

pub returns : goal.returns
returns c = c.loop-i.invariant ∙ ap (λ ps. laid_all (map (λ es. listed es) ps) c.args.records.now) (take_all c.loop-i.i c.args.pieces.now (omega arith))
