use Rattle.std.proofs.Common.{◌≡◌, cond, ltb, [], ◌∷◌, ◌++◌, length, ap, ◌∙◌, arith, rules}
use Rattle.room.specs.Listed.{listed}
use Rattle.forms.proofs.Cells.{cells_again, push_within}
use Rattle.forms.proofs.wall.cells.Goals as goal

pub loop-letter-preserved : goal.loop-letter-preserved
loop-letter-preserved c =
    let done = c.loop-letter.invariant.0 in
    let row = listed c.loop-letter.row in
    let x = c.in_ok-cell.field-0 in
    let pushed : listed c.push.new.self ≡ cond (ltb (length row) 64) (row ++ x ∷ []) row = search rules in (
      done ++ x ∷ [],
      pushed ∙ ap (λ xs. cond (ltb (length xs) 64) (xs ++ x ∷ []) xs) c.loop-letter.invariant.1 ∙ push_within 64 done x,
      cells_again done c.args.letters.now c.loop-letter.letter-index x (omega arith) c.in_ok-cell.ensures ∙ c.loop-letter.invariant.2,
    )
