use Rattle.std.proofs.Common.{◌≡◌, ℕ, Bool, true, false, rules, tests, slice_index_or}
use Rattle.std.proofs.lemmas.Iterator.{first_from_Range}
use Rattle.room.specs.declared.walls.Cell.TheVariants.{Open}
use Rattle.walls.specs.Walled.{is_wall}
use Rattle.walls.proofs.wall_in_row.Goals as goal

pub returns : goal.returns
returns c =
    let there : ℕ → Bool = λ column. is_wall (slice_index_or c.args.cells.now column Open) in
    first_from_Range _ _ _ _ (λ column. there column ≡ true) (λ column. there column ≡ false) c.find.ensures.ran (λ x q k. search (rules, tests)) (λ x q k. search (rules, tests))
