use Rattle.std.proofs.Common.{◌+◌, ◌-◌, ◌++◌, ◌∷◌, [], take, ap, ◌∙◌, arith, w32, SFits, rules}
use Rattle.std.proofs.lemmas.Int.{to_z-of_z}
use Rattle.std.proofs.lemmas.List.{length-set, take_more_set}
use Rattle.text.specs.Numerals.{numbers}
use Rattle.text.proofs.Numbers.{put_on, taken}
use Rattle.text.proofs.items.Items.numbers.Goals as goal

pub loop-number-preserved : goal.loop-number-preserved
loop-number-preserved g c =
    let i = c.loop-number.number-index in
    let zs = c.loop-number.number-items in
    let z = c.in_ok-number.field-0 in
    let f : SFits w32 z = search rules in
    simp to_z-of_z (
      length-set zs i z ∙ c.loop-number.invariant.0,
      ap (λ ys. put_on ys (numbers (g.row.N - (i + 1)) c.number.new.self)) (take_more_set zs i z (omega arith))
          ∙ ap (λ left. put_on (take i zs ++ z ∷ []) (numbers (g.row.N - (i + 1)) left)) c.number.ensures.rest
          ∙ taken (take i zs) z (g.row.N - i) (g.row.N - (i + 1)) c.loop-number.self (omega arith) c.in_ok-number.ensures.number
          ∙ c.loop-number.invariant.1,
    )
