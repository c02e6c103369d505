use Rattle.std.proofs.Common.{⊎_elim, arith}
use Rattle.std.proofs.lemmas.Bool.{cases_lt}
use Rattle.std.proofs.lemmas.Int.{ints}
use Rattle.walls.proofs.Seeing.{read}
use Rattle.walls.proofs.covered.Goals as goal

pub overflow_add-origin : goal.overflow_add-origin
overflow_add-origin c =
    let seen = read c.args.subject.now c.args.axis c.record.result.now c.args.point.now.origins c.requires.axis c.record.ensures c.requires.within in
    omega (arith, ints)

pub returns-clause-cells : goal.returns-clause-cells
returns-clause-cells c cell here =
    let seen = read c.args.subject.now c.args.axis c.record.result.now c.args.point.now.origins c.requires.axis c.record.ensures c.requires.within in
    let from = c.cells_below.ensures in
    let to = c.cells_below-2.ensures in (
      λ spans. (
        ⊎_elim (λ before. let e = from.below cell before in absurd (omega (arith, ints))) (λ in_it. in_it) (cases_lt cell c.cells_below.result),
        ⊎_elim (λ in_it. in_it) (λ past. let e = to.rest cell here past in absurd (omega (arith, ints))) (cases_lt cell c.cells_below-2.result),
      ),
      λ among.
          let first = from.rest cell here among.0 in
          let last = to.below cell among.1 in
          record { first = omega (arith, ints); last = omega (arith, ints) },
    )
