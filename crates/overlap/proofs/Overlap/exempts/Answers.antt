use Rattle.std.proofs.Common.{Decides, sym, subst}
use Rattle.std.proofs.lemmas.Bool.Decides.{Decides-at}
use Rattle.overlap.specs.Pairs.{PairExempt}
use Rattle.overlap.proofs.Paired.{decides_has_zero}
use Rattle.overlap.proofs.Overlap.exempts.Goals as goal

pub returns-in-Nonstrict : goal.returns-in-Nonstrict
returns-in-Nonstrict c =
    subst (λ mode. Decides c.has_zero.result (PairExempt mode c.args.pair.now)) (sym c.in-Nonstrict.is)
    (Decides-at _ _ c.has_zero.ensures (decides_has_zero c.args.pair.now))
