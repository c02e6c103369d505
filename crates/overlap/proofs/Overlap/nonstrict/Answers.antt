use Rattle.std.proofs.Common.{refl}
use Rattle.overlap.specs.declared.Overlap.TheVariants.{Nonstrict}
use Rattle.overlap.specs.Clashing.{shuts_blocked}
use Rattle.overlap.proofs.Parted.{nonstrict_kept}
use Rattle.overlap.proofs.Overlap.nonstrict.Goals as goal

pub returns : goal.returns
returns c = record { rule = refl; means = shuts_blocked Nonstrict; kept = nonstrict_kept }
