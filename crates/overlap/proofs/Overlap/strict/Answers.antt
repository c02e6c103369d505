use Rattle.std.proofs.Common.{refl}
use Rattle.overlap.specs.declared.Overlap.TheVariants.{Strict}
use Rattle.overlap.specs.Clashing.{shuts_blocked}
use Rattle.overlap.proofs.Parted.{strict_kept}
use Rattle.overlap.proofs.Overlap.strict.Goals as goal

pub returns : goal.returns
returns c = record { rule = refl; means = shuts_blocked Strict; kept = strict_kept }
