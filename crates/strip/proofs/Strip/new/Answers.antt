use Rattle.std.proofs.Common.{w32, SFits}
use Rattle.std.proofs.lemmas.Int.{to_z-of_z}
use Rattle.strip.proofs.Strips.{strip_kept}
use Rattle.strip.proofs.Strip.new.Goals as goal

pub returns : goal.returns
returns c =
    let from_fits : SFits w32 c.args.from = c.ranges.from in
    let to_fits : SFits w32 c.args.to = c.ranges.to in
    record { held = simp to_z-of_z; kept = strip_kept _ }
