use Rattle.std.proofs.Common.{string_bytes, w32, SFits, rules}
use Rattle.std.proofs.lemmas.Int.{to_z-of_z}
use Rattle.room.specs.Seen.{highs, lows}
use Rattle.shade.specs.Picture.{range_text}
use Rattle.shade.proofs.Joining.{joined_next}
use Rattle.shade.proofs.canvas.Canvas.put_ranges.Goals as goal

pub loop-axis-preserved : goal.loop-axis-preserved
loop-axis-preserved g c =
    let low : SFits w32 (lows c.args.region.now c.loop-axis.axis) = search rules in
    let high : SFits w32 (highs c.args.region.now c.loop-axis.axis) = search rules in
    joined_next (range_text (lows c.args.region.now) (highs c.args.region.now)) (string_bytes c.args.out.now) (string_bytes c.loop-axis.out) (string_bytes c.write.new.self) c.loop-axis.axis c.loop-axis.invariant
    (simp to_z-of_z at c.in_ok-write.ensures.bytes)
