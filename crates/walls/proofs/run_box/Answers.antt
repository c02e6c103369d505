use Rattle.std.proofs.Common.{◌≡◌, arith, to_z, of_z, w32}
use Rattle.std.proofs.lemmas.Int.{ints}
use Rattle.room.specs.Seen.{on_axis}
use Rattle.walls.specs.Drawn.{length_seen}
use Rattle.walls.proofs.Seeing.{length_read}
use Rattle.walls.proofs.run_box.Goals as goal

pub returns : goal.returns
returns c =
    let s = c.args.subject.now in
    let width : to_z w32 (of_z w32 (on_axis c.record.result.now.lengths 0)) ≡ length_seen s 0 = omega (arith, ints, length_read s 0 c.record.result.now (omega arith) c.record.ensures) in
    let height : to_z w32 (of_z w32 (on_axis c.record.result.now.lengths 1)) ≡ length_seen s 1 = omega (arith, ints, length_read s 1 c.record.result.now (omega arith) c.record.ensures) in
    cc
