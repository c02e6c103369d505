use Rattle.std.proofs.Common.{◌≡◌, ◌+◌, ◌-◌, suc, true, nat_lt, map, length, arith}
use Rattle.std.proofs.lemmas.List.{map_push, length_push, append-nil}
use Rattle.std.proofs.lemmas.Result.{err_from_is_err_and}
use Rattle.std.proofs.lemmas.Bool.{lt-ltb}
use Rattle.room.specs.Listed.{listed}
use Rattle.sheet.proofs.Saying.{put_on_more, after_after}
use Rattle.sheet.proofs.walk.Lines.read_each.Goals as goal

pub returns-in_err-read-clause-say : goal.returns-in_err-read-clause-say
returns-in_err-read-clause-say g c =
    let refused = err_from_is_err_and c.from_residual.result c.from_residual.ensures.1 in
    let more : c.args.count - c.loop.counter ≡ suc (c.args.count - (c.loop.counter + 1)) = omega arith in
    rw (refused.1, refused.2, ← c.loop.invariant.all, more, ← c.in_err-read.ensures.says)

pub loop-preserved : goal.loop-preserved
loop-preserved g c =
    let more : c.args.count - c.loop.counter ≡ suc (c.args.count - (c.loop.counter + 1)) = omega arith in
    let room : nat_lt (length (listed c.loop.items)) g.row.N ≡ true = lt-ltb _ _ (omega (arith, c.loop.invariant.items)) in
    let items = rw (c.push.ensures.fits, room) at c.push.ensures.items in
    record {
      items = rw (items, length_push, c.loop.invariant.items);
      left = rw (c.in_ok-read.ensures.left, c.loop.invariant.left, after_after 1 c.loop.counter c.args.self.now);
      all = rw (items, map_push, c.in_ok-read.ensures.left, ← c.loop.invariant.all, more, ← c.in_ok-read.ensures.says) (put_on_more (map g.L.LineForm.denotes (listed c.loop.items)) (g.L.LineForm.denotes c.in_ok-read.field-0) _);
    }

pub returns-clause-say : goal.returns-clause-say
returns-clause-say g c =
    let none : c.args.count - c.loop.counter ≡ 0 = omega arith in
    rw (← c.loop.invariant.all, none, append-nil)
