use Rattle.std.proofs.Common.{arith}
use Rattle.std.proofs.lemmas.Int.{ints}
use Rattle.orders.proofs.Boxes.{low_seen, size_seen}
use Rattle.orders.proofs.shut.Applied.last_shut.Goals as goal

pub returns : goal.returns
returns c =
    let a = c.args.self.now in
    let size = size_seen a.subject a.entry.now a.applies in
    let low = low_seen a.subject a.entry.now a.applies a.entry.now.before in
    omega (arith, ints)
