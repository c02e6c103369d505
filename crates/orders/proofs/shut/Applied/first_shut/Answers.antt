use Rattle.std.proofs.Common.{arith}
use Rattle.std.proofs.lemmas.Int.{ints}
use Rattle.orders.proofs.Boxes.{high_seen, size_seen}
use Rattle.orders.proofs.shut.Applied.first_shut.Goals as goal

pub returns : goal.returns
returns c =
    let a = c.args.self.now in
    let size = size_seen a.subject a.entry.now a.applies in
    let high = high_seen a.subject a.entry.now a.applies a.entry.now.after in
    omega (arith, ints)

pub overflow_add-result : goal.overflow_add-result
overflow_add-result c = omega (arith, ints)
