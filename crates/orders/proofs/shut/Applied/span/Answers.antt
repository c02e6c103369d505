use Rattle.std.proofs.Common.{arith}
use Rattle.std.proofs.lemmas.Int.{ints, to_z-of_z}
use Rattle.orders.proofs.Boxes.{span_after, span_before}
use Rattle.orders.proofs.shut.Applied.span.Goals as goal

pub returns-then-self : goal.returns-then-self
returns-then-self c =
    let a = c.args.self.now in
    let first = c.first_shut.ensures in
    let value = c.max.ensures.value in
    span_before a.subject a.entry.now a.applies c.record.result.now _ c.record.ensures c.if-self.true (grind (arith, ints, to_z-of_z)) (grind arith)

pub returns-else-self : goal.returns-else-self
returns-else-self c =
    let a = c.args.self.now in
    let last = c.last_shut.ensures in
    let value = c.min.ensures.value in
    span_after a.subject a.entry.now a.applies c.record.result.now _ c.record.ensures c.if-self.false (grind arith) (grind (arith, ints, to_z-of_z))
