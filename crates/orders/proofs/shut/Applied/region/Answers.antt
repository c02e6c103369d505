use Rattle.std.proofs.Common.{arith}
use Rattle.std.proofs.lemmas.Bool.Decides.{nat_tests}
use Rattle.orders.proofs.Boxes.{region_box}
use Rattle.orders.proofs.shut.Applied.region.Goals as goal

pub returns : goal.returns
returns c =
    let a = c.args.self.now in
    record {
      shut = region_box a.subject a.entry.now a.applies c.with_span.result c.record.result.now c.span.result c.record.ensures c.span.ensures c.with_span.ensures;
      past = λ d past. let on = a.applies.suits.axis_in in let at = c.with_span.ensures d in let same = c.record.ensures in grind (arith, nat_tests);
    }
