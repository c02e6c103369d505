use Rattle.std.proofs.Common.{◌≡◌, true, length, take, sym, ap, ◌∙◌, subst, arith}
use Rattle.std.proofs.lemmas.List.{take_all}
use Rattle.std.proofs.lemmas.Result.{err_from_is_err_and}
use Rattle.std.proofs.lemmas.Bool.{cond-true}
use Rattle.room.specs.Listed.{listed}
use Rattle.orders.specs.Named.{all_refusal, orders_legal}
use Rattle.orders.specs.Entries.{entries_of}
use Rattle.orders.proofs.Grouping.{refused_all}
use Rattle.orders.proofs.held.adding.OrderRuleTryFromRefOrders.try_from.Goals as goal

pub returns-in_err-add : goal.returns-in_err-add
returns-in_err-add c =
    let p = err_from_is_err_and c.from_residual.result c.from_residual.ensures.1 in
    let items = c.as_slice-order-items.result.now in
    let i = c.loop-order.order-index in
    let same = c.as_slice-order-items.ensures.items in
    rw (p.1, p.2)
    (ap all_refusal (sym same)
    ∙ refused_all items i c.in_err-add.field-0.0 (entries_of c.loop-order.rule) (omega arith) c.as_slice-order-items.ensures.bound (c.loop-order.invariant ∙ ap (take i) (sym same)) c.in_err-add.ensures.added.0)

pub returns : goal.returns
returns c =
    let orders = listed c.args.orders.now in
    let same : entries_of c.loop-order.rule ≡ orders = c.loop-order.invariant ∙ take_all _ orders (omega (arith, ap length c.as_slice-order-items.ensures.items)) in
    (cond-true _ _ _ (subst (λ l. orders_legal l ≡ true) same c.loop-order.rule.legal), same)
