use Rattle.std.proofs.Common.{sym, ◌∙◌, arith}
use Rattle.rule.proofs.Pairs.{lists_both, sum_counted, sum_small, too_many_left, too_many_right}
use Rattle.rule.proofs.both.BothRule.count.Goals as goal

pub returns-in_err-one : goal.returns-in_err-one
returns-in_err-one g c = record {
  number = c.from_residual.ensures ∙ too_many_left _ _ c.in_err-one.ensures.number;
  lists = lists_both _ _ _ _ _ _ _ c.count-one.ensures.lists c.count-two.ensures.lists;
}

pub returns-in_err-all : goal.returns-in_err-all
returns-in_err-all g c = record {
  number = c.from_residual-in_err-all.ensures ∙ too_many_right _ _ (sym c.in_err-all.was ∙ c.count-two.ensures.number);
  lists = lists_both _ _ _ _ _ _ _ c.count-one.ensures.lists c.count-two.ensures.lists;
}

pub overflow_add-all : goal.overflow_add-all
overflow_add-all g c =
    let small = sum_small _ _ _ _ (sym c.in_ok-one.was ∙ c.count-one.ensures.number) (sym c.in_ok-all.was ∙ c.count-two.ensures.number) in
    omega arith

pub returns : goal.returns
returns g c = record {
  number = c.then_some.ensures ∙ sum_counted _ _ _ _ (sym c.in_ok-one.was ∙ c.count-one.ensures.number) (sym c.in_ok-all.was ∙ c.count-two.ensures.number);
  lists = lists_both _ _ _ _ _ _ _ c.count-one.ensures.lists c.count-two.ensures.lists;
}
