use Rattle.std.proofs.Common.{ℕ, ◌+◌, ◌-◌, ◌*◌, ◌^◌, ◌<◌, ◌≤◌, get_or, sym, ◌∙◌, arith, pow-add}
use Rattle.std.proofs.Math.Nat.{pow-le-pow_right}
use Rattle.std.proofs.lemmas.Int.{ints}
use Rattle.std.proofs.lemmas.List.{at_drop_more}
use Rattle.text.specs.Numerals.{value_after}
use Rattle.text.proofs.Range.{in_range_at}
use Rattle.text.proofs.numerals.magnitude.Goals as goal

-- fewer than seven digits are read before each digit
room : (i : ℕ) → i < 7 → 10 ^ i ≤ 10 ^ 6
room i h = let k : i ≤ 6 = omega arith in pow-le-pow_right (omega arith) k

pub overflow_mul-n : goal.overflow_mul-n
overflow_mul-n c = omega (arith, ints, room c.loop-d.d-index (omega arith))

pub overflow_add-n : goal.overflow_add-n
overflow_add-n c = omega (arith, ints, room c.loop-d.d-index (omega arith), in_range_at 48 57 c.args.digits.now c.loop-d.d-index (omega arith) (sym c.all_within.ensures ∙ c.if-not-all_within.false))

pub loop-d-preserved : goal.loop-d-preserved
loop-d-preserved c =
    let n = c.loop-d.invariant.0 in
    let i = c.loop-d.d-index in
    let digit = in_range_at 48 57 c.args.digits.now i (omega arith) (sym c.all_within.ensures ∙ c.if-not-all_within.false) in
    let space = room i (omega arith) in (
      n * 10 + (get_or c.args.digits.now i 0 - 48),
      omega (arith, ints),
      omega (arith, pow-add 10 i 1),
      sym (at_drop_more (value_after n) c.args.digits.now i 0 (omega arith)) ∙ c.loop-d.invariant.3,
    )
