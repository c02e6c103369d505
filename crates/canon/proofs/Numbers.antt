-- A number that is written is read back.
use Rattle.std.proofs.Common.{◌≡◌, ℕ, suc, ◌<◌, ◌≤◌, true, List, [], ◌∷◌, length, ℤ, pos, neg_ℤ, Some, decimal, ap, ◌∙◌, arith, rules}
use lib.Signed.{mag}
use Rattle.std.specs.Option.{option_map}
use Rattle.std.specs.Fmt.{signed_decimal}
use Rattle.std.specs.List.{AllByRecursion}
use Rattle.std.proofs.lemmas.Fmt.{digits_decimal, digits_value-decimal, length-decimal-le, decimal_nonempty}
use Rattle.std.proofs.ByRecursion.{All-weaker}
use Rattle.std.proofs.lemmas.Str.Parse.{IsNumeralModel, numerals_by_fold}
use Rattle.std.proofs.lemmas.Bool.{cond-true, cond-false, and_from, ne_eqb, le-leb}
use Rattle.text.proofs.Range.{InRange, all_in_range}
use Rattle.text.specs.Numerals.{all_digits, value_after, magnitude, numeral}

own : IsNumeralModel (λ ds. all_digits ds ≡ true) (value_after 0)
own = numerals_by_fold _ (search rules) value_after (search rules)

-- no more than a million from 0
abbrev pub Small : ℤ → Type 0
Small z = mag z ≤ 1000000

module _ (n : ℕ) (h : n ≤ 1000001) where
  few_digits : length (decimal n) ≤ 7
  few_digits = length-decimal-le 7 n (omega arith) (omega arith) (omega arith)

  some_digits : 0 < length (decimal n)
  some_digits = decimal_nonempty n (omega arith)

  digits : all_digits (decimal n) ≡ true
  digits = digits_decimal own n (omega arith)

  magnitude_decimal : magnitude (decimal n) ≡ Some n
  magnitude_decimal =
      cond-true _ _ _ (and_from _ _ (and_from _ _ (le-leb 1 (length (decimal n)) (some_digits)) (le-leb (length (decimal n)) 7 few_digits)) digits)
      ∙ ap Some (digits_value-decimal own n (omega arith))

-- digits alone write a number that is not negative
numeral_digits : (ds : List ℕ) (n : ℕ) → AllByRecursion (InRange 48 57) ds → 0 < length ds → magnitude ds ≡ Some n → numeral ds ≡ Some (pos n)
numeral_digits [] n h some e = absurd (omega arith)
numeral_digits (c ∷ ds) n h some e = cond-false _ _ _ (ne_eqb c 45 (λ k. omega arith)) ∙ ap (option_map pos) e

pub numeral_signed : (z : ℤ) → Small z → numeral (signed_decimal z) ≡ Some z
numeral_signed (pos n) h =
    let k : n ≤ 1000001 = omega arith in
    numeral_digits (decimal n) n (all_in_range 48 57 (decimal n) (digits n k)) (some_digits n k) (magnitude_decimal n k)
numeral_signed (ℤ.negsuc n) h = ap (option_map (λ m. neg_ℤ (pos m))) (magnitude_decimal (suc n) (omega arith))

-- a minus and digits
pub signed_bytes : (z : ℤ) → Small z → AllByRecursion (InRange 45 57) (signed_decimal z)
signed_bytes (pos n) h = All-weaker (InRange 48 57) (InRange 45 57) (λ c k. (omega arith, omega arith)) (decimal n) (all_in_range 48 57 (decimal n) (digits n (omega arith)))
signed_bytes (ℤ.negsuc n) h =
    ((omega arith, omega arith), All-weaker (InRange 48 57) (InRange 45 57) (λ c k. (omega arith, omega arith)) (decimal (suc n)) (all_in_range 48 57 (decimal (suc n)) (digits (suc n) (omega arith))))

pub signed_short : (z : ℤ) → Small z → length (signed_decimal z) ≤ 8
signed_short (pos n) h = omega (arith, few_digits n (omega arith))
signed_short (ℤ.negsuc n) h = omega (arith, few_digits (suc n) (omega arith))
