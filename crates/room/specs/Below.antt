-- A test of the numbers below n: all of them pass, or some of them.
use Rattle.std.specs.Prelude.{ℕ, Bool}
use Rattle.std.specs.List.{list_all, list_any, range_with_len}

abbrev pub all_below : (ℕ → Bool) → ℕ → Bool
all_below f n = list_all f (range_with_len 0 n)

abbrev pub any_below : (ℕ → Bool) → ℕ → Bool
any_below f n = list_any f (range_with_len 0 n)
