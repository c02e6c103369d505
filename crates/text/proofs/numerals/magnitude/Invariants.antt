use Rattle.std.proofs.Common.{◌≡◌, ◌^◌, ◌<◌, ℕ, drop, pos}
use Rattle.text.specs.Numerals.{value_after}
use Rattle.text.proofs.numerals.magnitude.Given as goal

-- the digits read so far write the number n
abbrev pub invariant-loop-d : goal.invariant-loop-d
invariant-loop-d l = (n : ℕ) × (l.n ≡ pos n) × (n < 10 ^ l.d-index) × (value_after n (drop l.d-index l.digits) ≡ value_after 0 l.digits)
