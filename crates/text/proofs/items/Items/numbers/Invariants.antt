use Rattle.std.proofs.Common.{◌≡◌, ◌-◌, length, take}
use Rattle.text.specs.Numerals.{numbers}
use Rattle.text.proofs.Numbers.{put_on}
use Rattle.text.proofs.items.Items.numbers.Given as goal

-- the numbers found, and those still to take, are all of them
abbrev pub invariant-loop-number : goal.invariant-loop-number
invariant-loop-number g l =
    (length l.number-items ≡ g.row.N)
    × (put_on (take l.number-index l.number-items) (numbers (g.row.N - l.number-index) l.self) ≡ numbers g.row.N l.fn.self)
