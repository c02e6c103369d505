use Rattle.std.proofs.Common.{◌≡◌, ◌*◌, ◌-◌, ◌++◌, List, length, ℤ}
use Rattle.room.specs.Listed.{listed}
use Rattle.text.specs.Numerals.{numbers}
use Rattle.text.proofs.Numbers.{put_on}
use Rattle.forms.proofs.Extents.{first_extents}
use Rattle.forms.proofs.piece.PieceLine.extents.Given as goal

-- the lengths read, and the numbers still to read, are all of them
abbrev pub invariant-loop : goal.invariant-loop
invariant-loop l =
    (length (listed l.lengths) ≡ l.counter)
    × (put_on (listed l.lengths) (numbers (3 * l.self.axes - l.counter) l.items) ≡ numbers (3 * l.self.axes) l.fn.items)

-- the lengths, the ends read, and the numbers still to read, are all of them
abbrev pub invariant-loop-length : goal.invariant-loop-length
invariant-loop-length l =
    (ends : List ℤ)
    × (length l.length-items ≡ l.self.axes)
    × (length ends ≡ 2 * l.length-index)
    × (listed l.extents ≡ first_extents l.self.axes (l.length-items ++ ends) l.length-index)
    × (put_on (l.length-items ++ ends) (numbers (2 * l.self.axes - 2 * l.length-index) l.items) ≡ numbers (3 * l.self.axes) l.fn.items)
