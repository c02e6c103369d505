-- Boxes that come from numbered sources, each of which gives one or none.
use Rattle.std.specs.Prelude.{◌≡◌, ℕ, zero, suc, ◌<◌, Bool, true, List, [], ◌++◌, Some, None, Option, MatchOption}
use Rattle.std.specs.Option.{option_to_list}
use Rattle.room.specs.Seen.{Room, Point, Box, Within, Holds, box_of}
use Rattle.room.specs.declared.region.Region.{Region}
use Rattle.rule.specs.Means.{ListsBox, SameBox}

-- the boxes of the sources below n, in order
abbrev pub gathered : (ℕ → Option Box) → ℕ → List Box
gathered source zero = []
gathered source (suc n) = gathered source n ++ option_to_list (source n)

-- an answer shows a box on the axes of the board, or that there is none
abbrev pub Shows : ℕ → Option Box → Option Region → Type 0
Shows k found answer = MatchOption answer (found ≡ None) (λ region. (b : Box) × (found ≡ Some b) × SameBox k (box_of region) b)

-- sources below n that give a right list: each box is right, and every shut point is in the box of some source
pub record Sound (k : ℕ) (r : Room) (p : ℕ) (shut : Point → Bool) (source : ℕ → Option Box) (n : ℕ) : Type 0 where
  pub each : (j : ℕ) (b : Box) → j < n → source j ≡ Some b → ListsBox k r p shut b
  pub every : (x : Point) → Within k r p x → shut x ≡ true → (j : ℕ) × (b : Box) × (j < n) × (source j ≡ Some b) × Holds k b x
