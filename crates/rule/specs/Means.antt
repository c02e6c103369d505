-- What the answers of a rule mean. Which points of a piece are shut is given as a test of points.
use Rattle.std.specs.Prelude.{◌≡◌, ℕ, ◌<◌, Bool, true, false, cond, List, length, pos, neg_ℤ, ◌≤ℤ◌, Some, None, Option, MatchOption, nat_le, slice_index_or}
use Rattle.room.specs.Seen.{Room, Point, Box, Within, Holds, box_of}
use Rattle.room.specs.declared.region.Region.{Region}

-- box ends lie within plus and minus this
abbrev pub max_box_end : ℕ
max_box_end = 2000000

pub record EndsFit (k : ℕ) (b : Box) : Type 0 where
  pub least : (d : ℕ) → d < k → neg_ℤ (pos max_box_end) ≤ℤ b.from d
  pub most : (d : ℕ) → d < k → b.to d ≤ℤ pos max_box_end

-- every point of the box within the bounds of the piece is shut
abbrev pub Shuts : ℕ → Room → ℕ → (Point → Bool) → Box → Type 0
Shuts k r p shut b = (y : Point) → Within k r p y → Holds k b y → shut y ≡ true

-- a box that answers for a shut point
pub record Covers (k : ℕ) (r : Room) (p : ℕ) (shut : Point → Bool) (x : Point) (b : Box) : Type 0 where
  pub holds : Holds k b x
  pub shuts : Shuts k r p shut b
  pub ends : EndsFit k b

-- a right answer for a point: nothing exactly where it is not shut, otherwise a box
abbrev pub Covered : ℕ → Room → ℕ → (Point → Bool) → Point → Option Region → Type 0
Covered k r p shut x answer = MatchOption answer (shut x ≡ false) (λ region. Covers k r p shut x (box_of region))

abbrev pub no_box : Box
no_box = record { from = λ _. pos 0; to = λ _. pos 0 }

-- a box of a list at its number
abbrev pub box_at : List Box → ℕ → Box
box_at boxes i = slice_index_or boxes i no_box

-- a box that may stand in the list of a piece: it holds a shut point, and no point that is not
pub record ListsBox (k : ℕ) (r : Room) (p : ℕ) (shut : Point → Bool) (b : Box) : Type 0 where
  pub shuts : Shuts k r p shut b
  pub some : (x : Point) × Within k r p x × Holds k b x
  pub ends : EndsFit k b

-- a right list of boxes: each is right, and every shut point is in one of them
pub record Lists (k : ℕ) (r : Room) (p : ℕ) (shut : Point → Bool) (boxes : List Box) : Type 0 where
  pub each : (i : ℕ) → i < length boxes → ListsBox k r p shut (box_at boxes i)
  pub every : (x : Point) → Within k r p x → shut x ≡ true → (i : ℕ) × (i < length boxes) × Holds k (box_at boxes i) x

-- boxes are counted up to this
abbrev pub max_listed : ℕ
max_listed = 1000000000

abbrev pub counted : ℕ → Option ℕ
counted n = cond (nat_le n max_listed) (Some n) None

-- two boxes have the same ends on the axes of the board
pub record SameBox (k : ℕ) (b c : Box) : Type 0 where
  pub from_same : (d : ℕ) → d < k → b.from d ≡ c.from d
  pub to_same : (d : ℕ) → d < k → b.to d ≡ c.to d
