-- What it shuts that no two pieces may overlap.
use Rattle.std.specs.Prelude.{◌≡◌, ℕ, ◌<◌, Bool, false, cond, not, ◌&&◌, ◌||◌, ◌⊎◌, ℤ, pos, ◌+ℤ◌, ◌-ℤ◌, ◌≤ℤ◌, ◌<ℤ◌, Some, None, Decides, Option, ◌==◌, int_le}
use Rattle.room.specs.Below.{any_below}
use Rattle.room.specs.Seen.{Room, Point, Box, Within, holds, meets}
use Rattle.overlap.specs.declared.Overlap.{Overlap}
use Rattle.overlap.specs.declared.Overlap.TheVariants.{Strict, Nonstrict}

abbrev pub is_zero : ℤ → Bool
is_zero z = int_le z (pos 0) && int_le (pos 0) z

-- a pair that never clashes: under nonstrict, one with a length 0 on any axis
abbrev pub exempt : Overlap → ℕ → Room → ℕ → ℕ → Bool
exempt Strict k r i j = false
exempt Nonstrict k r i j = any_below (λ d. is_zero (r.size i d) || is_zero (r.size j d)) k

-- the origins of i that clash with j wherever j lies within its bounds, if the pair can clash
abbrev pub clash_box : Room → ℕ → ℕ → Box
clash_box r i j = record { from = λ d. (r.high j d -ℤ r.size i d) +ℤ pos 1; to = λ d. (r.low j d +ℤ r.size j d) -ℤ pos 1 }

abbrev pub rivals : Overlap → ℕ → Room → ℕ → ℕ → Bool
rivals mode k r i j = not (j == i) && not (exempt mode k r i j)

-- a point of i is shut when it lies in the box of some other piece
unfoldable pub overlap_shut : Overlap → ℕ → Room → ℕ → Point → Bool
overlap_shut mode k r i x = any_below (λ j. rivals mode k r i j && holds k (clash_box r i j) x) r.count

-- the box that piece j gives for piece i: listed where it holds an origin within i's bounds
unfoldable pub clash_source : Overlap → ℕ → Room → ℕ → ℕ → Option Box
clash_source mode k r i j = cond (rivals mode k r i j && meets k (clash_box r i j) (r.low i) (r.high i)) (Some (clash_box r i j)) None

-- in the subject's words: i at x and j at y clash
abbrev pub Exempt : Overlap → ℕ → Room → ℕ → ℕ → Type 0
Exempt Strict k r i j = ⊥
Exempt Nonstrict k r i j = (d : ℕ) × (d < k) × ((r.size i d ≡ pos 0) ⊎ (r.size j d ≡ pos 0))

pub record Clashes (mode : Overlap) (k : ℕ) (r : Room) (i j : ℕ) (x y : Point) : Type 0 where
  pub can : Exempt mode k r i j → ⊥
  pub overlap : (d : ℕ) → d < k → (x d <ℤ (y d +ℤ r.size j d)) × (y d <ℤ (x d +ℤ r.size i d))

-- some other piece clashes with i at x, at every origin within its bounds
pub record Blocked (mode : Overlap) (k : ℕ) (r : Room) (i : ℕ) (x : Point) : Type 0 where
  pub by : ℕ
  pub known : by < r.count
  pub other : by ≡ i → ⊥
  pub clashes : (y : Point) → Within k r by y → Clashes mode k r i by x y

-- no lower end is above its upper
abbrev pub Ranges : ℕ → Room → Type 0
Ranges k r = (p : ℕ) → p < r.count → (d : ℕ) → d < k → r.low p d ≤ℤ r.high p d

-- the test says what the subject says
abbrev pub ShutsBlocked : Overlap → Type 0
ShutsBlocked mode = (k : ℕ) (r : Room) (i : ℕ) (x : Point) → Ranges k r → Decides (overlap_shut mode k r i x) (Blocked mode k r i x)
