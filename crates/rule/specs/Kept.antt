-- Placements, and which of them keep a rule.
use Rattle.std.specs.Prelude.{◌≡◌, ℕ, ◌<◌, Bool, false, ◌||◌}
use Rattle.room.specs.Seen.{Room, Point}

-- a point for each piece
abbrev pub Placement : Type 0
Placement = ℕ → Point

-- the bounds fixed at a placement: both ends equal to it
abbrev pub fixed : Room → Placement → Room
fixed r q = record { count = r.count; size = r.size; low = q; high = q }

-- a placement keeps a rule when none of its points is shut under the bounds fixed at it
abbrev pub Keeps : (ℕ → Room → ℕ → Point → Bool) → ℕ → Room → Placement → Type 0
Keeps shut k r q = (p : ℕ) → p < r.count → shut k (fixed r q) p (q p) ≡ false

-- both or neither
abbrev pub Same : Type 0 → Type 0 → Type 0
Same P Q = (P → Q) × (Q → P)

-- what either of two rules shuts
abbrev pub either : (ℕ → Room → ℕ → Point → Bool) → (ℕ → Room → ℕ → Point → Bool) → ℕ → Room → ℕ → Point → Bool
either one two k r p x = one k r p x || two k r p x

-- exactly the placements that keep each of two rules keep the pair
abbrev pub BothKept : (ℕ → Room → ℕ → Point → Bool) → (ℕ → Room → ℕ → Point → Bool) → Type 0
BothKept one two = (k : ℕ) (r : Room) (q : Placement) → Same (Keeps (either one two) k r q) (Keeps one k r q × Keeps two k r q)
