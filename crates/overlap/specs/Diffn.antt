-- Boxes that do not overlap: the constraints diffn_k and diffn_nonstrict_k of MiniZinc, over all pairs of boxes and all
-- dimensions. A box is a piece at its point, and its sizes are the lengths of the piece.
use Rattle.std.specs.Prelude.{◌≡◌, ℕ, ◌<◌, ◌⊎◌, pos, ◌+ℤ◌, ◌≤ℤ◌}
use Rattle.room.specs.Seen.{Room}
use Rattle.rule.specs.Kept.{Placement, Keeps, Same}
use Rattle.overlap.specs.Clash.{overlap_shut}
use Rattle.overlap.specs.declared.Overlap.TheVariants.{Strict, Nonstrict}

-- every pair of boxes is parted in some dimension
abbrev pub diffn_k : ℕ → Room → Placement → Type 0
diffn_k k r q =
    (b1 b2 : ℕ) → b1 < b2 → b2 < r.count →
    (j : ℕ) × (j < k) × (((q b1 j +ℤ r.size b1 j) ≤ℤ q b2 j) ⊎ ((q b2 j +ℤ r.size b2 j) ≤ℤ q b1 j))

-- or one of the two has size 0 in some dimension
abbrev pub diffn_nonstrict_k : ℕ → Room → Placement → Type 0
diffn_nonstrict_k k r q =
    (b1 b2 : ℕ) → b1 < b2 → b2 < r.count →
    (j : ℕ) × (j < k)
    × ((r.size b1 j ≡ pos 0) ⊎ ((r.size b2 j ≡ pos 0) ⊎ (((q b1 j +ℤ r.size b1 j) ≤ℤ q b2 j) ⊎ ((q b2 j +ℤ r.size b2 j) ≤ℤ q b1 j))))

-- exactly the placements that satisfy the constraint keep the rule
abbrev pub StrictKept : Type 0
StrictKept = (k : ℕ) (r : Room) (q : Placement) → Same (Keeps (overlap_shut Strict) k r q) (diffn_k k r q)

abbrev pub NonstrictKept : Type 0
NonstrictKept = (k : ℕ) (r : Room) (q : Placement) → Same (Keeps (overlap_shut Nonstrict) k r q) (diffn_nonstrict_k k r q)
