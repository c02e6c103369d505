-- What is written of a board under a rule: for each piece its number and ranges, and a picture of its origins, or the boxes
-- that the rule lists where the picture would be too large.
use Rattle.std.specs.Prelude.{ℕ, ◌+◌, ◌*◌, min, Bool, true, false, cond, List, [], ◌∷◌, ◌++◌, length, ℤ, pos, ◌+ℤ◌, ◌-ℤ◌, codes, decimal, nat_le, unsigned_abs}
use Rattle.std.specs.List.{range_with_len, flat_map}
use Rattle.std.specs.Fmt.{signed_decimal}
use Rattle.room.specs.Seen.{Room, Point, Box, point_of}
use Rattle.rule.specs.Means.{box_at, max_listed}

-- a picture has this many cells at most
abbrev pub max_cells : ℕ
max_cells = 4096

-- how many origins a piece has on an axis; on an axis that the board does not use there is the one origin 0
abbrev pub breadth : Room → ℕ → ℕ → ℕ
breadth r p d = unsigned_abs (r.high p d -ℤ r.low p d) + 1

-- the origin at a number, from the lower end
abbrev pub origin : Room → ℕ → ℕ → ℕ → ℤ
origin r p d i = r.low p d +ℤ pos i

-- a range on each axis, each after a space
abbrev pub range_text : (ℕ → ℤ) → (ℕ → ℤ) → ℕ → List ℕ
range_text low high d = 32 ∷ (signed_decimal (low d) ++ (codes ".." ++ signed_decimal (high d)))

abbrev pub ranges_text : ℕ → (ℕ → ℤ) → (ℕ → ℤ) → List ℕ
ranges_text k low high = flat_map (range_text low high) (range_with_len 0 k)

-- # for an origin that is shut, . for one that is free
abbrev pub letter : Bool → ℕ
letter true = 35
letter false = 46

abbrev pub Shutting : Type 0
Shutting = ℕ → Room → ℕ → Point → Bool

-- the letter of the origin at these numbers on axes 0, 1 and 2
abbrev pub cell_text : Shutting → ℕ → Room → ℕ → ℕ → ℕ → ℕ → List ℕ
cell_text shut k r p plane row column =
    letter (shut k r p (point_of k (origin r p 0 column ∷ (origin r p 1 row ∷ (origin r p 2 plane ∷ []))))) ∷ []

-- a row: the origins along axis 0
abbrev pub row_text : Shutting → ℕ → Room → ℕ → ℕ → ℕ → List ℕ
row_text shut k r p plane row = flat_map (cell_text shut k r p plane row) (range_with_len 0 (breadth r p 0)) ++ (10 ∷ [])

-- the rows by axis 1; with three axes they are planes by axis 2, each headed by its origin
abbrev pub plane_text : Shutting → ℕ → Room → ℕ → ℕ → List ℕ
plane_text shut k r p plane =
    cond (nat_le 3 k) (codes "plane " ++ (signed_decimal (origin r p 2 plane) ++ (10 ∷ []))) []
    ++ flat_map (row_text shut k r p plane) (range_with_len 0 (breadth r p 1))

abbrev pub picture_text : Shutting → ℕ → Room → ℕ → List ℕ
picture_text shut k r p = flat_map (plane_text shut k r p) (range_with_len 0 (breadth r p 2))

-- a box of the list
abbrev pub box_text : ℕ → List Box → ℕ → List ℕ
box_text k boxes i = codes "box" ++ (ranges_text k (box_at boxes i).from (box_at boxes i).to ++ (10 ∷ []))

-- the boxes, as many of them as are counted
abbrev pub boxes_text : ℕ → List Box → List ℕ
boxes_text k boxes = flat_map (box_text k boxes) (range_with_len 0 (min (length boxes) max_listed))

abbrev pub cells : Room → ℕ → ℕ
cells r p = (breadth r p 0 * breadth r p 1) * breadth r p 2

abbrev pub heading_text : ℕ → Room → ℕ → List ℕ
heading_text k r p = codes "piece " ++ (decimal p ++ (ranges_text k (r.low p) (r.high p) ++ (10 ∷ [])))

abbrev pub piece_text : Shutting → (ℕ → Room → ℕ → List Box) → ℕ → Room → ℕ → List ℕ
piece_text shut boxes k r p = heading_text k r p ++ cond (nat_le (cells r p) max_cells) (picture_text shut k r p) (boxes_text k (boxes k r p))

-- all pieces, in order
unfoldable pub shade_text : Shutting → (ℕ → Room → ℕ → List Box) → ℕ → Room → List ℕ
shade_text shut boxes k r = flat_map (piece_text shut boxes k r) (range_with_len 0 r.count)
