-- What is known of a piece that is drawn, and what is written of it.
use Rattle.std.specs.Prelude.{◌≡◌, ℕ, Bool, cond, List, [], ◌∷◌, ◌++◌, ℤ, pos, neg_ℤ, ◌≤ℤ◌, codes, nat_le}
use Rattle.std.specs.Fmt.{signed_decimal}
use Rattle.room.specs.Limits.{max_end}
use Rattle.room.specs.Seen.{Box, Room, Within, point_of}
use Rattle.rule.specs.Subjects.{room_seen}
use Rattle.rule.specs.declared.interface.Rule.{Ghosts}
use Rattle.shade.specs.Picture.{Shutting, breadth, cell_text, origin, picture_text, piece_text, plane_text, row_text}
use Rattle.shade.specs.declared.canvas.Canvas.{Canvas}

-- the ends of a piece on an axis: a range within the limits
pub record Spans (r : Room) (p d : ℕ) (low high : ℤ) : Type 0 where
  pub low_is : low ≡ r.low p d
  pub high_is : high ≡ r.high p d
  pub from : neg_ℤ (pos max_end) ≤ℤ low
  pub order : low ≤ℤ high
  pub to : high ≤ℤ pos max_end

module _ {R : Type 0} {rule : Ghosts R} (c : Canvas R rule) where
  -- the room of the board
  abbrev pub room_at : Room
  room_at = room_seen c.subject

  abbrev pub SpansAt : ℕ → ℤ → ℤ → Type 0
  SpansAt d = Spans room_at c.subject.piece d

  abbrev pub breadth_at : ℕ → ℕ
  breadth_at = breadth room_at c.subject.piece

  abbrev pub origin_at : ℕ → ℕ → ℤ
  origin_at = origin room_at c.subject.piece

  -- the origins at these numbers on axes 2, 1 and 0
  abbrev pub origins_at : ℕ → ℕ → ℕ → List ℤ
  origins_at plane row column = origin_at 0 column ∷ (origin_at 1 row ∷ (origin_at 2 plane ∷ []))

  abbrev pub WithinAt : List ℤ → Type 0
  WithinAt xs = Within c.subject.axes room_at c.subject.piece (point_of c.subject.axes xs)

  abbrev pub shut_at : (R → Shutting) → ℕ → ℕ → ℕ → Bool
  shut_at shut plane row column = shut c.rule.now c.subject.axes room_at c.subject.piece (point_of c.subject.axes (origins_at plane row column))

  abbrev pub cell_at : (R → Shutting) → ℕ → ℕ → ℕ → List ℕ
  cell_at shut = cell_text (shut c.rule.now) c.subject.axes room_at c.subject.piece

  abbrev pub row_at : (R → Shutting) → ℕ → ℕ → List ℕ
  row_at shut = row_text (shut c.rule.now) c.subject.axes room_at c.subject.piece

  abbrev pub plane_heading_at : ℕ → List ℕ
  plane_heading_at plane = cond (nat_le 3 c.subject.axes) (codes "plane " ++ (signed_decimal (origin_at 2 plane) ++ (10 ∷ []))) []

  abbrev pub plane_at : (R → Shutting) → ℕ → List ℕ
  plane_at shut = plane_text (shut c.rule.now) c.subject.axes room_at c.subject.piece

  abbrev pub picture_at : (R → Shutting) → List ℕ
  picture_at shut = picture_text (shut c.rule.now) c.subject.axes room_at c.subject.piece

  -- the boxes that the rule lists for the piece
  abbrev pub boxes_at : (R → ℕ → Room → ℕ → List Box) → List Box
  boxes_at boxes = boxes c.rule.now c.subject.axes room_at c.subject.piece

  abbrev pub piece_at : (R → Shutting) → (R → ℕ → Room → ℕ → List Box) → List ℕ
  piece_at shut boxes = piece_text (shut c.rule.now) (boxes c.rule.now) c.subject.axes room_at c.subject.piece
