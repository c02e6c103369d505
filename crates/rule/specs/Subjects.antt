-- What a rule is asked about a piece, and what its answers mean there.
use Rattle.std.specs.Prelude.{◌≡◌, ℕ, Bool, true, List, length, ℤ, Option}
use Rattle.room.specs.Seen.{Room, Point, Box, Within, box_of, point_of, room_of}
use Rattle.room.specs.declared.region.Region.{Region}
use Rattle.rule.specs.Gathered.{Shows, gathered}
use Rattle.rule.specs.Means.{Covered, Lists, SameBox, box_at}
use Rattle.rule.specs.declared.subject.Subject.{Subject}

-- the rule suits the board
abbrev pub Suits : (ℕ → ℕ → Bool) → Subject → Type 0
Suits suited s = suited s.axes (length s.records.now) ≡ true

-- what the rule sees of the board
abbrev pub room_seen : Subject → Room
room_seen s = room_of s.axes s.records.now

-- the origins are a point within the bounds of the piece
abbrev pub WithinBounds : Subject → List ℤ → Type 0
WithinBounds s origins = Within s.axes (room_seen s) s.piece (point_of s.axes origins)

-- whether a point of the piece is shut
abbrev pub shut_there : (ℕ → Room → ℕ → Point → Bool) → Subject → Point → Bool
shut_there shut s = shut s.axes (room_seen s) s.piece

abbrev pub boxes_there : (ℕ → Room → ℕ → List Box) → Subject → List Box
boxes_there boxes s = boxes s.axes (room_seen s) s.piece

-- right answers: for a point of the piece, for all boxes of the piece, and for one of them
abbrev pub CoveredThere : (ℕ → Room → ℕ → Point → Bool) → Subject → List ℤ → Option Region → Type 0
CoveredThere shut s origins answer = Covered s.axes (room_seen s) s.piece (shut_there shut s) (point_of s.axes origins) answer

abbrev pub ListsThere : (ℕ → Room → ℕ → Point → Bool) → (ℕ → Room → ℕ → List Box) → Subject → Type 0
ListsThere shut boxes s = Lists s.axes (room_seen s) s.piece (shut_there shut s) (boxes_there boxes s)

abbrev pub SameThere : (ℕ → Room → ℕ → List Box) → Subject → ℕ → Region → Type 0
SameThere boxes s number region = SameBox s.axes (box_of region) (box_at (boxes_there boxes s) number)

-- numbered sources of boxes: how many there are for the piece, what one of them gives, and what they give together
abbrev pub many_there : (ℕ → Room → ℕ → ℕ) → Subject → ℕ
many_there many s = many s.axes (room_seen s) s.piece

abbrev pub ShowsThere : (ℕ → Room → ℕ → ℕ → Option Box) → Subject → ℕ → Option Region → Type 0
ShowsThere given s source answer = Shows s.axes (given s.axes (room_seen s) s.piece source) answer

abbrev pub gathered_there : (ℕ → Room → ℕ → ℕ → Option Box) → (ℕ → Room → ℕ → ℕ) → Subject → List Box
gathered_there given many s = gathered (given s.axes (room_seen s) s.piece) (many_there many s)
