-- Worked rooms, on one axis. A kind of question about a room is a case of Worked, and what is to hold of it a line of
-- ComesOut; the rooms are one list.
use Rattle.std.specs.Prelude.{◌≡◌, ℕ, ◌+◌, ◌-◌, Bool, List, [], ◌∷◌, pos, filter}
use Rattle.std.specs.List.{range_with_len, AllByRecursion}
use Rattle.room.specs.Seen.{Room, Point, point_of, room_of}
use Rattle.room.specs.declared.orders.Order.{Order}
use Rattle.room.specs.declared.piece.Piece.{Piece}
use Rattle.room.specs.declared.region.Region.{Region}
use Rattle.overlap.specs.Clash.{overlap_shut}
use Rattle.overlap.specs.declared.Overlap.{Overlap}
use Rattle.overlap.specs.declared.Overlap.TheVariants.{Strict, Nonstrict}
use Rattle.orders.specs.Ordered.{orders_shut}

-- a rule by its data
pub data Ruling : Type 0 where
  by_overlap : Overlap → Ruling
  by_orders : List Order → Ruling

abbrev pub shut_by : Ruling → ℕ → Room → ℕ → Point → Bool
shut_by (by_overlap mode) = overlap_shut mode
shut_by (by_orders entries) = orders_shut entries

-- the record of a piece of this length whose origin is within from..to
abbrev bar : ℕ → ℕ → ℕ → Piece
bar length from to =
    let bounds : Region = record { spans = record { lower = pos from; upper = pos to } ∷ [] } in
    record { lengths = pos length ∷ []; first = bounds; present = bounds }

-- of the origins from..to of a piece, these are shut and no others
pub record Shaded : Type 0 where
  pub ruling : Ruling
  pub pieces : List Piece
  pub piece : ℕ
  pub from : ℕ
  pub to : ℕ
  pub shut : List ℕ

abbrev shut_origins : Shaded → List ℕ
shut_origins s = filter (λ x. shut_by s.ruling 1 (room_of 1 s.pieces) s.piece (point_of 1 (pos x ∷ []))) (range_with_len s.from (s.to + 1 - s.from))

pub data Worked : Type 0 where
  shades : Shaded → Worked

abbrev pub ComesOut : Worked → Type 0
ComesOut (shades s) = shut_origins s ≡ s.shut

-- piece 0 beside another, under a mode: of its origins from..to these are shut
abbrev beside : Overlap → Piece → Piece → ℕ → ℕ → List ℕ → Worked
beside mode asked other from to shut = shades (record { ruling = by_overlap mode; pieces = asked ∷ (other ∷ []); piece = 0; from = from; to = to; shut = shut })

-- piece 0, of length 2, ends a gap of 1 before piece 1 begins
abbrev ordered : ℕ → ℕ → ℕ → List ℕ → Worked
ordered piece from to shut = shades (record {
  ruling = by_orders (record { before = 0; after = 1; axis = 0; gap = pos 1 } ∷ []);
  pieces = bar 2 0 6 ∷ (bar 1 0 6 ∷ []);
  piece = piece;
  from = from;
  to = to;
  shut = shut;
})

abbrev pub worked_rooms : List Worked
worked_rooms =
    -- lengths 3 and 3, the other fixed at 5
    beside Strict (bar 3 0 12) (bar 3 5 5) 2 8 (3 ∷ (4 ∷ (5 ∷ (6 ∷ (7 ∷ [])))))
    -- the other in 5..6, and in 5..10
    ∷ (beside Strict (bar 3 0 12) (bar 3 5 6) 0 12 (4 ∷ (5 ∷ (6 ∷ (7 ∷ []))))
    ∷ (beside Strict (bar 3 0 12) (bar 3 5 10) 0 12 []
    -- length 0 beside length 3 at 5
    ∷ (beside Strict (bar 0 0 12) (bar 3 5 5) 0 12 (6 ∷ (7 ∷ []))
    ∷ (beside Nonstrict (bar 0 0 12) (bar 3 5 5) 0 12 []
    -- the piece before is shut where it would reach past 6, the piece after where it would stand below 0 + 2 + 1
    ∷ (ordered 0 0 6 (4 ∷ (5 ∷ (6 ∷ [])))
    ∷ (ordered 1 0 6 (0 ∷ (1 ∷ (2 ∷ [])))
    ∷ []))))))

abbrev pub WorkedRooms : Type 0
WorkedRooms = AllByRecursion ComesOut worked_rooms
