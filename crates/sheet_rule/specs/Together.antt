-- What the rules of a sheet mean together: the mode, the rows of the wall map and the orders.
use Rattle.std.specs.Prelude.{◌≡◌, ℕ, ◌<◌, Bool, true, ◌&&◌, List, ◌++◌, length, slice_index_or}
use Rattle.room.specs.Seen.{Room, Point, Box}
use Rattle.room.specs.declared.orders.Order.{Order}
use Rattle.room.specs.declared.walls.Cell.{Cell}
use Rattle.forms.specs.declared.contents.Mode.{Mode}
use Rattle.forms.specs.declared.contents.Mode.TheVariants.{Strict, Nonstrict}
use Rattle.rule.specs.Gathered.{gathered}
use Rattle.rule.specs.Kept.{Placement, Keeps, Same, either}
use Rattle.overlap.specs.Clash.{clash_source, overlap_shut}
use Rattle.overlap.specs.Diffn.{diffn_k, diffn_nonstrict_k}
use Rattle.overlap.specs.declared.Overlap.{Overlap}
use Rattle.overlap.specs.declared.Overlap.TheVariants.{Strict as Strictly, Nonstrict as Nonstrictly}
use Rattle.orders.specs.Boxes.{source_of}
use Rattle.orders.specs.Named.{naming_of}
use Rattle.orders.specs.Ordered.{OrderKept, no_order, orders_shut, orders_suit}
use Rattle.walls.specs.Drawn.{cell_given, cells_of}
use Rattle.walls.specs.Walled.{CoversWall, walls_shut, walls_suit}

abbrev pub overlap_of : Mode → Overlap
overlap_of Strict = Strictly
overlap_of Nonstrict = Nonstrictly

-- overlap suits every board
abbrev pub sheet_suits : List (List Cell) → List Order → ℕ → ℕ → Bool
sheet_suits rows orders k n = orders_suit orders k n && (walls_suit rows k n && true)

-- what any of the three shuts
abbrev pub sheet_shut : Mode → List (List Cell) → List Order → ℕ → Room → ℕ → Point → Bool
sheet_shut mode rows orders = either (orders_shut orders) (either (walls_shut rows) (overlap_shut (overlap_of mode)))

-- the boxes of the orders, then those of the walls, then those of the other pieces
abbrev pub sheet_boxes : Mode → List (List Cell) → List Order → ℕ → Room → ℕ → List Box
sheet_boxes mode rows orders k r p =
    gathered (source_of orders r p) (length (naming_of p orders))
    ++ (gathered (cell_given rows k r p) (cells_of rows) ++ gathered (clash_source (overlap_of mode) k r p) r.count)

-- no two pieces overlap, as the mode has it
abbrev pub Apart : Mode → ℕ → Room → Placement → Type 0
Apart Strict k r q = diffn_k k r q
Apart Nonstrict k r q = diffn_nonstrict_k k r q

-- what a room asks of a placement: every order is kept, no piece covers a wall, and no two pieces overlap
pub record RoomKept (mode : Mode) (rows : List (List Cell)) (orders : List Order) (k : ℕ) (r : Room) (q : Placement) : Type 0 where
  pub in_order : (i : ℕ) → i < length orders → OrderKept r q (slice_index_or orders i no_order)
  pub off_walls : (p : ℕ) → p < r.count → CoversWall rows r p (q p) → ⊥
  pub parted : Apart mode k r q

-- exactly those placements keep the three rules
abbrev pub SheetKept : Mode → List (List Cell) → List Order → Type 0
SheetKept mode rows orders =
    (k : ℕ) (r : Room) (q : Placement) → sheet_suits rows orders k r.count ≡ true →
    Same (Keeps (sheet_shut mode rows orders) k r q) (RoomKept mode rows orders k r q)
