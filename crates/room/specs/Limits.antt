-- The limits of every room, and when the numbers of a piece keep them.
use Rattle.std.specs.Prelude.{ℕ, Bool, ◌&&◌, pos, neg_ℤ, int_le}
use Rattle.room.specs.declared.piece.Extent.{Extent}

-- a board has 1 to 3 axes, 1 to 24 pieces, 0 to 32 orders, and 0 to 64 rows of 1 to 64 cells
abbrev pub max_axes : ℕ
max_axes = 3

abbrev pub max_pieces : ℕ
max_pieces = 24

abbrev pub max_orders : ℕ
max_orders = 32

abbrev pub max_rows : ℕ
max_rows = 64

abbrev pub max_cells : ℕ
max_cells = 64

-- lengths and gaps are 0 to this, and ends lie within plus and minus this
abbrev pub max_length : ℕ
max_length = 1000000

abbrev pub max_end : ℕ
max_end = 1000000

-- a length and two ends are within the limits, and the lower end is not above the upper
abbrev pub extent_fits : Extent → Bool
extent_fits e =
    int_le (pos 0) e.length
    && int_le e.length (pos max_length)
    && int_le (neg_ℤ (pos max_end)) e.span.lower
    && int_le e.span.lower e.span.upper
    && int_le e.span.upper (pos max_end)
