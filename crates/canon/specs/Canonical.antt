-- The canonical text of a plan: one space between items, no leading zeros, no minus before 0.
use Rattle.std.specs.Prelude.{ℕ, List, [], ◌∷◌, ◌++◌, map, ℤ, codes, decimal}
use Rattle.std.specs.List.{flat_map}
use Rattle.std.specs.Fmt.{signed_decimal}
use Rattle.room.specs.declared.orders.Order.{Order}
use Rattle.room.specs.declared.piece.Extent.{Extent}
use Rattle.room.specs.declared.walls.Cell.{Cell}
use Rattle.forms.specs.Forms.{letter, mode_word}
use Rattle.forms.specs.declared.contents.Contents.{Contents}
use Rattle.sheet.specs.Plan.{Plan, contents_of}

-- a number after a space
abbrev pub spaced : ℤ → List ℕ
spaced z = 32 ∷ signed_decimal z

abbrev pub spaced_count : ℕ → List ℕ
spaced_count n = 32 ∷ decimal n

abbrev pub contents_line : Contents → List ℕ
contents_line c =
    codes "sheet" ++ (spaced_count c.axes ++ (32 ∷ (mode_word c.mode ++ (spaced_count c.pieces ++ (spaced_count c.orders ++ (spaced_count c.rows ++ (10 ∷ [])))))))

-- the numbers of a piece line: the lengths, then the ends in pairs
abbrev pub ends_of : Extent → List ℤ
ends_of e = e.span.lower ∷ (e.span.upper ∷ [])

abbrev pub piece_numbers : List Extent → List ℤ
piece_numbers es = map (λ e. e.length) es ++ flat_map ends_of es

abbrev pub piece_line : List Extent → List ℕ
piece_line es = codes "piece" ++ (flat_map spaced (piece_numbers es) ++ (10 ∷ []))

abbrev pub order_line : Order → List ℕ
order_line o =
    codes "before" ++ (spaced_count o.before ++ (spaced_count o.after ++ (spaced_count o.axis ++ (spaced o.gap ++ (10 ∷ [])))))

abbrev pub row_line : List Cell → List ℕ
row_line cs = codes "wall " ++ (map letter cs ++ (10 ∷ []))

abbrev pub canonical : Plan → List ℕ
canonical p = contents_line (contents_of p) ++ (flat_map piece_line p.pieces ++ (flat_map order_line p.orders ++ flat_map row_line p.rows))
