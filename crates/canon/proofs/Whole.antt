-- The canonical text of a plan within the limits: its lines, its length and what it says.
use Rattle.std.proofs.Common.{◌≡◌, ℕ, ◌+◌, ◌*◌, ◌≤◌, true, List, [], ◌∷◌, ◌++◌, map, length, drop, Ok, sym, ap, ◌∙◌, arith}
use Rattle.std.specs.List.{flat_map, AllByRecursion}
use Rattle.std.proofs.ByRecursion.{All-weaker, All-append}
use Rattle.std.proofs.lemmas.List.{append-nil, length-append, length-map, drop-drop, drop_all}
use Rattle.std.proofs.lemmas.Bool.{le-ltb}
use Rattle.text.specs.Lines.{Line, lines, readable}
use Rattle.forms.specs.Forms.{says_contents, says_piece, says_before, says_wall}
use Rattle.sheet.specs.Fits.{Fits, PieceFits, OrderFits, RowFits}
use Rattle.sheet.specs.Meaning.{meaning, lines_say, bodies}
use Rattle.sheet.specs.Plan.{Plan, contents_of}
use Rattle.forms.specs.Within.{Within}
use Rattle.canon.proofs.Heading.{contents_body, contents_apart, heading_fit, heading_back}
use Rattle.canon.proofs.Lines.{Fit, ended, fit_readable, line_back, line_short, line_written, lines_written, length_written, readable_written, drop_written, each_back}
use Rattle.canon.proofs.Orders.{order_body, order_apart, order_fit, order_back}
use Rattle.canon.proofs.Pieces.{piece_body, piece_apart, piece_fit, piece_back}
use Rattle.canon.proofs.Walls.{row_body, row_apart, row_fit, row_back}
use Rattle.canon.specs.Canonical.{canonical, contents_line, piece_line, order_line, row_line}
use Rattle.canon.specs.Kept.{KeepsLimits}

module _ (p : Plan) (h : Fits p) where
  announceable : Within (contents_of p)
  announceable = record { axes_from = h.axes_from; axes_to = h.axes_to; pieces_from = h.pieces_from; pieces_to = h.pieces_to; orders_to = h.orders_to; rows_to = h.rows_to }

  -- each line of the text may stand as a line

  fit_pieces : AllByRecursion (λ es. Fit (piece_body es)) p.pieces
  fit_pieces = All-weaker (PieceFits p.axes) (λ es. Fit (piece_body es)) (λ es k. piece_fit p.axes es h.axes_to k) p.pieces h.pieces_fit

  fit_orders : AllByRecursion (λ o. Fit (order_body o)) p.orders
  fit_orders = All-weaker (OrderFits p.axes (length p.pieces)) (λ o. Fit (order_body o)) (λ o k. order_fit p.axes (length p.pieces) h.axes_to h.pieces_to o k) p.orders h.orders_fit

  fit_rows : AllByRecursion (λ cs. Fit (row_body cs)) p.rows
  fit_rows = All-weaker RowFits (λ cs. Fit (row_body cs)) row_fit p.rows h.rows_fit

  -- and says what was written

  back_pieces : AllByRecursion (λ es. says_piece p.axes (piece_body es) ≡ Ok es) p.pieces
  back_pieces = All-weaker (PieceFits p.axes) (λ es. says_piece p.axes (piece_body es) ≡ Ok es) (λ es k. piece_back p.axes es h.axes_from k) p.pieces h.pieces_fit

  back_orders : AllByRecursion (λ o. says_before p.axes (length p.pieces) (order_body o) ≡ Ok o) p.orders
  back_orders =
      All-weaker (OrderFits p.axes (length p.pieces)) (λ o. says_before p.axes (length p.pieces) (order_body o) ≡ Ok o)
      (λ o k. order_back p.axes (length p.pieces) h.axes_to h.pieces_to o k) p.orders h.orders_fit

  back_rows : AllByRecursion (λ cs. says_wall (row_body cs) ≡ Ok cs) p.rows
  back_rows = All-weaker RowFits (λ cs. says_wall (row_body cs) ≡ Ok cs) row_back p.rows h.rows_fit

-- at most 121 lines of at most 97 bytes
within_limit : (a b c d : List ℕ) → length a ≤ 97 → length b ≤ 97 * 24 → length c ≤ 97 * 32 → length d ≤ 97 * 64 → length (a ++ (b ++ (c ++ d))) ≤ 16384
within_limit a b c d i j k l = omega (arith, length-append a (b ++ (c ++ d)), length-append b (c ++ d), length-append c d)

under : (high n : ℕ) {size : ℕ} → size ≤ 97 * n → n ≤ high → size ≤ 97 * high
under high n a b = omega arith

abbrev piece_lines : Plan → List Line
piece_lines p = map (λ es. ended (piece_body es)) p.pieces

abbrev order_lines : Plan → List Line
order_lines p = map (λ o. ended (order_body o)) p.orders

abbrev row_lines : Plan → List Line
row_lines p = map (λ cs. ended (row_body cs)) p.rows

-- the lines after the contents
abbrev body_lines : Plan → List Line
body_lines p = piece_lines p ++ (order_lines p ++ row_lines p)

module _ (p : Plan) (h : Fits p) where
  canonical_lines : lines (canonical p) ≡ ended (contents_body (contents_of p)) ∷ body_lines p
  canonical_lines =
      let pieces = flat_map piece_line p.pieces in
      let orders = flat_map order_line p.orders in
      let rows = flat_map row_line p.rows in
      let last : lines rows ≡ row_lines p =
      ap lines (sym (append-nil rows)) ∙ lines_written row_line row_body row_apart p.rows [] (fit_rows p h) ∙ append-nil (row_lines p) in
      line_written (contents_line (contents_of p)) (contents_body (contents_of p)) (pieces ++ (orders ++ rows)) (contents_apart (contents_of p)) (heading_fit (contents_of p) (announceable p h))
      ∙ ap (λ ls. ended (contents_body (contents_of p)) ∷ ls)
      (lines_written piece_line piece_body piece_apart p.pieces (orders ++ rows) (fit_pieces p h)
      ∙ ap (λ ls. piece_lines p ++ ls) (lines_written order_line order_body order_apart p.orders rows (fit_orders p h) ∙ ap (λ ls. order_lines p ++ ls) last))

  canonical_readable : AllByRecursion (λ l. readable l ≡ true) (ended (contents_body (contents_of p)) ∷ body_lines p)
  canonical_readable = (
    fit_readable (contents_body (contents_of p)) (heading_fit (contents_of p) (announceable p h)),
    All-append (λ l. readable l ≡ true) (piece_lines p) (order_lines p ++ row_lines p) (readable_written piece_body p.pieces (fit_pieces p h))
        (All-append (λ l. readable l ≡ true) (order_lines p) (row_lines p) (readable_written order_body p.orders (fit_orders p h)) (readable_written row_body p.rows (fit_rows p h))),
  )

  canonical_short : length (canonical p) ≤ 16384
  canonical_short =
      within_limit (contents_line (contents_of p)) (flat_map piece_line p.pieces) (flat_map order_line p.orders) (flat_map row_line p.rows)
      (line_short (contents_line (contents_of p)) (contents_body (contents_of p)) (contents_apart (contents_of p)) (heading_fit (contents_of p) (announceable p h)))
      (under 24 (length p.pieces) (length_written piece_line piece_body piece_apart p.pieces (fit_pieces p h)) h.pieces_to)
      (under 32 (length p.orders) (length_written order_line order_body order_apart p.orders (fit_orders p h)) h.orders_to)
      (under 64 (length p.rows) (length_written row_line row_body row_apart p.rows (fit_rows p h)) h.rows_to)

  bodies_back : bodies (contents_of p) (body_lines p) ≡ Ok p
  bodies_back =
      let ls = body_lines p in
      let np = length p.pieces in
      let no = length p.orders in
      let nr = length p.rows in
      let after_pieces : drop np ls ≡ order_lines p ++ row_lines p = drop_written piece_body p.pieces (order_lines p ++ row_lines p) in
      let after_orders : drop (np + no) ls ≡ row_lines p = sym (drop-drop no np ls) ∙ ap (drop no) after_pieces ∙ drop_written order_body p.orders (row_lines p) in
      let after_rows : drop (np + no + nr) ls ≡ [] = sym (drop-drop nr (np + no) ls) ∙ ap (drop nr) after_orders ∙ drop_all nr (row_lines p) (omega (arith, length-map p.rows (λ cs. ended (row_body cs)))) in
      rw (
        each_back piece_body (says_piece p.axes) 2 p.pieces (order_lines p ++ row_lines p) (fit_pieces p h) (back_pieces p h),
        after_pieces,
        each_back order_body (says_before p.axes np) (2 + np) p.orders (row_lines p) (fit_orders p h) (back_orders p h),
        after_orders ∙ sym (append-nil (row_lines p)),
        each_back row_body says_wall (2 + np + no) p.rows [] (fit_rows p h) (back_rows p h),
        after_rows,
      )

  says_back : lines_say (ended (contents_body (contents_of p)) ∷ body_lines p) ≡ Ok p
  says_back = rw (line_back says_contents 1 (contents_body (contents_of p)) (body_lines p) (contents_of p) (heading_fit (contents_of p) (announceable p h)) (heading_back (contents_of p) (announceable p h))) bodies_back

pub reads_back : (p : Plan) → Fits p → meaning (canonical p) ≡ Ok p
reads_back p h = rw (le-ltb 16384 (length (canonical p)) (canonical_short p h), canonical_lines p h) (says_back p h)

pub written_keeps_limits : (p : Plan) → Fits p → KeepsLimits (canonical p)
written_keeps_limits p h = record { short = canonical_short p h; each_line = rw (canonical_lines p h) (canonical_readable p h) }
