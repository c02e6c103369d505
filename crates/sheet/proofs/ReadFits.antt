-- A plan that is read is within the limits.
use Rattle.std.proofs.Common.{◌≡◌, ℕ, ◌+◌, ltb, List, [], ◌∷◌, length, drop, Ok, Err, sym, subst, arith}
use Rattle.std.specs.List.{AllByRecursion}
use Rattle.std.proofs.lemmas.Bool.{cond_both}
use Rattle.room.specs.declared.orders.Order.{Order}
use Rattle.room.specs.declared.piece.Extent.{Extent}
use Rattle.room.specs.declared.refusal.Refusal.TheVariants.{SheetTooLong}
use Rattle.room.specs.declared.walls.Cell.{Cell}
use Rattle.text.specs.Lines.{Line, lines}
use Rattle.forms.specs.declared.contents.Contents.{Contents}
use Rattle.forms.specs.Forms.{says_contents, says_piece, says_before, says_wall}
use Rattle.sheet.specs.Fits.{Fits, PieceFits, OrderFits, RowFits}
use Rattle.sheet.specs.Meaning.{max_sheet, line_says, each_says, no_more, bodies, lines_say, meaning}
use Rattle.sheet.specs.Plan.{Plan}
use Rattle.forms.proofs.ContentsWithin.{contents_within}
use Rattle.forms.specs.Within.{Within}
use Rattle.sheet.proofs.ReadParts.{and_then_ok, line_says_ok, each_says_all, piece_fits, order_line_fits, wall_line_fits}

-- where no line is left over, the plan is what the lines said
no_more_ok : (number : ℕ) (ls : List Line) (p q : Plan) → no_more number ls p ≡ Ok q → p ≡ q
no_more_ok number [] p q e = cc
no_more_ok number (l ∷ ls) p q e = cc

module _ (c : Contents) (within : Within c) where
  -- parts that are as many as the contents announce, each within its limits, make a plan within the limits
  parts_fit : (pieces : List (List Extent)) (orders : List Order) (rows : List (List Cell))
      → (length pieces ≡ c.pieces) × AllByRecursion (PieceFits c.axes) pieces
      → (length orders ≡ c.orders) × AllByRecursion (OrderFits c.axes c.pieces) orders
      → (length rows ≡ c.rows) × AllByRecursion RowFits rows
      → Fits (record { axes = c.axes; mode = c.mode; pieces = pieces; orders = orders; rows = rows })
  parts_fit pieces orders rows ps os rs =
      let pieces_are = ps.0 in
      let orders_are = os.0 in
      let rows_are = rs.0 in
      record {
        axes_from = within.axes_from;
        axes_to = within.axes_to;
        pieces_from = omega arith;
        pieces_to = omega arith;
        orders_to = omega arith;
        rows_to = omega arith;
        pieces_fit = ps.1;
        orders_fit = rw pieces_are os.1;
        rows_fit = rs.1;
      }

  -- what the lines after the contents say is within the limits
  bodies_fit : (ls : List Line) (p : Plan) → bodies c ls ≡ Ok p → Fits p
  bodies_fit ls p e =
      let ps = and_then_ok (each_says (says_piece c.axes) 2 c.pieces ls) _ p e in
      let os = and_then_ok (each_says (says_before c.axes c.pieces) (2 + c.pieces) c.orders (drop c.pieces ls)) _ p ps.2 in
      let rs = and_then_ok (each_says says_wall (2 + c.pieces + c.orders) c.rows (drop (c.pieces + c.orders) ls)) _ p os.2 in
      subst Fits (no_more_ok _ _ _ p rs.2)
      (parts_fit ps.0 os.0 rs.0
      (each_says_all (PieceFits c.axes) (says_piece c.axes) (piece_fits c.axes) _ _ _ ps.0 ps.1)
      (each_says_all (OrderFits c.axes c.pieces) (says_before c.axes c.pieces) (order_line_fits c.axes c.pieces) _ _ _ os.0 os.1)
      (each_says_all RowFits says_wall wall_line_fits _ _ _ rs.0 rs.1))

-- what a line announces is within the limits
pub announced_fit : (number : ℕ) (ls : List Line) (c : Contents) → Ok c ≡ line_says says_contents number ls → Within c
announced_fit number ls c e = let said = line_says_ok says_contents number ls c (sym e) in contents_within said.0 c said.1

-- what the lines of a sheet say is within the limits
lines_fit : (ls : List Line) (p : Plan) → lines_say ls ≡ Ok p → Fits p
lines_fit ls p e =
    let front = and_then_ok (line_says says_contents 1 ls) _ p e in
    bodies_fit front.0 (announced_fit 1 ls front.0 (sym front.1)) (drop 1 ls) p front.2

-- a text that is read is within the limits
pub read_fits : (text : List ℕ) (p : Plan) → meaning text ≡ Ok p → Fits p
read_fits text p e =
    cond_both (ltb max_sheet (length text)) (Err SheetTooLong) (lines_say (lines text)) (λ r. r ≡ Ok p → Fits p)
    (λ h k. cc)
    (λ h k. lines_fit (lines text) p k)
    e
