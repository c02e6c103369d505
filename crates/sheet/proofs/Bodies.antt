-- What a sheet means, as far as its lines are read.
use Rattle.std.proofs.Common.{◌≡◌, ℕ, ◌+◌, ◌≤◌, false, ltb, List, length, Ok, Err}
use Rattle.std.proofs.lemmas.List.{drop-drop}
use Rattle.std.proofs.lemmas.Bool.{le-ltb}
use Rattle.room.specs.declared.orders.Order.{Order}
use Rattle.room.specs.declared.piece.Extent.{Extent}
use Rattle.room.specs.declared.walls.Cell.{Cell}
use Rattle.room.specs.declared.refusal.Refusal.{Refusal}
use Rattle.forms.specs.Forms.{says_contents, says_piece, says_before, says_wall}
use Rattle.forms.specs.declared.contents.Contents.{Contents}
use Rattle.sheet.specs.Meaning.{max_sheet, line_says, each_says, no_more, bodies, meaning}
use Rattle.sheet.specs.Walked.{LinesLeft, all_lines, after}

-- the first line is read
module _
    (text : List ℕ) (c : Contents) (all after_first : LinesLeft)
    (short : length text ≤ max_sheet)
    (start : all ≡ all_lines text)
    (said : Ok c ≡ line_says says_contents all.number all.left)
    (first_taken : after_first ≡ after 1 all)
  where
    opened : meaning text ≡ bodies c (after 1 (all_lines text)).left
    opened = let fits : ltb max_sheet (length text) ≡ false = le-ltb _ _ short in rw (fits, ← (rw start at said))

    pub pieces_refused : (e : Refusal) → Err e ≡ each_says (says_piece c.axes) after_first.number c.pieces after_first.left → Err e ≡ meaning text
    pieces_refused e h = rw (opened, ← (rw (first_taken, start) at h))

    -- and the pieces
    module _
        (ps : List (List Extent)) (after_pieces : LinesLeft)
        (pieces_said : Ok ps ≡ each_says (says_piece c.axes) after_first.number c.pieces after_first.left)
        (pieces_taken : after_pieces ≡ after c.pieces after_first)
      where
        pub orders_refused : (e : Refusal) → Err e ≡ each_says (says_before c.axes c.pieces) after_pieces.number c.orders after_pieces.left → Err e ≡ meaning text
        orders_refused e h = rw (opened, ← (rw (first_taken, start) at pieces_said), ← (rw (pieces_taken, first_taken, start) at h))

        -- and the orders
        module _
            (os : List Order) (after_orders : LinesLeft)
            (orders_said : Ok os ≡ each_says (says_before c.axes c.pieces) after_pieces.number c.orders after_pieces.left)
            (orders_taken : after_orders ≡ after c.orders after_pieces)
          where
            pub walls_refused : (e : Refusal) → Err e ≡ each_says says_wall after_orders.number c.rows after_orders.left → Err e ≡ meaning text
            walls_refused e h =
                rw (opened, ← (rw (first_taken, start) at pieces_said), ← (rw (pieces_taken, first_taken, start) at orders_said), ← (rw (orders_taken, pieces_taken, first_taken, start, drop-drop c.orders c.pieces) at h))

            -- and the wall rows: what follows decides
            module _
                (rs : List (List Cell)) (after_rows : LinesLeft)
                (rows_said : Ok rs ≡ each_says says_wall after_orders.number c.rows after_orders.left)
                (rows_taken : after_rows ≡ after c.rows after_orders)
              where
                pub closed : meaning text ≡ no_more after_rows.number after_rows.left (record { axes = c.axes; mode = c.mode; pieces = ps; orders = os; rows = rs })
                closed =
                    rw (opened, ← (rw (first_taken, start) at pieces_said), ← (rw (pieces_taken, first_taken, start) at orders_said), ← (rw (orders_taken, pieces_taken, first_taken, start, drop-drop c.orders c.pieces) at rows_said), rows_taken, orders_taken, pieces_taken, first_taken, start, drop-drop c.orders c.pieces, drop-drop c.rows (c.pieces + c.orders))
