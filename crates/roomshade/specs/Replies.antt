-- The pictures of a sheet.
use Rattle.std.specs.Prelude.{ℕ, List, length, replicate, pos, Ok, Err, Result}
use Rattle.room.specs.Limits.{max_axes, max_pieces}
use Rattle.room.specs.Seen.{no_span}
use Rattle.room.specs.declared.piece.Piece.{Piece}
use Rattle.room.specs.declared.refusal.Refusal.{Refusal}
use Rattle.room.specs.declared.region.Region.{Region}
use Rattle.sheet.specs.Lay.{laid_all}
use Rattle.sheet.specs.Plan.{Plan}
use Rattle.sheet_rule.specs.Together.{sheet_boxes, sheet_shut, sheet_suits}
use Rattle.shade.specs.Shaded.{shaded}

-- records that are not in use
abbrev pub blank : Piece
blank =
    let bounds : Region = record { spans = replicate max_axes no_span } in
    record { lengths = replicate max_axes (pos 0); first = bounds; present = bounds }

-- the records of a plan: those of its pieces are laid down, the others are not looked at
abbrev pub plan_records : Plan → List Piece
plan_records p = laid_all p.pieces (replicate max_pieces blank)

-- the pictures of a plan under its rules, or why the room is refused
abbrev pub plan_shaded : Plan → Result (List ℕ) Refusal
plan_shaded p =
    shaded (sheet_suits p.rows p.orders) (sheet_shut p.mode p.rows p.orders) (sheet_boxes p.mode p.rows p.orders)
    p.axes (length p.pieces) (plan_records p)

-- the same of what a text says
abbrev pub sheet_shaded : Result Plan Refusal → Result (List ℕ) Refusal
sheet_shaded (Err e) = Err e
sheet_shaded (Ok p) = plan_shaded p
