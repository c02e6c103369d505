-- What was read of a sheet, laid down and held as rules, is what the sheet means.
use Rattle.std.proofs.Common.{◌≡◌, ℕ, ◌≤◌, true, List, [], ◌∷◌, ◌++◌, length, replicate, None, Ok, Err, Result, refl, ◌∙◌, arith}
use Rattle.std.specs.List.{AllByRecursion}
use Rattle.std.proofs.lemmas.Bool.{and_from, cond-false, cond-true, le-ltb}
use Rattle.std.proofs.lemmas.Bool.Decides.{nat_tests}
use Rattle.std.proofs.lemmas.Int.{ints}
use Rattle.room.specs.Limits.{max_axes, max_pieces}
use Rattle.room.specs.declared.orders.Order.{Order}
use Rattle.room.specs.declared.piece.Piece.{Piece}
use Rattle.room.specs.declared.refusal.Refusal.{Refusal}
use Rattle.room.specs.declared.walls.Cell.{Cell}
use Rattle.rule.specs.Gathered.{gathered}
use Rattle.rule.specs.Kept.{either}
use Rattle.rule.specs.Pair.{one_of, two_of}
use Rattle.rule.specs.declared.both.Both.{Both}
use Rattle.overlap.specs.Clash.{clash_source, overlap_shut}
use Rattle.overlap.specs.declared.Overlap.{Overlap}
use Rattle.walls.specs.Drawn.{cell_given, cells_of}
use Rattle.walls.specs.Held.{walls_of}
use Rattle.walls.specs.Walled.{walls_shut}
use Rattle.walls.specs.declared.WallRule.{WallRule}
use Rattle.forms.specs.Outcome.{map_ok}
use Rattle.forms.specs.declared.contents.Contents.{Contents}
use Rattle.forms.specs.declared.contents.Mode.{Mode}
use Rattle.orders.specs.Boxes.{source_of}
use Rattle.orders.specs.Entries.{entries_of}
use Rattle.orders.specs.Named.{all_refusal, naming_of, orders_legal}
use Rattle.orders.specs.Ordered.{order_legal, orders_shut}
use Rattle.orders.specs.declared.held.OrderRule.{OrderRule}
use Rattle.sheet.specs.Fits.{Fits, OrderFits}
use Rattle.sheet.specs.Lay.{answered, left_in_records}
use Rattle.sheet.specs.Plan.{Plan, contents_of}
use Rattle.sheet_rule.specs.Held.{HoldsRules}
use Rattle.sheet_rule.specs.Together.{sheet_boxes, sheet_shut, sheet_suits}
use Rattle.shade.specs.Shaded.{shaded}
use Rattle.roomshade.specs.Replies.{blank, plan_records, sheet_shaded}

-- an order within the limits of a sheet may be added
legal : (axes pieces : ℕ) (o : Order) → axes ≤ max_axes → pieces ≤ max_pieces → OrderFits axes pieces o → order_legal o ≡ true
legal axes pieces o few_axes few_pieces fits = grind (arith, ints, nat_tests)

all_legal : (axes pieces : ℕ) (os : List Order) → axes ≤ max_axes → pieces ≤ max_pieces → AllByRecursion (OrderFits axes pieces) os → orders_legal os ≡ true
all_legal axes pieces [] few_axes few_pieces fits = refl
all_legal axes pieces (o ∷ os) few_axes few_pieces (fit, fits) = and_from _ _ (legal axes pieces o few_axes few_pieces fit) (all_legal axes pieces os few_axes few_pieces fits)

-- a plan within the limits, where there is one
abbrev pub PlanFits : Result Plan Refusal → Type 0
PlanFits m = (p : Plan) → m ≡ Ok p → Fits p

-- with room for the most pieces, a plan is answered with its contents
answered_ok : (p : Plan) → Fits p → answered max_pieces (Ok p) ≡ Ok (contents_of p)
answered_ok p fits = cond-false _ _ _ (le-ltb max_pieces (length p.pieces) fits.pieces_to)

-- a refusal of the reader is the outcome
pub read_refused : (m : Result Plan Refusal) (e : Refusal) → PlanFits m → Err e ≡ answered max_pieces m → sheet_shaded m ≡ Err e
read_refused (Ok p) e fits refused = let a = answered_ok p (fits p refl) in cc
read_refused (Err f) e fits refused = cc

-- the orders that were read are never refused
pub orders_accepted : (m : Result Plan Refusal) (orders : List Order) → PlanFits m → map_ok (λ p. p.orders) m ≡ Ok orders → all_refusal orders ≡ None
orders_accepted (Ok p) orders fits read =
    let f = fits p refl in
    let e : p.orders ≡ orders = cc in
    rw (← e) (cond-true _ _ _ (all_legal p.axes (length p.pieces) p.orders f.axes_to f.pieces_to f.orders_fit))
orders_accepted (Err e) orders fits read = cc

-- a board under the rules that are held is the board under what they mean
module _ (k n : ℕ) (records : List Piece) where
  abbrev under : List Order → List (List Cell) → Overlap → Result (List ℕ) Refusal
  under orders rows overlap =
      shaded (sheet_suits rows orders) (either (orders_shut orders) (either (walls_shut rows) (overlap_shut overlap)))
      (λ i r p. gathered (source_of orders r p) (length (naming_of p orders)) ++ (gathered (cell_given rows i r p) (cells_of rows) ++ gathered (clash_source overlap i r p) r.count))
      k n records

  pub held_shaded : (mode : Mode) (rows : List (List Cell)) (orders : List Order) (rule : Both OrderRule (Both WallRule Overlap)) → HoldsRules mode rows orders rule → under (entries_of (one_of rule)) (walls_of (one_of (two_of rule))) (two_of (two_of rule)) ≡ shaded (sheet_suits rows orders) (sheet_shut mode rows orders) (sheet_boxes mode rows orders) k n records
  held_shaded mode rows orders rule held = rw (held.entries, held.walls, held.overlap)

-- what is drawn of what was read is what the text says
pub read_shaded : (m : Result Plan Refusal) (c : Contents) (rows : List (List Cell)) (orders : List Order) (records : List Piece) → PlanFits m → Ok c ≡ answered max_pieces m → map_ok (λ p. p.rows) m ≡ Ok rows → map_ok (λ p. p.orders) m ≡ Ok orders → records ≡ left_in_records m (replicate max_pieces blank)
    → shaded (sheet_suits rows orders) (sheet_shut c.mode rows orders) (sheet_boxes c.mode rows orders) c.axes c.pieces records ≡ sheet_shaded m
read_shaded (Ok p) c rows orders records fits answer rows_read orders_read records_read =
    let a = answered_ok p (fits p refl) in
    let contents_are : c ≡ contents_of p = cc in
    let rows_are : rows ≡ p.rows = cc in
    let orders_are : orders ≡ p.orders = cc in
    let records_are : records ≡ plan_records p = records_read ∙ cond-false _ _ _ (le-ltb max_pieces (length p.pieces) (fits p refl).pieces_to) in
    rw (contents_are, rows_are, orders_are, records_are)
read_shaded (Err e) c rows orders records fits answer rows_read orders_read records_read = cc
