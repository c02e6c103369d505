-- Boxes of origins that cover walls: what lies in them, and that the boxes of the cells are a right list.
use Rattle.std.proofs.Common.{◌≡◌, ℕ, ◌+◌, ◌*◌, ◌<◌, ◌≤◌, min, true, ◌&&◌, List, length, ℤ, pos, negsuc, neg_ℤ, ◌≤ℤ◌, Some, None, Decides, sym, refl, ap, ◌∙◌, subst, arith, lit<}
use Rattle.std.proofs.lemmas.Nat.{div_below, div-mul-add, mod_below, mod-mul-add, mul-add-lt}
use Rattle.std.proofs.lemmas.Int.{ints, by_lt_z}
use Rattle.std.proofs.lemmas.Bool.{cond-true, cond-false}
use Rattle.std.proofs.lemmas.Bool.Decides.{Decides-and}
use Rattle.std.specs.declared.ops.Range.{Range}
use Rattle.room.specs.Limits.{max_cells, max_rows}
use Rattle.room.specs.Seen.{Room, Point, Box, Within, Holds, Meets, meets}
use Rattle.room.specs.declared.walls.Cell.{Cell}
use Rattle.room.proofs.Belows.{false_from, passes}
use Rattle.room.proofs.Cuts.{by_axis, common_point, decides_meets, meets_from}
use Rattle.rule.specs.Gathered.{Sound}
use Rattle.rule.specs.Means.{EndsFit, ListsBox, Shuts, max_box_end}
use Rattle.rule.specs.Subjects.{Suits, room_seen}
use Rattle.rule.specs.declared.subject.Subject.{Subject}
use Rattle.rule.proofs.Boxes.{given_some as given_under}
use Rattle.walls.specs.Drawn.{cell_box, cell_given, cells_of, column_of, length_seen, only, row_of, run_box}
use Rattle.walls.specs.Held.{Among, Run}
use Rattle.walls.specs.Walled.{Spans, wall, walls_shut, walls_suit}
use Rattle.walls.specs.Walls.{decides_shut, two_axes, wall_within}
use Rattle.walls.proofs.Seeing.{limits}

natural : (z : ℤ) → pos 0 ≤ℤ z → (n : ℕ) × (z ≡ pos n)
natural (pos n) h = (n, refl)
natural (negsuc n) h = absurd (omega (arith, ints))

module _ (rows : List (List Cell)) (s : Subject) (two : 2 ≤ s.axes) (column : ℕ) (run : Range ℕ) where
  abbrev box : Box
  box = run_box (length_seen s 0) (length_seen s 1) column run

  pub run_holds : (x : Point) (row : ℕ) → Within s.axes (room_seen s) s.piece x → Spans (x 0) (length_seen s 0) column → Spans (x 1) (length_seen s 1) row → Among run row → Holds s.axes box x
  run_holds x row within across down among d h =
      by_axis (λ e. e < s.axes → (box.from e ≤ℤ x e) × (x e ≤ℤ box.to e))
      (λ _. (omega (arith, ints), omega (arith, ints)))
      (λ _. (omega (arith, ints), omega (arith, ints)))
      (λ third.
      let l = limits s 2 third in
      let a = within.above 2 third in
      let u = within.under 2 third in
      (omega (arith, ints), omega (arith, ints)))
      d (omega (arith, s.board.axes_to)) h

  pub run_ends : column < max_cells → run.end ≤ max_rows → EndsFit s.axes box
  run_ends across down =
      let wide = limits s 0 (omega arith) in
      let tall = limits s 1 (omega arith) in
      record {
        least = λ d h. by_axis (λ e. neg_ℤ (pos max_box_end) ≤ℤ box.from e) (omega (arith, ints)) (omega (arith, ints)) (omega (arith, ints)) d (omega (arith, s.board.axes_to));
        most = λ d h. by_axis (λ e. box.to e ≤ℤ pos max_box_end) (omega (arith, ints)) (omega (arith, ints)) (omega (arith, ints)) d (omega (arith, s.board.axes_to));
      }

  -- a point of the box covers the cell at its own row, or at the first row of the run where it lies above it
  pub run_shuts : pos 1 ≤ℤ length_seen s 1 → run.start < run.end → Run rows column run.start run.end → Shuts s.axes (room_seen s) s.piece (walls_shut rows s.axes (room_seen s) s.piece) box
  run_shuts tall some walls y within held =
      let across = held 0 (omega arith) in
      let down = held 1 (omega arith) in
      let at_row : (row : ℕ) → run.start ≤ row → row < run.end → Spans (y 1) (length_seen s 1) row → walls_shut rows s.axes (room_seen s) s.piece y ≡ true = λ row above under spans.
      (decides_shut rows s.axes (room_seen s) s.piece y).1 (two, record { row = row; column = column; is_there = walls row above under; in_columns = record { first = omega (arith, ints); last = omega (arith, ints) }; in_rows = spans })
      in
      by_lt_z (pos run.start) (y 1)
      (λ under.
      let (row, is) = natural (y 1) (omega (arith, ints)) in
      at_row row (omega (arith, ints)) (omega (arith, ints)) (record { first = omega (arith, ints); last = omega (arith, ints) }))
      (λ over. at_row run.start (omega arith) some (record { first = over; last = omega (arith, ints) }))

-- what a cell gives
module _ (rows : List (List Cell)) (k : ℕ) (r : Room) (p source : ℕ) where
  decides_given : Decides (wall rows (row_of source) (column_of source) && meets k (cell_box r p source) (r.low p) (r.high p)) ((wall rows (row_of source) (column_of source) ≡ true) × Meets k (cell_box r p source) (r.low p) (r.high p))
  decides_given = Decides-and _ _ (passes _) (decides_meets k (cell_box r p source) (r.low p) (r.high p))

  pub given_some : wall rows (row_of source) (column_of source) ≡ true → Meets k (cell_box r p source) (r.low p) (r.high p) → cell_given rows k r p source ≡ Some (cell_box r p source)
  unfolding cell_given
  given_some is meet = cond-true _ _ _ (decides_given.1 (is, meet))

  pub given_none : ((wall rows (row_of source) (column_of source) ≡ true) → Meets k (cell_box r p source) (r.low p) (r.high p) → ⊥) → cell_given rows k r p source ≡ None
  unfolding cell_given
  given_none never = cond-false _ _ _ (false_from _ decides_given (λ (is, meet). never is meet))

  given_tells : (b : Box) → cell_given rows k r p source ≡ Some b → (wall rows (row_of source) (column_of source) ≡ true) × Meets k (cell_box r p source) (r.low p) (r.high p) × (cell_box r p source ≡ b)
  unfolding cell_given
  given_tells b gives =
      let (test, same) = given_under _ (cell_box r p source) b gives in
      let (is, meet) = decides_given.0 test in
      (is, meet, same)

-- the boxes of the cells are a right list: a wall gives its box exactly where the piece can cover it
pub cells_sound : (rows : List (List Cell)) (s : Subject) → Suits (walls_suit rows) s → Sound s.axes (room_seen s) s.piece (walls_shut rows s.axes (room_seen s) s.piece) (cell_given rows s.axes (room_seen s) s.piece) (cells_of rows)
cells_sound rows s suits = record {
  each = λ j b below gives.
      let k = s.axes in
      let r = room_seen s in
      let row = row_of j in
      let column = column_of j in
      let (is, meet, same) = given_tells rows k r s.piece j b gives in
      let two = two_axes rows k r.count row column suits is in
      let across : column < max_cells = mod_below j 64 (lit< tt) in
      let down : row < max_rows = omega (arith, div_below j 64 (min (length rows) 64) (lit< tt) below) in
      let one = meet 1 (omega arith) in
      let walls : Run rows column row (row + 1) = λ i from to. let here : row ≡ i = omega arith in subst (λ n. wall rows n column ≡ true) here is in
      subst (ListsBox k r s.piece (walls_shut rows k r s.piece)) same (record {
        shuts = run_shuts rows s two column (only row) (omega (arith, ints)) (omega arith) walls;
        some = common_point k (cell_box r s.piece j) r s.piece (λ d h. (limits s d h).order) meet;
        ends = run_ends rows s two column (only row) across (omega arith);
      });
  every = λ x within shut.
      let (two, covers) = (decides_shut rows s.axes (room_seen s) s.piece x).0 shut in
      let row = covers.row in
      let column = covers.column in
      let inside = wall_within rows row column covers.is_there in
      let j = row * 64 + column in
      let at_row : row_of j ≡ row = div-mul-add row 64 column inside.column_below in
      let at_column : column_of j ≡ column = mod-mul-add row 64 column inside.column_below in
      let is : wall rows (row_of j) (column_of j) ≡ true = ap (λ n. wall rows n (column_of j)) at_row ∙ ap (wall rows row) at_column ∙ covers.is_there in
      let here = inside.row_known in
      let below = inside.row_below in
      let held = run_holds rows s two (column_of j) (only (row_of j)) x (row_of j) within (subst (Spans (x 0) (length_seen s 0)) (sym at_column) covers.in_columns) (subst (Spans (x 1) (length_seen s 1)) (sym at_row) covers.in_rows) (omega arith, omega arith) in (
        j,
        cell_box (room_seen s) s.piece j,
        omega (arith, mul-add-lt row 64 column (min (length rows) 64) (omega arith) inside.column_below),
        given_some rows s.axes (room_seen s) s.piece j is (meets_from s.axes (cell_box (room_seen s) s.piece j) (room_seen s) s.piece x within held),
        held,
      );
}
