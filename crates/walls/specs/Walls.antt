-- What the test of a wall map tells, and what follows for placements and for tighter bounds.
use Rattle.std.specs.Prelude.{◌≡◌, ℕ, ◌<◌, ◌≤◌, true, List, [], length, ℤ, pos, ◌+ℤ◌, ◌-ℤ◌, Decides, slice_index_or, refl}
use Rattle.std.proofs.Common.{⊎_elim, sym, subst, arith}
use Rattle.std.proofs.lemmas.List.{get_or_past}
use Rattle.std.proofs.lemmas.Bool.{both_ways, or_cases, leb-true, le-leb, eqb-true}
use Rattle.std.proofs.lemmas.Bool.Decides.{Decides-and, Decides-like, nat_tests}
use Rattle.room.specs.Limits.{max_cells, max_rows}
use Rattle.room.specs.Seen.{Room, Point, Inside}
use Rattle.room.specs.declared.walls.Cell.{Cell}
use Rattle.room.proofs.Belows.{decides_any, passes, false_from}
use Rattle.room.proofs.Cuts.{decides_int_le}
use Rattle.rule.specs.Kept.{fixed}
use Rattle.walls.specs.Walled.{Spans, CoversWall, WallsKept, spans, wall, walls_shut, walls_suit}

-- a wall is a cell of the map
pub record WallWithin (rows : List (List Cell)) (row column : ℕ) : Type 0 where
  pub row_known : row < length rows
  pub row_below : row < max_rows
  pub column_below : column < max_cells

pub wall_within : (rows : List (List Cell)) (row column : ℕ) → wall rows row column ≡ true → WallWithin rows row column
unfolding wall
wall_within rows row column is =
    let gone : length rows ≤ row → slice_index_or rows row [] ≡ [] = get_or_past rows row [] in
    record {
      row_known = grind (arith, nat_tests);
      row_below = grind (arith, nat_tests);
      column_below = grind (arith, nat_tests);
    }

decides_spans : (origin size : ℤ) (cell : ℕ) → Decides (spans origin size cell) (Spans origin size cell)
decides_spans origin size cell =
    Decides-like _ (λ (a, b). record { first = a; last = b }) (λ s. (s.first, s.last))
    (Decides-and _ _ (decides_int_le origin (pos cell)) (decides_int_le (pos cell) ((origin +ℤ size) -ℤ pos 1)))

pub decides_shut : (rows : List (List Cell)) (k : ℕ) (r : Room) (p : ℕ) (x : Point) → Decides (walls_shut rows k r p x) ((2 ≤ k) × CoversWall rows r p x)
unfolding walls_shut
decides_shut rows k r p x =
    Decides-and _ _ (leb-true 2 k, le-leb 2 k)
    (Decides-like _
    (λ (i, below, (j, left, (is, (at_column, at_row)))). record { row = i; column = j; is_there = is; in_columns = at_column; in_rows = at_row })
    (λ c.
    let within = wall_within rows c.row c.column c.is_there in
    (c.row, within.row_below, (c.column, within.column_below, (c.is_there, (c.in_columns, c.in_rows)))))
    (decides_any _ _ (λ i. decides_any _ _ (λ j. Decides-and _ _ (passes (wall rows i j)) (Decides-and _ _ (decides_spans (x 0) (r.size p 0) j) (decides_spans (x 1) (r.size p 1) i))) max_cells) max_rows))

-- a map with a wall suits two axes or more
pub two_axes : (rows : List (List Cell)) (k n row column : ℕ) → walls_suit rows k n ≡ true → wall rows row column ≡ true → 2 ≤ k
two_axes rows k n row column suits is =
    ⊎_elim (leb-true 2 k)
    (λ none. absurd (omega (arith, eqb-true (length rows) 0 none, (wall_within rows row column is).row_known)))
    (or_cases _ _ suits)

-- whether a wall is covered hangs on the lengths of the piece alone
abbrev same_lengths : (rows : List (List Cell)) (b c : Room) (p : ℕ) (x : Point) → c.size p 0 ≡ b.size p 0 → c.size p 1 ≡ b.size p 1 → CoversWall rows b p x → CoversWall rows c p x
same_lengths rows b c p x width height covers = record {
  row = covers.row;
  column = covers.column;
  is_there = covers.is_there;
  in_columns = subst (λ size. Spans (x 0) size covers.column) (sym width) covers.in_columns;
  in_rows = subst (λ size. Spans (x 1) size covers.row) (sym height) covers.in_rows;
}

pub kept : (rows : List (List Cell)) → WallsKept rows
kept rows k r q suits = (
  λ keeps p below covers.
      both_ways _ (keeps p below)
      ((decides_shut rows k (fixed r q) p (q p)).1 (
        two_axes rows k r.count covers.row covers.column suits covers.is_there,
        same_lengths rows r (fixed r q) p (q p) refl refl covers,
      )),
  λ none p below.
      false_from _ (decides_shut rows k (fixed r q) p (q p))
      (λ (two, covers). none p below (same_lengths rows (fixed r q) r p (q p) refl refl covers)),
)

pub narrows : (rows : List (List Cell)) (k : ℕ) (b c : Room) (p : ℕ) (x : Point) → Inside k c b → p < b.count → walls_shut rows k b p x ≡ true → walls_shut rows k c p x ≡ true
narrows rows k b c p x inside known shut =
    let (two, covers) = (decides_shut rows k b p x).0 shut in
    let width = inside.sizes p 0 known (omega arith) in
    let height = inside.sizes p 1 known (omega arith) in
    (decides_shut rows k c p x).1 (two, same_lengths rows b c p x width height covers)
