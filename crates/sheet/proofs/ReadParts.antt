-- What a line says once it is read, and what lines in a row say: each part keeps its limits.
use Rattle.std.proofs.Common.{◌≡◌, ℕ, zero, suc, ◌+◌, ◌*◌, ◌<◌, ◌≤◌, true, List, [], ◌∷◌, length, get_or, drop, ℤ, pos, ◌≤ℤ◌, Some, None, Ok, Err, codes, Option, Result, refl, ap, subst, arith}
use Rattle.std.specs.Option.{option_map}
use Rattle.std.specs.List.{AllByRecursion}
use Rattle.std.proofs.lemmas.List.FromFn.{length-map-range_with_len}
use Rattle.std.proofs.lemmas.Bool.{and_parts, leb-true, ltb-true, eqb-false, not-true}
use Rattle.std.proofs.lemmas.List.Elements.{recursion_from_All}
use Rattle.std.proofs.lemmas.List.Sums.{AllPass-from_list_all}
use Rattle.room.proofs.Cuts.{decides_int_le}
use Rattle.room.specs.Limits.{extent_fits}
use Rattle.room.specs.declared.orders.Order.{Order}
use Rattle.room.specs.declared.piece.Extent.{Extent}
use Rattle.room.specs.declared.walls.Cell.{Cell}
use Rattle.text.specs.Items.{items, after}
use Rattle.text.specs.Lines.{Line}
use Rattle.text.specs.Numerals.{numbers}
use Rattle.forms.specs.declared.fault.Fault.{Fault}
use Rattle.forms.specs.Forms.{count, between, below, extent_at, extents, extents_fit, says_piece, order_from, order_fits, says_before, row, row_fits, says_wall}
use Rattle.forms.specs.Outcome.{and_then, map_ok, with_some}
use Rattle.forms.proofs.Cells.{length_cells}
use Rattle.sheet.specs.Fits.{PieceFits, OrderFits, RowFits}
use Rattle.sheet.specs.Meaning.{at_line, line_text, line_says, each_says}
use Rattle.forms.proofs.ContentsWithin.{judged_ok}

-- where a step and what follows it are good, the step is
pub and_then_ok : {A B E : Type 0} (r : Result A E) (f : A → Result B E) (y : B) → and_then r f ≡ Ok y → (x : A) × (r ≡ Ok x) × (f x ≡ Ok y)
and_then_ok (Ok x) f y e = (x, refl, e)
and_then_ok (Err d) f y e = cc

-- where what is made of a result is good, the result is
map_ok_ok : {A B E : Type 0} (f : A → B) (r : Result A E) (y : B) → map_ok f r ≡ Ok y → (x : A) × (r ≡ Ok x) × (f x ≡ y)
map_ok_ok f (Ok x) y e = (x, refl, cc)
map_ok_ok f (Err d) y e = cc

-- the same of options
mapped_some : {A B : Type 0} (f : A → B) (o : Option A) (y : B) → option_map f o ≡ Some y → (x : A) × (o ≡ Some x) × (f x ≡ y)
mapped_some f None y e = cc
mapped_some f (Some x) y e = (x, refl, cc)

with_some_some : {A B : Type 0} (o : Option A) (f : A → Option B) (y : B) → with_some o f ≡ Some y → (x : A) × (f x ≡ Some y)
with_some_some None f y e = cc
with_some_some (Some x) f y e = (x, e)

-- naming the line of a fault changes nothing that is good
at_line_ok : {A : Type 0} (number : ℕ) (r : Result A Fault) (x : A) → at_line number r ≡ Ok x → r ≡ Ok x
at_line_ok number (Ok y) x e = cc
at_line_ok number (Err d) x e = cc

-- what a line is read to say, some text says
pub line_says_ok : {A : Type 0} (says : List ℕ → Result A Fault) (number : ℕ) (ls : List Line) (x : A) → line_says says number ls ≡ Ok x → (body : List ℕ) × (says body ≡ Ok x)
line_says_ok says number ls x e =
    let p = and_then_ok (line_text number ls) _ x e in
    (p.0, at_line_ok number (says p.0) x p.2)

-- lines that are read are as many as were announced, and what holds of all that such a line can say holds of each
pub each_says_all : {A : Type 0} (P : A → Type 0) (says : List ℕ → Result A Fault) → ((body : List ℕ) (x : A) → says body ≡ Ok x → P x)
    → (number n : ℕ) (ls : List Line) (xs : List A) → each_says says number n ls ≡ Ok xs → (length xs ≡ n) × AllByRecursion P xs
each_says_all P says sound number zero ls xs e =
    let none : [] ≡ xs = cc in
    rw (← none) (refl, tt)
each_says_all P says sound number (suc n) ls xs e =
    let first = and_then_ok (line_says says number ls) _ xs e in
    let rest = map_ok_ok _ (each_says says (number + 1) n (drop 1 ls)) xs first.2 in
    let said = line_says_ok says number ls first.0 first.1 in
    let more = each_says_all P says sound (number + 1) n (drop 1 ls) rest.0 rest.1 in
    rw (← rest.2) (ap suc more.0, (sound said.0 first.0 said.1, more.1))

-- PIECE

-- extents that pass the test fit, each of them
extents_all : (es : List Extent) → extents_fit es ≡ true → AllByRecursion (λ e. extent_fits e ≡ true) es
extents_all es h = recursion_from_All _ es (AllPass-from_list_all extent_fits es h)

-- a piece line gives an extent within the limits on each axis
pub piece_fits : (axes : ℕ) (body : List ℕ) (es : List Extent) → says_piece axes body ≡ Ok es → PieceFits axes es
piece_fits axes body es e =
    let numbers_read = with_some (after (codes "piece ") body) (λ text. numbers (3 * axes) (items text)) in
    let j = judged_ok (option_map (extents axes) numbers_read) extents_fit (λ x. x) es e in
    let m = mapped_some (extents axes) numbers_read j.0 j.1 in
    record {
      each_axis = rw (← j.3, ← m.2) (length-map-range_with_len (extent_at axes m.0) 0 axes);
      each_fits = rw (← j.3) (extents_all j.0 j.2);
    }

-- BEFORE

-- a number below a count, and not negative, is a count below it
below_count : (n : ℕ) (z : ℤ) → below n z ≡ true → count z < n
below_count n (pos k) e = let p = and_parts _ _ e in ltb-true k n p.1
below_count n (ℤ.negsuc k) e = cc

-- a number that passes the test lies between the two ends
between_order : (low high : ℕ) (z : ℤ) → between low high z ≡ true → (pos low ≤ℤ z) × (z ≤ℤ pos high)
between_order low high z e = let p = and_parts _ _ e in ((decides_int_le (pos low) z).0 p.0, (decides_int_le z (pos high)).0 p.1)

-- numbers that pass the test make an order within the limits
order_within : (axes pieces : ℕ) (ns : List ℤ) → order_fits axes pieces ns ≡ true → OrderFits axes pieces (order_from ns)
order_within axes pieces ns e =
    let upto_gap = and_parts _ _ e in
    let upto_axis = and_parts _ _ upto_gap.0 in
    let upto_apart = and_parts _ _ upto_axis.0 in
    let upto_after = and_parts _ _ upto_apart.0 in
    let gap = between_order 0 1000000 (get_or ns 3 (pos 0)) upto_gap.1 in
    record {
      before_known = below_count pieces (get_or ns 0 (pos 0)) upto_after.0;
      after_known = below_count pieces (get_or ns 1 (pos 0)) upto_after.1;
      apart = eqb-false _ _ (not-true _ upto_apart.1);
      axis_known = below_count axes (get_or ns 2 (pos 0)) upto_axis.1;
      gap_from = gap.0;
      gap_to = gap.1;
    }

-- a before line gives an order between two pieces of the room on one of its axes
pub order_line_fits : (axes pieces : ℕ) (body : List ℕ) (o : Order) → says_before axes pieces body ≡ Ok o → OrderFits axes pieces o
order_line_fits axes pieces body o e =
    let j = judged_ok (with_some (after (codes "before ") body) (λ text. numbers 4 (items text))) (order_fits axes pieces) order_from o e in
    subst (OrderFits axes pieces) j.3 (order_within axes pieces j.0 j.2)

-- WALL

-- a row that is read has a cell at least
row_length : (letters : List ℕ) (cs : List Cell) → row letters ≡ Some cs → 1 ≤ length cs
row_length [] cs e = cc
row_length (c ∷ more) cs e = let k = length_cells (c ∷ more) cs e in omega arith

-- a wall line gives a cell at least, and not too many
pub wall_line_fits : (body : List ℕ) (cs : List Cell) → says_wall body ≡ Ok cs → RowFits cs
wall_line_fits body cs e =
    let j = judged_ok (with_some (after (codes "wall ") body) row) row_fits (λ x. x) cs e in
    let t = with_some_some (after (codes "wall ") body) row j.0 j.1 in
    subst RowFits j.3 (record { some = row_length t.0 j.0 t.1; few = leb-true (length j.0) 64 j.2 })
