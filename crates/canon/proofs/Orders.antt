-- An order is read back from its line.
use Rattle.std.proofs.Common.{◌≡◌, ℕ, ◌<◌, ◌≤◌, true, List, [], ◌∷◌, ◌++◌, ℤ, pos, ◌≤ℤ◌, Ok, codes, refl, ap, append_assoc, arith}
use Rattle.std.specs.List.{flat_map, AllByRecursion}
use Rattle.std.proofs.lemmas.List.{append-nil}
use Rattle.std.proofs.lemmas.Int.{ints}
use Rattle.std.proofs.lemmas.Bool.{le-leb, lt-ltb, ne_eqb, and_from, not_from_false}
use Rattle.room.specs.declared.orders.Order.{Order}
use Rattle.forms.specs.Forms.{order_fits, says_before, below, between}
use Rattle.sheet.specs.Fits.{OrderFits}
use Rattle.canon.proofs.Lines.{Fit, shown_after}
use Rattle.canon.proofs.Numbers.{Small}
use Rattle.canon.proofs.Spaced.{numbers_back, spaced_shown, spaced_short}
use Rattle.canon.specs.Canonical.{order_line, spaced}

-- the numbers of an order after the first
abbrev more_numbers : Order → List ℤ
more_numbers o = pos o.after ∷ (pos o.axis ∷ (o.gap ∷ []))

abbrev order_numbers : Order → List ℤ
order_numbers o = pos o.before ∷ more_numbers o

-- an order line without its line feed
abbrev pub order_body : Order → List ℕ
order_body o = codes "before" ++ flat_map spaced (order_numbers o)

four_apart : (a b c d end : List ℕ) → a ++ (b ++ (c ++ (d ++ end))) ≡ (a ++ (b ++ (c ++ (d ++ [])))) ++ end
four_apart a b c d end = simp (append_assoc, append-nil)

pub order_apart : (o : Order) → order_line o ≡ order_body o ++ (10 ∷ [])
order_apart o = ap (λ t. codes "before" ++ t) (four_apart (spaced (pos o.before)) (spaced (pos o.after)) (spaced (pos o.axis)) (spaced o.gap) (10 ∷ []))

small_gap : (z : ℤ) → pos 0 ≤ℤ z → z ≤ℤ pos 1000000 → Small z
small_gap (pos n) a b = omega (arith, ints)
small_gap (ℤ.negsuc n) a b = omega (arith, ints)

within_gap : (z : ℤ) → pos 0 ≤ℤ z → z ≤ℤ pos 1000000 → between 0 1000000 z ≡ true
within_gap z a b = grind (arith, ints)

known : (n k : ℕ) → k < n → below n (pos k) ≡ true
known n k s = and_from _ _ (le-leb 0 k (omega arith)) (lt-ltb k n s)

module _ (axes pieces : ℕ) (few_axes : axes ≤ 3) (few_pieces : pieces ≤ 24) (o : Order) (h : OrderFits axes pieces o) where
  small_more : AllByRecursion Small (more_numbers o)
  small_more = (omega (arith, h.after_known), (omega (arith, h.axis_known), (small_gap o.gap h.gap_from h.gap_to, tt)))

  small_first : Small (pos o.before)
  small_first = omega (arith, h.before_known)

  pub order_fit : Fit (order_body o)
  order_fit =
      let s = spaced_short (order_numbers o) (small_first, small_more) in
      record { short = omega arith; shown = shown_after (codes "before") (flat_map spaced (order_numbers o)) refl (spaced_shown (order_numbers o) (small_first, small_more)) }

  good : order_fits axes pieces (order_numbers o) ≡ true
  good =
      and_from _ _
      (and_from _ _
      (and_from _ _
      (and_from _ _ (known pieces o.before h.before_known) (known pieces o.after h.after_known))
      (not_from_false _ (ne_eqb o.before o.after h.apart)))
      (known axes o.axis h.axis_known))
      (within_gap o.gap h.gap_from h.gap_to)

  pub order_back : says_before axes pieces (order_body o) ≡ Ok o
  order_back = rw (numbers_back (pos o.before) (more_numbers o) small_first small_more, good)
