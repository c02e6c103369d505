-- A piece is read back from its line.
use Rattle.std.proofs.Common.{◌≡◌, ℕ, zero, suc, ◌+◌, ◌-◌, ◌*◌, ◌<◌, ◌≤◌, true, List, [], ◌∷◌, ◌++◌, map, length, get_or, ℤ, pos, neg_ℤ, ◌≤ℤ◌, Ok, codes, sym, refl, ap, ◌∙◌, arith}
use Rattle.std.specs.List.{flat_map, AllByRecursion}
use Rattle.std.proofs.lemmas.List.FromFn.{fill_by_all}
use Rattle.std.proofs.ByRecursion.{All-weaker, All-append, All-map}
use Rattle.std.proofs.lemmas.List.{length-append, length-map, get_or-map, get_or_append_left, get_or-append_right}
use Rattle.std.proofs.lemmas.Int.{ints}
use Rattle.std.proofs.lemmas.Bool.{and_parts}
use Rattle.std.proofs.lemmas.List.Elements.{All-from_recursion}
use Rattle.std.proofs.lemmas.List.Sums.{list_all-from_AllPass}
use Rattle.room.proofs.Cuts.{decides_int_le}
use Rattle.room.specs.Limits.{extent_fits}
use Rattle.room.specs.declared.piece.Extent.{Extent}
use Rattle.forms.specs.Forms.{extent_at, extents, extents_fit, says_piece}
use Rattle.sheet.specs.Fits.{PieceFits}
use Rattle.canon.proofs.Lines.{Fit, shown_after}
use Rattle.canon.proofs.Numbers.{Small}
use Rattle.canon.proofs.Spaced.{numbers_back, spaced_shown, spaced_short}
use Rattle.canon.specs.Canonical.{piece_line, piece_numbers, ends_of, spaced}

-- a piece line without its line feed
abbrev pub piece_body : List Extent → List ℕ
piece_body es = codes "piece" ++ flat_map spaced (piece_numbers es)

pub piece_apart : (es : List Extent) → piece_line es ≡ piece_body es ++ (10 ∷ [])
piece_apart es = refl

-- THE NUMBERS OF A PIECE: the lengths, then both ends of each extent

length_ends : (es : List Extent) → length (flat_map ends_of es) ≡ 2 * length es
length_ends [] = omega arith
length_ends (e ∷ es) = omega (arith, length_ends es)

length_numbers : (es : List Extent) → length (piece_numbers es) ≡ 3 * length es
length_numbers es = omega (arith, length-append (map (λ e. e.length) es) (flat_map ends_of es), length-map es (λ e. e.length), length_ends es)

lower_at : (es : List Extent) (k : ℕ) (d : Extent) → k < length es → get_or (flat_map ends_of es) (2 * k) (pos 0) ≡ (get_or es k d).span.lower
lower_at [] k d h = absurd (omega arith)
lower_at (e ∷ es) zero d h = refl
lower_at (e ∷ es) (suc k) d h = ap (λ n. get_or (flat_map ends_of (e ∷ es)) n (pos 0)) (let m : 2 * suc k ≡ suc (suc (2 * k)) = omega arith in m) ∙ lower_at es k d (omega arith)

upper_at : (es : List Extent) (k : ℕ) (d : Extent) → k < length es → get_or (flat_map ends_of es) (2 * k + 1) (pos 0) ≡ (get_or es k d).span.upper
upper_at [] k d h = absurd (omega arith)
upper_at (e ∷ es) zero d h = refl
upper_at (e ∷ es) (suc k) d h = ap (λ n. get_or (flat_map ends_of (e ∷ es)) n (pos 0)) (let m : 2 * suc k + 1 ≡ suc (suc (2 * k + 1)) = omega arith in m) ∙ upper_at es k d (omega arith)

module _ (es : List Extent) (k : ℕ) (d : Extent) (h : k < length es) where
  extent_back : get_or es k d ≡ extent_at (length es) (piece_numbers es) k
  extent_back =
      let length_at : get_or (piece_numbers es) k (pos 0) ≡ (get_or es k d).length =
      get_or_append_left (map (λ e. e.length) es) (flat_map ends_of es) (pos 0) k (omega (arith, length-map es (λ e. e.length)))
      ∙ get_or-map (λ e. e.length) es k d (pos 0) h in
      let even : length es + 2 * k - length es ≡ 2 * k = omega arith in
      let odd : length es + 2 * k + 1 - length es ≡ 2 * k + 1 = omega arith in
      let low : get_or (piece_numbers es) (length es + 2 * k) (pos 0) ≡ (get_or es k d).span.lower =
      get_or-append_right (map (λ e. e.length) es) (flat_map ends_of es) (length es) (length es + 2 * k) (pos 0) (length-map es (λ e. e.length)) (omega arith)
      ∙ rw even (lower_at es k d h) in
      let high : get_or (piece_numbers es) (length es + 2 * k + 1) (pos 0) ≡ (get_or es k d).span.upper =
      get_or-append_right (map (λ e. e.length) es) (flat_map ends_of es) (length es) (length es + 2 * k + 1) (pos 0) (length-map es (λ e. e.length)) (omega arith)
      ∙ rw odd (upper_at es k d h) in
      rw (length_at, low, high)

extents_back : (axes : ℕ) (es : List Extent) → length es ≡ axes → extents axes (piece_numbers es) ≡ es
extents_back axes es e = sym (fill_by_all (extent_at axes (piece_numbers es)) es axes nothing e (λ k h. let m : k < length es = omega arith in extent_back es k nothing m ∙ ap (λ n. extent_at n (piece_numbers es) k) e))
  where
    nothing : Extent
    nothing = record { length = pos 0; span = record { lower = pos 0; upper = pos 0 } }

-- within the limits, each number is small

small_between : (z : ℤ) → neg_ℤ (pos 1000000) ≤ℤ z → z ≤ℤ pos 1000000 → Small z
small_between (pos n) a b = omega (arith, ints)
small_between (ℤ.negsuc n) a b = omega (arith, ints)

module _ (e : Extent) (h : extent_fits e ≡ true) where
  parts : (pos 0 ≤ℤ e.length) × (e.length ≤ℤ pos 1000000) × (neg_ℤ (pos 1000000) ≤ℤ e.span.lower) × (e.span.lower ≤ℤ e.span.upper) × (e.span.upper ≤ℤ pos 1000000)
  parts =
      let a = and_parts _ _ h in
      let b = and_parts _ _ a.0 in
      let c = and_parts _ _ b.0 in
      let d = and_parts _ _ c.0 in
      ((decides_int_le _ _).0 d.0, (decides_int_le _ _).0 d.1, (decides_int_le _ _).0 c.1, (decides_int_le _ _).0 b.1, (decides_int_le _ _).0 a.1)

  small_length : Small e.length
  small_length = let p = parts in small_between e.length (omega (arith, ints)) p.1

  small_lower : Small e.span.lower
  small_lower = let p = parts in small_between e.span.lower p.2 (omega (arith, ints))

  small_upper : Small e.span.upper
  small_upper = let p = parts in small_between e.span.upper (omega (arith, ints)) p.4

small_ends : (es : List Extent) → AllByRecursion (λ e. extent_fits e ≡ true) es → AllByRecursion Small (flat_map ends_of es)
small_ends [] h = tt
small_ends (e ∷ es) h = (small_lower e h.0, (small_upper e h.0, small_ends es h.1))

small_numbers : (es : List Extent) → AllByRecursion (λ e. extent_fits e ≡ true) es → AllByRecursion Small (piece_numbers es)
small_numbers es h =
    All-append Small (map (λ e. e.length) es) (flat_map ends_of es)
    (All-map Small (λ e. e.length) es (All-weaker (λ e. extent_fits e ≡ true) (λ e. Small e.length) small_length es h))
    (small_ends es h)

extents_good : (es : List Extent) → AllByRecursion (λ e. extent_fits e ≡ true) es → extents_fit es ≡ true
extents_good es h = list_all-from_AllPass extent_fits es (All-from_recursion _ es h)

-- THE LINE OF A PIECE

pub piece_fit : (axes : ℕ) (es : List Extent) → axes ≤ 3 → PieceFits axes es → Fit (piece_body es)
piece_fit axes es few h =
    let small = small_numbers es h.each_fits in
    let s = spaced_short (piece_numbers es) small in
    record { short = omega (arith, length_numbers es, h.each_axis); shown = shown_after (codes "piece") (flat_map spaced (piece_numbers es)) refl (spaced_shown (piece_numbers es) small) }

pub piece_back : (axes : ℕ) (es : List Extent) → 1 ≤ axes → PieceFits axes es → says_piece axes (piece_body es) ≡ Ok es
piece_back axes [] some h = absurd (omega (arith, h.each_axis))
piece_back axes (e ∷ es) some h =
    let n : 3 * axes ≡ length (piece_numbers (e ∷ es)) = omega (arith, length_numbers (e ∷ es), h.each_axis) in
    let small = small_numbers (e ∷ es) h.each_fits in
    rw (n, numbers_back e.length (map (λ x. x.length) es ++ flat_map ends_of (e ∷ es)) small.0 small.1, extents_back axes (e ∷ es) h.each_axis, extents_good (e ∷ es) h.each_fits)
