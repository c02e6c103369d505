-- The table of contents is read back from its line.
use Rattle.std.proofs.Common.{◌≡◌, ℕ, ◌≤◌, true, List, [], ◌∷◌, ◌++◌, length, ℤ, pos, Some, Ok, codes, refl, ap, append_assoc, arith}
use Rattle.std.specs.List.{flat_map, AllByRecursion}
use Rattle.std.specs.Fmt.{signed_decimal}
use Rattle.std.proofs.ByRecursion.{All-append, All-weaker}
use Rattle.std.proofs.lemmas.List.{append-nil, length-append}
use Rattle.std.proofs.lemmas.Bool.{le-leb, and_from}
use Rattle.text.proofs.Parts.{Lacks, items_parted}
use Rattle.text.proofs.Range.{InRange, all_in_range}
use Rattle.text.specs.Items.{items}
use Rattle.forms.proofs.Modes.{mode_some}
use Rattle.forms.specs.declared.contents.Contents.{Contents}
use Rattle.forms.specs.declared.contents.Mode.{Mode}
use Rattle.forms.specs.declared.contents.Mode.TheVariants.{Strict, Nonstrict}
use Rattle.forms.specs.Forms.{Announced, contents_items, contents_fit, says_contents, mode_word, between}
use Rattle.forms.specs.Within.{Within}
use Rattle.canon.proofs.Lines.{Fit, shown_after}
use Rattle.canon.proofs.Numbers.{Small, numeral_signed, signed_short}
use Rattle.canon.proofs.Spaced.{numbers_back, signed_whole, signed_shown, spaced_shown, spaced_short}
use Rattle.canon.specs.Canonical.{contents_line, spaced}

-- the counts that follow the mode
abbrev counts : Contents → List ℤ
counts c = pos c.pieces ∷ (pos c.orders ∷ (pos c.rows ∷ []))

-- a contents line without its line feed
abbrev pub contents_body : Contents → List ℕ
contents_body c = codes "sheet" ++ (spaced (pos c.axes) ++ (32 ∷ (mode_word c.mode ++ flat_map spaced (counts c))))

five_apart : (a b c d e end : List ℕ) → a ++ (32 ∷ (b ++ (c ++ (d ++ (e ++ end))))) ≡ (a ++ (32 ∷ (b ++ (c ++ (d ++ (e ++ [])))))) ++ end
five_apart a b c d e end = simp (append_assoc, append-nil)

pub contents_apart : (c : Contents) → contents_line c ≡ contents_body c ++ (10 ∷ [])
contents_apart c =
    ap (λ t. codes "sheet" ++ t)
    (five_apart (spaced (pos c.axes)) (mode_word c.mode) (spaced (pos c.pieces)) (spaced (pos c.orders)) (spaced (pos c.rows)) (10 ∷ []))

-- THE WORD OF A MODE

mode_letters : (m : Mode) → AllByRecursion (InRange 97 122) (mode_word m)
mode_letters Strict = all_in_range 97 122 (mode_word Strict) refl
mode_letters Nonstrict = all_in_range 97 122 (mode_word Nonstrict) refl

mode_whole : (m : Mode) → Lacks 32 (mode_word m)
mode_whole m = All-weaker (InRange 97 122) (λ b. b ≡ 32 → ⊥) (λ c k e. omega arith) (mode_word m) (mode_letters m)

mode_shown : (m : Mode) → AllByRecursion (InRange 32 126) (mode_word m)
mode_shown m = All-weaker (InRange 97 122) (InRange 32 126) (λ c k. (omega arith, omega arith)) (mode_word m) (mode_letters m)

mode_short : (m : Mode) → length (mode_word m) ≤ 9
mode_short Strict = omega arith
mode_short Nonstrict = omega arith

within : (low high n : ℕ) → low ≤ n → n ≤ high → between low high (pos n) ≡ true
within low high n a b = and_from _ _ (le-leb low n a) (le-leb n high b)

module _ (c : Contents) (h : Within c) where
  small_axes : Small (pos c.axes)
  small_axes = omega (arith, h.axes_to)

  small_counts : AllByRecursion Small (counts c)
  small_counts = (omega (arith, h.pieces_to), (omega (arith, h.orders_to), (omega (arith, h.rows_to), tt)))

  -- what follows the axes
  mode_on : List ℕ
  mode_on = mode_word c.mode ++ flat_map spaced (counts c)

  pub heading_fit : Fit (contents_body c)
  unfolding mode_on
  heading_fit =
      record {
        short = omega (arith, length-append (signed_decimal (pos c.axes)) (32 ∷ mode_on), length-append (mode_word c.mode) (flat_map spaced (counts c)), mode_short c.mode, spaced_short (counts c) small_counts, signed_short (pos c.axes) small_axes);
        shown = shown_after (codes "sheet ") (signed_decimal (pos c.axes) ++ (32 ∷ mode_on)) refl
            (All-append (InRange 32 126) (signed_decimal (pos c.axes)) (32 ∷ mode_on) (signed_shown (pos c.axes) small_axes)
            ((omega arith, omega arith), All-append (InRange 32 126) (mode_word c.mode) (flat_map spaced (counts c)) (mode_shown c.mode) (spaced_shown (counts c) small_counts)));
      }

  said : Announced
  said = record { axes = pos c.axes; mode = c.mode; counts = counts c }

  items_back : contents_items (items (signed_decimal (pos c.axes) ++ (32 ∷ mode_on))) ≡ Some said
  unfolding mode_on said
  items_back =
      rw (
        items_parted (signed_decimal (pos c.axes)) mode_on (signed_whole (pos c.axes) small_axes),
        items_parted (mode_word c.mode) (signed_decimal (pos c.pieces) ++ flat_map spaced (pos c.orders ∷ (pos c.rows ∷ []))) (mode_whole c.mode),
        numeral_signed (pos c.axes) small_axes,
        mode_some (mode_word c.mode) c.mode refl,
        numbers_back (pos c.pieces) (pos c.orders ∷ (pos c.rows ∷ [])) small_counts.0 small_counts.1,
      )

  good : contents_fit said ≡ true
  unfolding said
  good =
      and_from _ _
      (and_from _ _
      (and_from _ _ (within 1 3 c.axes h.axes_from h.axes_to) (within 1 24 c.pieces h.pieces_from h.pieces_to))
      (within 0 32 c.orders (omega arith) h.orders_to))
      (within 0 64 c.rows (omega arith) h.rows_to)

  pub heading_back : says_contents (contents_body c) ≡ Ok c
  unfolding mode_on said
  heading_back = rw (items_back, good)
