-- What a contents line says is within the limits of a sheet.
use Rattle.std.proofs.Common.{◌≡◌, ℕ, ◌≤◌, Bool, true, List, get_or, ℤ, pos, Some, None, Ok, codes, Option, sym, refl, subst}
use Rattle.std.proofs.lemmas.Bool.{and_parts, leb-true}
use Rattle.text.specs.Items.{items, after}
use Rattle.forms.specs.declared.contents.Contents.{Contents}
use Rattle.forms.specs.Forms.{count, between, Announced, contents_items, contents_fit, contents_from, says_contents}
use Rattle.forms.specs.Within.{Within}
use Rattle.forms.specs.Outcome.{with_some, judged}
use Rattle.forms.proofs.InRange.{passed}

-- a line that is judged good has its form and its ranges
pub judged_ok : {A B : Type 0} (o : Option A) (fits : A → Bool) (value : A → B) (y : B) → judged o fits value ≡ Ok y → (x : A) × (o ≡ Some x) × (fits x ≡ true) × (value x ≡ y)
judged_ok None fits value y e = absurd cc
judged_ok (Some x) fits value y e = let p = passed (fits x) (value x) y (sym e) in (x, refl, p.0, p.1)

-- a number between two counts is a count between them
pub between_count : (low high : ℕ) (z : ℤ) → between low high z ≡ true → (low ≤ count z) × (count z ≤ high)
between_count low high (pos n) e = let p = and_parts _ _ e in (leb-true low n p.0, leb-true n high p.1)
between_count low high (ℤ.negsuc n) e = absurd cc

-- numbers that are in range give contents within the limits
fit_within : (a : Announced) → contents_fit a ≡ true → Within (contents_from a)
fit_within a e =
    let upto_rows = and_parts _ _ e in
    let upto_orders = and_parts _ _ upto_rows.0 in
    let upto_pieces = and_parts _ _ upto_orders.0 in
    let axes = between_count 1 3 a.axes upto_pieces.0 in
    let pieces = between_count 1 24 (get_or a.counts 0 (pos 0)) upto_pieces.1 in
    let orders = between_count 0 32 (get_or a.counts 1 (pos 0)) upto_orders.1 in
    let rows = between_count 0 64 (get_or a.counts 2 (pos 0)) upto_rows.1 in
    record { axes_from = axes.0; axes_to = axes.1; pieces_from = pieces.0; pieces_to = pieces.1; orders_to = orders.1; rows_to = rows.1 }

-- contents that are read are within the limits
pub contents_within : (body : List ℕ) (c : Contents) → says_contents body ≡ Ok c → Within c
contents_within body c e =
    let p = judged_ok (with_some (after (codes "sheet ") body) (λ text. contents_items (items text))) contents_fit contents_from c e in
    subst Within p.3 (fit_within p.0 p.2)
