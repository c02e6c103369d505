-- Numbers that are written with a space before each are read back.
use Rattle.std.proofs.Common.{◌≡◌, suc, ◌*◌, ◌≤◌, List, [], ◌∷◌, ◌++◌, length, ℤ, Some, arith}
use Rattle.std.specs.List.{flat_map, AllByRecursion}
use Rattle.std.specs.Fmt.{signed_decimal}
use Rattle.std.proofs.ByRecursion.{All-weaker, All-append}
use Rattle.std.proofs.lemmas.List.{append-nil, length-append}
use Rattle.text.proofs.Parts.{Lacks, items_parted, items_last}
use Rattle.text.proofs.Range.{InRange}
use Rattle.text.specs.Items.{items}
use Rattle.text.specs.Numerals.{numbers}
use Rattle.canon.proofs.Numbers.{Small, numeral_signed, signed_bytes, signed_short}
use Rattle.canon.specs.Canonical.{spaced}

pub signed_whole : (z : ℤ) → Small z → Lacks 32 (signed_decimal z)
signed_whole z h = All-weaker (InRange 45 57) (λ b. b ≡ 32 → ⊥) (λ c k e. omega arith) (signed_decimal z) (signed_bytes z h)

pub signed_shown : (z : ℤ) → Small z → AllByRecursion (InRange 32 126) (signed_decimal z)
signed_shown z h = All-weaker (InRange 45 57) (InRange 32 126) (λ c k. (omega arith, omega arith)) (signed_decimal z) (signed_bytes z h)

-- the items of a number and of numbers after it
pub numbers_back : (z : ℤ) (zs : List ℤ) → Small z → AllByRecursion Small zs → numbers (suc (length zs)) (items (signed_decimal z ++ flat_map spaced zs)) ≡ Some (z ∷ zs)
numbers_back z [] h k = rw (append-nil (signed_decimal z), items_last (signed_decimal z) (signed_whole z h), numeral_signed z h)
numbers_back z (y ∷ ys) h k =
    rw (items_parted (signed_decimal z) (signed_decimal y ++ flat_map spaced ys) (signed_whole z h), numeral_signed z h, numbers_back y ys k.0 k.1)

pub spaced_shown : (zs : List ℤ) → AllByRecursion Small zs → AllByRecursion (InRange 32 126) (flat_map spaced zs)
spaced_shown [] h = tt
spaced_shown (z ∷ zs) h =
    ((omega arith, omega arith), All-append (InRange 32 126) (signed_decimal z) (flat_map spaced zs) (signed_shown z h.0) (spaced_shown zs h.1))

pub spaced_short : (zs : List ℤ) → AllByRecursion Small zs → length (flat_map spaced zs) ≤ 9 * length zs
spaced_short [] h = omega arith
spaced_short (z ∷ zs) h = omega (arith, length-append (spaced z) (flat_map spaced zs), signed_short z h.0, spaced_short zs h.1)
