-- Numbers as they are written: an optional minus and 1 to 7 decimal digits. Leading zeros, and a minus before zeros, are good.
use Rattle.std.specs.Prelude.{ℕ, zero, suc, ◌+◌, ◌-◌, ◌*◌, Bool, cond, ◌&&◌, List, [], ◌∷◌, length, ℤ, pos, neg_ℤ, Some, None, Option, ◌==◌, nat_le}
use Rattle.text.specs.Bytes.{all_within}
use Rattle.std.specs.Option.{option_map}

-- bytes 48 to 57
abbrev pub all_digits : List ℕ → Bool
all_digits ds = all_within 48 57 ds

-- the number that digits write after the number n
abbrev pub value_after : ℕ → List ℕ → ℕ
value_after n [] = n
value_after n (c ∷ cs) = value_after (n * 10 + (c - 48)) cs

abbrev pub max_digits : ℕ
max_digits = 7

-- the number that 1 to 7 decimal digits write
abbrev pub magnitude : List ℕ → Option ℕ
magnitude ds = cond (nat_le 1 (length ds) && nat_le (length ds) max_digits && all_digits ds) (Some (value_after 0 ds)) None

-- the number of an item
abbrev pub numeral : List ℕ → Option ℤ
numeral [] = None
numeral (c ∷ ds) = cond (c == 45) (option_map (λ n. neg_ℤ (pos n)) (magnitude ds)) (option_map pos (magnitude (c ∷ ds)))

abbrev pub put_first : Option ℤ → Option (List ℤ) → Option (List ℤ)
put_first None zs = None
put_first (Some z) None = None
put_first (Some z) (Some zs) = Some (z ∷ zs)

-- just n items, each of them a number
abbrev pub numbers : ℕ → List (List ℕ) → Option (List ℤ)
numbers zero [] = Some []
numbers zero (item ∷ more) = None
numbers (suc n) [] = None
numbers (suc n) (item ∷ more) = put_first (numeral item) (numbers n more)

-- the number of the first item
abbrev pub first_number : List (List ℕ) → Option ℤ
first_number [] = None
first_number (item ∷ more) = numeral item
