-- Numbers read item by item.
use Rattle.std.proofs.Common.{◌≡◌, ℕ, zero, suc, ◌<◌, List, [], ◌∷◌, ◌++◌, drop, ℤ, Some, None, Option, sym, refl, ap, ◌∙◌, append_assoc, arith}
use Rattle.std.specs.Option.{option_map}
use Rattle.text.specs.Numerals.{first_number, numbers, put_first}

-- numbers in front of numbers
abbrev pub put_on : List ℤ → Option (List ℤ) → Option (List ℤ)
put_on zs o = option_map (λ ys. zs ++ ys) o

put_on_first : (zs : List ℤ) (z : ℤ) (o : Option (List ℤ)) → put_on (zs ++ z ∷ []) o ≡ put_on zs (put_first (Some z) o)
put_on_first zs z None = refl
put_on_first zs z (Some ys) = ap Some (append_assoc zs (z ∷ []) ys)

first_of : (n : ℕ) (left : List (List ℕ)) → numbers (suc n) left ≡ put_first (first_number left) (numbers n (drop 1 left))
first_of n [] = refl
first_of n (item ∷ more) = refl

-- one number more is taken
pub taken : (zs : List ℤ) (z : ℤ) (n m : ℕ) (left : List (List ℕ)) → n ≡ suc m → Some z ≡ first_number left → put_on (zs ++ z ∷ []) (numbers m (drop 1 left)) ≡ put_on zs (numbers n left)
taken zs z n m left e v =
    put_on_first zs z (numbers m (drop 1 left))
    ∙ ap (put_on zs) (ap (λ o. put_first o (numbers m (drop 1 left))) v ∙ sym (first_of m left) ∙ ap (λ k. numbers k left) (sym e))

-- what comes next is no number
pub stops : (zs : List ℤ) (n : ℕ) (left : List (List ℕ)) → 0 < n → None ≡ first_number left → put_on zs (numbers n left) ≡ None
stops zs zero left h v = absurd (omega arith)
stops zs (suc m) left h v = ap (put_on zs) (first_of m left ∙ ap (λ o. put_first o (numbers m (drop 1 left))) (sym v))
