-- Bytes within a range, one by one.
use Rattle.std.proofs.Common.{◌≡◌, ℕ, ◌<◌, ◌≤◌, true, leb, List, [], ◌∷◌, length, get_or, refl}
use Rattle.std.specs.List.{AllByRecursion}
use Rattle.std.proofs.ByRecursion.{All-get_or}
use Rattle.std.proofs.lemmas.Bool.{and_from, and_parts, le-leb, leb-true}
use Rattle.text.specs.Bytes.{within, all_within}

-- each byte of a text within the range is
abbrev pub InRange : ℕ → ℕ → ℕ → Type 0
InRange low high c = (low ≤ c) × (c ≤ high)

pub all_in_range : (low high : ℕ) (bytes : List ℕ) → all_within low high bytes ≡ true → AllByRecursion (InRange low high) bytes
all_in_range low high [] e = tt
all_in_range low high (c ∷ cs) e =
    let p = and_parts (within low high c) _ e in
    let q = and_parts (leb low c) _ p.0 in
    ((leb-true _ _ q.0, leb-true _ _ q.1), all_in_range low high cs p.1)

pub all_within_from : (low high : ℕ) (bytes : List ℕ) → AllByRecursion (InRange low high) bytes → all_within low high bytes ≡ true
all_within_from low high [] h = refl
all_within_from low high (c ∷ cs) h = and_from _ _ (and_from _ _ (le-leb low c h.0.0) (le-leb c high h.0.1)) (all_within_from low high cs h.1)

pub in_range_at : (low high : ℕ) (bytes : List ℕ) (i : ℕ) → i < length bytes → all_within low high bytes ≡ true → InRange low high (get_or bytes i 0)
in_range_at low high bytes i h e = All-get_or (InRange low high) bytes i 0 h (all_in_range low high bytes e)
