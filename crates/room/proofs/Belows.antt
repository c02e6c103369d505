-- Tests of the numbers below n, and what they tell.
use Rattle.std.proofs.Common.{◌≡◌, ℕ, zero, suc, ◌+◌, ◌<◌, ◌≤◌, Bool, true, false, ◌⊎◌, List, [], ◌∷◌, length, take, zip, slice_index_or, Decides, refl, ap, ◌∙◌, subst, inl, inr, ⊎_elim, arith}
use Rattle.std.specs.List.{list_all, list_any, range_with_len}
use Rattle.std.proofs.lemmas.Bool.{both_ways, cases_Bool, cases_eq, cases_lt, false≢true}
use Rattle.std.proofs.lemmas.Bool.Decides.{Decides-and, Decides-like, Decides-or}
use Rattle.room.specs.Below.{all_below, any_below}

-- the numbers from a, n of them
decides_all_from : (f : ℕ → Bool) (P : ℕ → Type 0) → ((k : ℕ) → Decides (f k) (P k)) → (n a : ℕ) → Decides (list_all f (range_with_len a n)) ((k : ℕ) → a ≤ k → k < a + n → P k)
decides_all_from f P each zero a = (λ e k from to. absurd (omega arith), λ every. refl)
decides_all_from f P each (suc n) a =
    Decides-like _
    (λ (first, rest) k from to. ⊎_elim (λ past. rest k (omega arith) (omega arith)) (λ here. let same : a ≡ k = omega arith in subst P same first) (cases_lt a k))
    (λ every. (every a (omega arith) (omega arith), λ k from to. every k (omega arith) (omega arith)))
    (Decides-and _ _ (each a) (decides_all_from f P each n (a + 1)))

decides_any_from : (f : ℕ → Bool) (P : ℕ → Type 0) → ((k : ℕ) → Decides (f k) (P k)) → (n a : ℕ) → Decides (list_any f (range_with_len a n)) ((k : ℕ) × (a ≤ k) × (k < a + n) × P k)
decides_any_from f P each zero a = (λ e. absurd (false≢true e), λ (k, from, to, p). absurd (omega arith))
decides_any_from f P each (suc n) a =
    Decides-like _
    (λ either. ⊎_elim (λ here. (a, omega arith, omega arith, here)) (λ (k, from, to, p). (k, omega arith, omega arith, p)) either)
    (λ (k, from, to, p). ⊎_elim (λ past. inr (k, omega arith, omega arith, p)) (λ here. let same : k ≡ a = omega arith in inl (subst P same p)) (cases_lt a k))
    (Decides-or _ _ (each a) (decides_any_from f P each n (a + 1)))

pub decides_all : (f : ℕ → Bool) (P : ℕ → Type 0) → ((k : ℕ) → Decides (f k) (P k)) → (n : ℕ) → Decides (all_below f n) ((k : ℕ) → k < n → P k)
decides_all f P each n =
    let from = decides_all_from f P each n 0 in
    (λ e k to. from.0 e k (omega arith) (omega arith), λ every. from.1 (λ k _ to. every k (omega arith)))

pub decides_any : (f : ℕ → Bool) (P : ℕ → Type 0) → ((k : ℕ) → Decides (f k) (P k)) → (n : ℕ) → Decides (any_below f n) ((k : ℕ) × (k < n) × P k)
decides_any f P each n =
    let from = decides_any_from f P each n 0 in
    (λ e. let (k, _, to, p) = from.0 e in (k, omega arith, p), λ (k, to, p). from.1 (k, omega arith, omega arith, p))

-- a test that decides itself
pub passes : (b : Bool) → Decides b (b ≡ true)
passes b = (λ e. e, λ e. e)

pub false_from : {P : Type 0} (b : Bool) → Decides b P → (P → ⊥) → b ≡ false
false_from true d n = absurd (n (d.0 refl))
false_from false d n = refl

pub all_fails : (f : ℕ → Bool) (n k : ℕ) → k < n → f k ≡ false → all_below f n ≡ false
all_fails f n k h e = false_from (all_below f n) (decides_all f (λ i. f i ≡ true) (λ i. passes (f i)) n) (λ every. both_ways (f k) e (every k h))

pub all_passes : (f : ℕ → Bool) (n : ℕ) → ((k : ℕ) → k < n → f k ≡ true) → all_below f n ≡ true
all_passes f n every = (decides_all f (λ i. f i ≡ true) (λ i. passes (f i)) n).1 every

-- all pass, or some number fails
pub all_or_some : (f : ℕ → Bool) (n : ℕ) → ((k : ℕ) → k < n → f k ≡ true) ⊎ ((k : ℕ) × (k < n) × (f k ≡ false))
all_or_some f zero = inl (λ k h. absurd (omega arith))
all_or_some f (suc n) =
    ⊎_elim
    (λ every. ⊎_elim
    (λ here. inl (λ k h. ⊎_elim (λ same. ap f same ∙ here) (λ below. every k (omega arith)) (cases_eq k n)))
    (λ fails. inr (n, omega arith, fails))
    (cases_Bool (f n)))
    (λ (k, h, fails). inr (k, omega arith, fails))
    (all_or_some f n)

-- what holds of 0 and of each number after another that holds, below n
by_first : (P : ℕ → Type 0) (n : ℕ) → P 0 → ((d : ℕ) → d < n → P (suc d)) → (d : ℕ) → d < suc n → P d
by_first P n first rest zero h = first
by_first P n first rest (suc d) h = rest d (omega arith)

-- a test of two lists side by side, which a pair of the values past their ends passes
pub decides_zipped : {X Y : Type 0} (test : X → Y → Bool) (x : X) (y : Y) → test x y ≡ true → (n : ℕ) (xs : List X) (ys : List Y) → length xs ≡ length ys → Decides (list_all (λ p. test p.0 p.1) (take n (zip xs ys))) ((d : ℕ) → d < n → test (slice_index_or xs d x) (slice_index_or ys d y) ≡ true)
decides_zipped test x y past zero xs ys e = (λ is d h. absurd (omega arith), λ every. refl)
decides_zipped test x y past (suc n) [] [] e = (λ is d h. past, λ every. refl)
decides_zipped test x y past (suc n) [] (b ∷ ys) e = absurd (omega arith)
decides_zipped test x y past (suc n) (a ∷ xs) [] e = absurd (omega arith)
decides_zipped test x y past (suc n) (a ∷ xs) (b ∷ ys) e =
    Decides-like _ (λ (first, rest). by_first (λ d. test (slice_index_or (a ∷ xs) d x) (slice_index_or (b ∷ ys) d y) ≡ true) n first rest) (λ every. (every 0 (omega arith), λ d h. every (suc d) (omega arith)))
    (Decides-and _ _ (passes (test a b)) (decides_zipped test x y past n xs ys (omega arith)))
