-- Texts written one after another.
use Rattle.std.proofs.Common.{◌≡◌, ℕ, zero, suc, ◌+◌, ◌<◌, List, [], ◌∷◌, ◌++◌, ℤ, sym, refl, ap, ◌∙◌, arith}
use Rattle.std.specs.List.{range_with_len, flat_map}
use Rattle.std.proofs.lemmas.List.FromFn.{map-range_with_len_more}
use Rattle.std.proofs.lemmas.List.{flat_map_more, map-id}
use Rattle.shade.specs.Picture.{range_text, ranges_text}

counting_more : (i : ℕ) → range_with_len 0 (i + 1) ≡ range_with_len 0 i ++ i ∷ []
counting_more i = sym (map-id (range_with_len 0 (i + 1))) ∙ map-range_with_len_more (λ n. n) 0 i i (omega arith) ∙ ap (λ ns. ns ++ i ∷ []) (map-id (range_with_len 0 i))

-- one text more
pub joined_next : (f : ℕ → List ℕ) (start before after : List ℕ) (i : ℕ) → before ≡ start ++ flat_map f (range_with_len 0 i) → after ≡ before ++ f i → after ≡ start ++ flat_map f (range_with_len 0 (i + 1))
joined_next f start before after i e k =
    k ∙ ap (λ bs. bs ++ f i) e ∙ flat_map_more f start (range_with_len 0 i) i ∙ ap (λ ns. start ++ flat_map f ns) (sym (counting_more i))

-- all of them
pub joined_all : (f : ℕ → List ℕ) (start after : List ℕ) (i n : ℕ) → i ≡ n → after ≡ start ++ flat_map f (range_with_len 0 i) → after ≡ start ++ flat_map f (range_with_len 0 n)
joined_all f start after i n e k = k ∙ ap (λ m. start ++ flat_map f (range_with_len 0 m)) e

-- the same texts
same_from : (f g : ℕ → List ℕ) (a n : ℕ) → ((i : ℕ) → i < a + n → f i ≡ g i) → flat_map f (range_with_len a n) ≡ flat_map g (range_with_len a n)
same_from f g a zero same = refl
same_from f g a (suc n) same =
    let here = same a (omega arith) in
    let rest = same_from f g (a + 1) n (λ i h. same i (omega arith)) in
    cc

-- ranges that are the same on the axes of the board
pub ranges_same : (k : ℕ) (low high low₁ high₁ : ℕ → ℤ) (before after : List ℕ) → ((d : ℕ) → d < k → low d ≡ low₁ d) → ((d : ℕ) → d < k → high d ≡ high₁ d) → after ≡ before ++ ranges_text k low high → after ≡ before ++ ranges_text k low₁ high₁
ranges_same k low high low₁ high₁ before after lows highs e =
    e ∙ ap (λ bs. before ++ bs) (same_from (range_text low high) (range_text low₁ high₁) 0 k (λ d h. let l = lows d (omega arith) in let u = highs d (omega arith) in cc))
