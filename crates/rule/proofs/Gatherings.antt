-- What the sources of boxes give, one more at a time, and that sound sources give a right list.
use Rattle.std.proofs.Common.{◌≡◌, ℕ, zero, suc, ◌+◌, ◌<◌, Bool, true, false, [], ◌∷◌, ◌++◌, length, is_some, Some, None, Option, sym, refl, ap, ◌∙◌, subst, ⊎_elim, add-one, arith}
use Rattle.std.specs.Option.{option_to_list}
use Rattle.std.proofs.lemmas.List.{append-nil, length-append, length_push, get_or_append_left, get_or_push}
use Rattle.std.proofs.lemmas.Bool.{cases_lt, cases_eq, true≢false, false≢true}
use Rattle.room.specs.Seen.{Room, Point, Box, Holds}
use Rattle.room.specs.declared.region.Region.{Region}
use Rattle.rule.specs.Gathered.{Shows, Sound, gathered}
use Rattle.rule.specs.Means.{Lists, ListsBox, box_at, no_box}

-- what one source gives
by_source : {P : Type 0} (found : Option Box) → ((b : Box) → found ≡ Some b → P) → (found ≡ None → P) → P
by_source (Some b) some none = some b refl
by_source None some none = none refl

module _ (source : ℕ → Option Box) where
  some_next : (n : ℕ) (b : Box) → source n ≡ Some b → gathered source (suc n) ≡ gathered source n ++ b ∷ []
  some_next n b e = ap (λ o. gathered source n ++ option_to_list o) e

  none_next : (n : ℕ) → source n ≡ None → gathered source (suc n) ≡ gathered source n
  none_next n e = ap (λ o. gathered source n ++ option_to_list o) e ∙ append-nil (gathered source n)

  pub gathered_some : (n : ℕ) (b : Box) → source n ≡ Some b → gathered source (n + 1) ≡ gathered source n ++ b ∷ []
  gathered_some n b e = ap (gathered source) (add-one n) ∙ some_next n b e

  pub gathered_none : (n : ℕ) → source n ≡ None → gathered source (n + 1) ≡ gathered source n
  gathered_none n e = ap (gathered source) (add-one n) ∙ none_next n e

  -- what is gathered stays where it is as more is gathered
  stays : (n i : ℕ) → i < length (gathered source n) → (box_at (gathered source (suc n)) i ≡ box_at (gathered source n) i) × (i < length (gathered source (suc n)))
  stays n i h = (
    get_or_append_left (gathered source n) (option_to_list (source n)) no_box i h,
    omega (arith, length-append (gathered source n) (option_to_list (source n))),
  )

  -- the box of a source stands in the list, at the number of boxes before it
  pub found_at : (n j : ℕ) (b : Box) → j < n → source j ≡ Some b → (length (gathered source j) < length (gathered source n)) × (box_at (gathered source n) (length (gathered source j)) ≡ b)
  found_at zero j b h e = absurd (omega arith)
  found_at (suc n) j b h e =
      ⊎_elim
      (λ same.
      let here : source n ≡ Some b = ap source (sym same) ∙ e in
      let grown = some_next n b here in
      subst (λ m. (length (gathered source m) < length (gathered source (suc n))) × (box_at (gathered source (suc n)) (length (gathered source m)) ≡ b)) (sym same)
      (omega (arith, ap length grown, length_push (gathered source n) b), ap (λ l. box_at l (length (gathered source n))) grown ∙ get_or_push (gathered source n) b no_box (length (gathered source n)) refl))
      (λ other.
      let before = found_at n j b (omega arith) e in
      let kept = stays n (length (gathered source j)) before.0 in
      (kept.1, kept.0 ∙ before.1))
      (cases_eq j n)

  -- each box of the list comes from a source
  pub comes_from : (n i : ℕ) → i < length (gathered source n) → (j : ℕ) × (b : Box) × (j < n) × (source j ≡ Some b) × (box_at (gathered source n) i ≡ b)
  comes_from zero i h = absurd (omega arith)
  comes_from (suc n) i h =
      ⊎_elim
      (λ old.
      let (j, b, below, gives, is) = comes_from n i old in
      (j, b, omega arith, gives, (stays n i old).0 ∙ is))
      (λ new. by_source (source n)
      (λ b e.
      let grown = some_next n b e in
      let last : length (gathered source n) ≡ i = omega (arith, ap length grown, length_push (gathered source n) b) in
      (n, b, omega arith, e, ap (λ l. box_at l i) grown ∙ get_or_push (gathered source n) b no_box i last))
      (λ e. absurd (omega (arith, ap length (none_next n e)))))
      (cases_lt i (length (gathered source n)))

  pub sound_lists : (k : ℕ) (r : Room) (p : ℕ) (shut : Point → Bool) (n : ℕ) → Sound k r p shut source n → Lists k r p shut (gathered source n)
  sound_lists k r p shut n sound = record {
    each = λ i h.
        let (j, b, below, gives, is) = comes_from n i h in
        subst (ListsBox k r p shut) (sym is) (sound.each j b below gives);
    every = λ x within shuts.
        let (j, b, below, gives, held) = sound.every x within shuts in
        let (there, is) = found_at n j b below gives in
        (length (gathered source j), there, subst (λ c. Holds k c x) (sym is) held);
  }

-- what an answer that shows a source tells of it
pub shown_some : (k : ℕ) (found : Option Box) (answer : Option Region) → Shows k found answer → is_some answer ≡ true → (b : Box) × (found ≡ Some b)
shown_some k found (Some region) (b, e, same) is = (b, e)
shown_some k found None shows is = absurd (false≢true is)

pub shown_none : (k : ℕ) (found : Option Box) (answer : Option Region) → Shows k found answer → is_some answer ≡ false → found ≡ None
shown_none k found (Some region) shows is = absurd (true≢false is)
shown_none k found None shows is = shows
