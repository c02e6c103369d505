-- Two rules held together: what they list, one after the other, and which placements keep them.
use Rattle.std.proofs.Common.{◌≡◌, ℕ, ◌+◌, ◌-◌, ◌<◌, ◌≤◌, min, nat_le, cond, Bool, true, false, ◌||◌, List, ◌++◌, length, Some, None, Option, unwrap_or, sym, refl, ap, ◌∙◌, subst, ⊎_elim, arith}
use Rattle.std.specs.Bool.{then_some}
use Rattle.std.proofs.lemmas.List.{get_or_append_left, get_or-append_right, length-append}
use Rattle.std.proofs.lemmas.Bool.{cases_lt, cond-true, cond-false, le-leb, lt-leb, or_cases, or_from, or_left, or_parts, or_right}
use Rattle.room.specs.Seen.{Room, Point, Box, Holds}
use Rattle.rule.specs.Kept.{BothKept}
use Rattle.rule.specs.Means.{Shuts, Lists, ListsBox, box_at, no_box, counted, max_listed}

counted_some : (n : ℕ) → n ≤ max_listed → counted n ≡ Some n
counted_some n h = cond-true _ _ _ (le-leb n max_listed h)

counted_none : (n : ℕ) → max_listed < n → counted n ≡ None
counted_none n h = cond-false _ _ _ (lt-leb n max_listed h)

-- what was counted is the number, and not too many
counted_by : {P : Type 0} (n : ℕ) (o : Option ℕ) → o ≡ counted n → (n ≤ max_listed → o ≡ Some n → P) → (max_listed < n → o ≡ None → P) → P
counted_by n o e few many =
    ⊎_elim (λ h. many h (e ∙ counted_none n h)) (λ h. few h (e ∙ counted_some n h)) (cases_lt max_listed n)

counted_is : (n m : ℕ) → Some m ≡ counted n → (m ≡ n) × (n ≤ max_listed)
counted_is n m e =
    counted_by n (Some m) e
    (λ h s. let same : m ≡ n = cc in (same, h))
    (λ h s. let z : ◌≡◌ {A = ℕ} 0 1 = cc in absurd (omega arith))

counted_past : (n : ℕ) → None ≡ counted n → max_listed < n
counted_past n e = counted_by n None e (λ h s. let z : ◌≡◌ {A = ℕ} 0 1 = cc in absurd (omega arith)) (λ h s. h)

-- the count, or the most that is counted
pub counted_or : (n first : ℕ) (o : Option ℕ) → first ≡ unwrap_or o max_listed → o ≡ counted n → first ≡ min n max_listed
counted_or n first o is e =
    counted_by n o e
    (λ h s. is ∙ ap (λ t. unwrap_or t max_listed) s ∙ omega arith)
    (λ h s. is ∙ ap (λ t. unwrap_or t max_listed) s ∙ omega arith)

pub some_then : (b : Bool) (n : ℕ) → then_some b n ≡ cond b (Some n) None
some_then true n = refl
some_then false n = refl

-- the count of two lists from the counts of each
module _ (xs ys : List Box) where
  pub too_many_left : None ≡ counted (length xs) → None ≡ counted (length (xs ++ ys))
  too_many_left e = let many = counted_past (length xs) e in sym (counted_none (length (xs ++ ys)) (omega (arith, length-append xs ys)))

  pub too_many_right : None ≡ counted (length ys) → None ≡ counted (length (xs ++ ys))
  too_many_right e = let many = counted_past (length ys) e in sym (counted_none (length (xs ++ ys)) (omega (arith, length-append xs ys)))

  module _ (a b : ℕ) (one : Some a ≡ counted (length xs)) (two : Some b ≡ counted (length ys)) where
    pub sum_small : a + b ≤ max_listed + max_listed
    sum_small = let l = counted_is (length xs) a one in let m = counted_is (length ys) b two in omega arith

    sum_is : a + b ≡ length (xs ++ ys)
    sum_is = let l = counted_is (length xs) a one in let m = counted_is (length ys) b two in omega (arith, length-append xs ys)

    pub sum_counted : then_some (nat_le (a + b) max_listed) (a + b) ≡ counted (length (xs ++ ys))
    sum_counted = some_then (nat_le (a + b) max_listed) (a + b) ∙ ap counted sum_is

    pub sum_too_many : max_listed < a + b → None ≡ counted (length (xs ++ ys))
    sum_too_many many = sym (counted_none (length (xs ++ ys)) (omega (arith, sum_is)))

pub at_left : (xs ys : List Box) (i : ℕ) → i < length xs → box_at (xs ++ ys) i ≡ box_at xs i
at_left xs ys i h = get_or_append_left xs ys no_box i h

pub at_right : (xs ys : List Box) (n i : ℕ) → n ≡ length xs → n ≤ i → box_at (xs ++ ys) i ≡ box_at ys (i - n)
at_right xs ys n i e h = get_or-append_right xs ys n i no_box (sym e) h

pub both_kept : (one two : ℕ → Room → ℕ → Point → Bool) → BothKept one two
both_kept one two k r q = (
  λ keeps. (λ p h. (or_parts _ _ (keeps p h)).0, λ p h. (or_parts _ _ (keeps p h)).1),
  λ (a, b) p h. or_from _ _ (a p h) (b p h),
)

module _ (k : ℕ) (r : Room) (p : ℕ) (one two : Point → Bool) where
  shuts_left : (b : Box) → Shuts k r p one b → Shuts k r p (λ x. one x || two x) b
  shuts_left b s y w h = or_left _ _ (s y w h)

  shuts_right : (b : Box) → Shuts k r p two b → Shuts k r p (λ x. one x || two x) b
  shuts_right b s y w h = or_right _ _ (s y w h)

  box_left : (b : Box) → ListsBox k r p one b → ListsBox k r p (λ x. one x || two x) b
  box_left b l = record { shuts = shuts_left b l.shuts; some = l.some; ends = l.ends }

  box_right : (b : Box) → ListsBox k r p two b → ListsBox k r p (λ x. one x || two x) b
  box_right b l = record { shuts = shuts_right b l.shuts; some = l.some; ends = l.ends }

  pub lists_both : (xs ys : List Box) → Lists k r p one xs → Lists k r p two ys → Lists k r p (λ x. one x || two x) (xs ++ ys)
  lists_both xs ys l m = record {
    each = λ i h. ⊎_elim
        (λ left. subst (λ b. ListsBox k r p (λ x. one x || two x) b) (sym (at_left xs ys i left)) (box_left _ (l.each i left)))
        (λ right. subst (λ b. ListsBox k r p (λ x. one x || two x) b) (sym (at_right xs ys (length xs) i refl right)) (box_right _ (m.each (i - length xs) (omega (arith, length-append xs ys)))))
        (cases_lt i (length xs));
    every = λ x w s. ⊎_elim
        (λ a. let (i, h, held) = l.every x w a in (i, omega (arith, length-append xs ys), subst (λ b. Holds k b x) (sym (at_left xs ys i h)) held))
        (λ a.
        let (i, h, held) = m.every x w a in
        let back : (length xs + i) - length xs ≡ i = omega arith in
        (length xs + i, omega (arith, length-append xs ys), subst (λ b. Holds k b x) (sym (at_right xs ys (length xs) (length xs + i) refl (omega arith) ∙ rw back)) held))
        (or_cases (one x) (two x) s);
  }
