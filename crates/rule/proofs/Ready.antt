-- What is known once the checks of a question have passed.
use Rattle.std.proofs.Common.{◌≡◌, ℕ, ◌<◌, ◌≤◌, Bool, true, List, length, take, ℤ, Option, Decides, refl, ap, ◌∙◌, subst, arith}
use Rattle.std.proofs.lemmas.List.{get_or-take, length-take, length-take-le}
use Rattle.std.proofs.lemmas.Int.{ints}
use Rattle.std.proofs.lemmas.Bool.{cond-true, le-leb, lt-ltb}
use Rattle.std.proofs.lemmas.Bool.Decides.{same_from_decides, nat_tests}
use Rattle.room.specs.Fit.{Board, records_fit}
use Rattle.room.specs.Seen.{Point, Box, Holds, Within, at, bounds_box, highs, holds, lows, no_piece, on_axis, point_of, room_of}
use Rattle.room.specs.declared.piece.Piece.{Piece}
use Rattle.room.proofs.Cuts.{cut_below, cut_past, decides_holds}
use Rattle.room.proofs.Fitting.{records_limits}
use Rattle.room.specs.declared.refusal.Refusal.{Refusal}
use Rattle.rule.specs.Questions.{Ready}
use Rattle.rule.specs.Refused.{board_range, board_refusal}
use Rattle.rule.specs.Subjects.{WithinBounds}
use Rattle.rule.specs.declared.questions.Question.{Question}
use Rattle.rule.specs.declared.subject.Subject.{Subject}

module _ (k n : ℕ) (records : List Piece) (range : board_range k n ≡ true) (lent : n ≤ length records) (fits : records_fit k (take n records) ≡ true) where
  pub board_is : Board k (take n records)
  board_is = record {
    axes_from = grind (arith, nat_tests);
    axes_to = grind (arith, nat_tests);
    pieces_to = let e = length-take-le n records lent in grind (arith, nat_tests);
    limits = records_limits k (take n records) fits;
  }

  pub passed : (suited : ℕ → ℕ → Bool) (p : ℕ) → suited k n ≡ true → p < n → (next : Option Refusal) → board_refusal suited k n records p next ≡ next
  passed suited p suits known next = cond-true _ _ _ range ∙ cond-true _ _ _ (le-leb _ _ lent) ∙ cond-true _ _ _ fits ∙ cond-true _ _ _ suits ∙ cond-true _ _ _ (lt-ltb _ _ known)

-- a point that the box of a piece's present ends holds is a point within its bounds
pub within_bounds : (k : ℕ) (records : List Piece) (p : ℕ) (origins : List ℤ) → Holds k (bounds_box (at records p)) (point_of k origins) → Within k (room_of k records) p (point_of k origins)
within_bounds k records p origins held = record {
  above = λ d h. let e = cut_below k (lows (at records p).present) d h in let t = held d h in omega (arith, ints);
  under = λ d h. let e = cut_below k (highs (at records p).present) d h in let t = held d h in omega (arith, ints);
  flat = cut_past k (on_axis origins);
}

-- the test of the point, put to the first records, is that of all of them
pub first_holds : (k n : ℕ) (records board : List Piece) (p : ℕ) (x : Point) (bounds : Box) (answer : Bool) → board ≡ take n records → p < length board → bounds ≡ bounds_box (at board p) → Decides answer (Holds k bounds x) → holds k (bounds_box (at records p)) x ≡ answer
first_holds k n records board p x bounds answer first known is decides =
    let below : p < n = omega (arith, ap length first, length-take n records) in
    same_from_decides _ answer (decides_holds k (bounds_box (at records p)) x)
    (subst (λ b. Decides answer (Holds k b x)) (is ∙ ap (λ rs. bounds_box (at rs p)) first ∙ ap bounds_box (get_or-take n records p no_piece below)) decides)

-- what is known of the piece that may be asked about is known of the piece that the question names
module _ (suited : ℕ → ℕ → Bool) (q : Question) (s : Subject) (ready : Ready suited q s) where
  pub moved : (P : ℕ → List Piece → ℕ → Type 0) → P s.axes s.records.now s.piece → P q.axes (take q.pieces q.records.now) q.piece
  moved P h =
      subst (λ k. P k (take q.pieces q.records.now) q.piece) ready.axes
      (subst (λ rs. P s.axes rs q.piece) ready.first
      (subst (λ p. P s.axes s.records.now p) ready.piece h))

  -- the test of a point, put to the subject, is that of the question
  pub held_first : (origins : List ℤ) (record_ : Piece) (bounds : Box) (answer : Bool) → record_ ≡ at s.records.now s.piece → bounds ≡ bounds_box record_ → Decides answer (Holds s.axes bounds (point_of s.axes origins)) → holds q.axes (bounds_box (at q.records.now q.piece)) (point_of q.axes origins) ≡ answer
  held_first origins record_ bounds answer asked is decides =
      first_holds q.axes q.pieces q.records.now (take q.pieces q.records.now) q.piece (point_of q.axes origins) _ answer refl
      (moved (λ k rs p. p < length rs) s.known) refl
      (moved (λ k rs p. Decides answer (Holds k (bounds_box (at rs p)) (point_of k origins)))
      (subst (λ b. Decides answer (Holds s.axes b (point_of s.axes origins))) (is ∙ ap bounds_box asked) decides))

  pub within_first : (origins : List ℤ) (record_ : Piece) (bounds : Box) → record_ ≡ at s.records.now s.piece → bounds ≡ bounds_box record_ → Holds s.axes bounds (point_of s.axes origins) → WithinBounds s origins
  within_first origins record_ bounds asked is held =
      within_bounds s.axes s.records.now s.piece origins (subst (λ b. Holds s.axes b (point_of s.axes origins)) (is ∙ ap bounds_box asked) held)
