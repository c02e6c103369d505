-- The ends of a piece on an axis.
use Rattle.std.proofs.Common.{◌≡◌, ℕ, ◌<◌, ◌≤◌, List, [], ◌∷◌, length, ℤ, pos, ◌≤ℤ◌, sym, refl, ap, ◌∙◌, ⊎_elim, arith}
use Rattle.std.proofs.lemmas.Int.{ints}
use Rattle.std.proofs.lemmas.Bool.{cases_lt}
use Rattle.room.specs.Fit.{Board}
use Rattle.room.specs.Seen.{Room, Within, at, highs, lows, on_axis, point_of, room_of}
use Rattle.room.specs.declared.piece.Piece.{Piece}
use Rattle.room.proofs.Cuts.{by_axis, cut_below, cut_past}
use Rattle.shade.specs.Canvas.{Spans}
use Rattle.shade.specs.Picture.{breadth, origin}

module _ (k : ℕ) (records : List Piece) (p d : ℕ) where
  pub spans_below : (low high : ℤ) → Board k records → p < length records → d < k → low ≡ lows (at records p).present d → high ≡ highs (at records p).present d → Spans (room_of k records) p d low high
  spans_below low high board known below low_is high_is =
      let limits = board.limits p known d below in
      record {
        low_is = low_is ∙ sym (cut_below k (lows (at records p).present) d below);
        high_is = high_is ∙ sym (cut_below k (highs (at records p).present) d below);
        from = omega (arith, ints);
        order = omega (arith, ints);
        to = omega (arith, ints);
      }

  pub spans_past : k ≤ d → Spans (room_of k records) p d (pos 0) (pos 0)
  spans_past past = record {
    low_is = sym (cut_past k (lows (at records p).present) d past);
    high_is = sym (cut_past k (highs (at records p).present) d past);
    from = omega (arith, ints);
    order = omega (arith, ints);
    to = omega (arith, ints);
  }

  pub order : Board k records → p < length records → (room_of k records).low p d ≤ℤ (room_of k records).high p d
  order board known = ⊎_elim
      (λ below. let s = spans_below _ _ board known below refl refl in omega (arith, ints))
      (λ past. let s = spans_past past in omega (arith, ints))
      (cases_lt d k)

-- an origin lies in its range
in_range : (r : Room) (p d i : ℕ) → r.low p d ≤ℤ r.high p d → i < breadth r p d → (r.low p d ≤ℤ origin r p d i) × (origin r p d i ≤ℤ r.high p d)
in_range r p d i ordered h = (omega (arith, ints), omega (arith, ints))

module _ (k : ℕ) (records : List Piece) (p plane row column : ℕ) (xs : List ℤ) where
  pub point_within : Board k records → p < length records → plane < breadth (room_of k records) p 2 → row < breadth (room_of k records) p 1 → column < breadth (room_of k records) p 0 → xs ≡ origin (room_of k records) p 0 column ∷ (origin (room_of k records) p 1 row ∷ (origin (room_of k records) p 2 plane ∷ [])) → Within k (room_of k records) p (point_of k xs)
  point_within board known planes rows columns is =
      let r = room_of k records in
      let few = board.axes_to in
      let ys : List ℤ = origin r p 0 column ∷ (origin r p 1 row ∷ (origin r p 2 plane ∷ [])) in
      let each : (d : ℕ) → d < 3 → (r.low p d ≤ℤ on_axis ys d) × (on_axis ys d ≤ℤ r.high p d) = by_axis (λ d. (r.low p d ≤ℤ on_axis ys d) × (on_axis ys d ≤ℤ r.high p d)) (in_range r p 0 column (order k records p 0 board known) columns) (in_range r p 1 row (order k records p 1 board known) rows) (in_range r p 2 plane (order k records p 2 board known) planes) in
      let at : (d : ℕ) → d < k → point_of k xs d ≡ on_axis ys d = λ d h. cut_below k (on_axis xs) d h ∙ ap (λ zs. on_axis zs d) is in
      record {
        above = λ d h. let e = at d h in let t = each d (omega arith) in omega (arith, ints);
        under = λ d h. let e = at d h in let t = each d (omega arith) in omega (arith, ints);
        flat = cut_past k (on_axis xs);
      }
