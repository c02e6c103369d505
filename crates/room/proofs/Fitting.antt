-- Records within the limits: those that passed the check, and what a rule sees of them.
use Rattle.std.proofs.Common.{◌≡◌, ℕ, zero, suc, ◌<◌, true, List, [], ◌∷◌, length, arith}
use Rattle.std.proofs.lemmas.Int.{ints}
use Rattle.std.proofs.lemmas.Bool.{and_parts}
use Rattle.room.specs.Fit.{AxisLimits, Board, Limits, axis_fits, first_extent, piece_fits, present_inside, records_fit}
use Rattle.room.specs.Limits.{extent_fits}
use Rattle.room.specs.Seen.{at, highs, lows, on_axis, room_of}
use Rattle.room.specs.declared.piece.Piece.{Piece}
use Rattle.room.proofs.Belows.{decides_all, passes}
use Rattle.room.proofs.Cuts.{cut_below}

axis_limits : (p : Piece) (d : ℕ) → axis_fits p d ≡ true → AxisLimits p d
axis_limits p d fits =
    let (extent, inside) = and_parts (extent_fits (first_extent p d)) (present_inside p d) fits in
    record {
      size_from = grind (arith, ints);
      size_to = grind (arith, ints);
      from = grind (arith, ints);
      order = grind (arith, ints);
      to = grind (arith, ints);
    }

piece_limits : (k : ℕ) (p : Piece) → piece_fits k p ≡ true → (d : ℕ) → d < k → AxisLimits p d
piece_limits k p fits d h = axis_limits p d ((decides_all (axis_fits p) (λ i. axis_fits p i ≡ true) (λ i. passes (axis_fits p i)) k).0 fits d h)

pub records_limits : (k : ℕ) (records : List Piece) → records_fit k records ≡ true → (p : ℕ) → p < length records → (d : ℕ) → d < k → AxisLimits (at records p) d
records_limits k [] fits p h = absurd (omega arith)
records_limits k (r ∷ rs) fits zero h = piece_limits k r (and_parts (piece_fits k r) (records_fit k rs) fits).0
records_limits k (r ∷ rs) fits (suc p) h = records_limits k rs (and_parts (piece_fits k r) (records_fit k rs) fits).1 p (omega arith)

-- the limits of a record, as a rule sees them
pub limits_seen : (k : ℕ) (records : List Piece) (p : ℕ) → Board k records → p < length records → (d : ℕ) → d < k → Limits ((room_of k records).size p d) ((room_of k records).low p d) ((room_of k records).high p d)
limits_seen k records p board known d h =
    let limits = board.limits p known d h in
    let size = cut_below k (on_axis (at records p).lengths) d h in
    let low = cut_below k (lows (at records p).present) d h in
    let high = cut_below k (highs (at records p).present) d h in
    record { size_from = omega (arith, ints); size_to = omega (arith, ints); from = omega (arith, ints); order = omega (arith, ints); to = omega (arith, ints) }
