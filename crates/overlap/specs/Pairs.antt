-- A pair of pieces by their records: the asked piece by its lengths, the other by its record.
use Rattle.std.specs.Prelude.{◌≡◌, ℕ, ◌<◌, Bool, ◌||◌, ◌⊎◌, pos, ◌+ℤ◌, ◌-ℤ◌}
use Rattle.std.specs.Ordering.{int_eq}
use Rattle.room.specs.Seen.{Box, at, highs, lows, on_axis}
use Rattle.room.specs.declared.piece.Piece.{Piece}
use Rattle.rule.specs.declared.subject.Subject.{Subject}
use Rattle.overlap.specs.declared.Overlap.{Overlap}
use Rattle.overlap.specs.declared.Overlap.TheVariants.{Strict, Nonstrict}
use Rattle.overlap.specs.declared.pair.Pair.{Pair}

-- the piece that is asked about, beside another
pub record PairOf (s : Subject) (another : Piece) (p : Pair) : Type 0 where
  pub axes : p.axes ≡ s.axes
  pub asked : p.asked.now ≡ at s.records.now s.piece
  pub other : p.other.now ≡ another

-- the box of a pair
abbrev pub pair_box : Pair → Box
pair_box p = record {
  from = λ d. (highs p.other.now.present d -ℤ on_axis p.asked.now.lengths d) +ℤ pos 1;
  to = λ d. (lows p.other.now.present d +ℤ on_axis p.other.now.lengths d) -ℤ pos 1;
}

-- a length of the pair is 0 on some axis
abbrev pub HasZero : Pair → Type 0
HasZero p = (d : ℕ) × (d < p.axes) × ((on_axis p.asked.now.lengths d ≡ pos 0) ⊎ (on_axis p.other.now.lengths d ≡ pos 0))

-- a length of the pair is 0 on this axis
abbrev pub zero_on : Pair → ℕ → Bool
zero_on p d = int_eq (on_axis p.asked.now.lengths d) (pos 0) || int_eq (on_axis p.other.now.lengths d) (pos 0)

-- the pair never clashes
abbrev pub PairExempt : Overlap → Pair → Type 0
PairExempt Strict p = ⊥
PairExempt Nonstrict p = HasZero p
