-- What a rule sees of a piece that it is asked about, on an axis: within the limits, and what the code reads.
use Rattle.std.proofs.Common.{◌≡◌, ℕ, ◌<◌, List, ℤ, pos, neg_ℤ, ◌≤ℤ◌, sym, ap, ◌∙◌, arith}
use Rattle.std.proofs.lemmas.Int.{ints}
use Rattle.room.specs.Fit.{Limits}
use Rattle.room.specs.Limits.{max_end, max_length}
use Rattle.room.specs.Seen.{at, on_axis, point_of}
use Rattle.room.specs.declared.piece.Piece.{Piece}
use Rattle.room.proofs.Cuts.{cut_below}
use Rattle.room.proofs.Fitting.{limits_seen}
use Rattle.rule.specs.Subjects.{WithinBounds, room_seen}
use Rattle.rule.specs.declared.subject.Subject.{Subject}
use Rattle.walls.specs.Drawn.{length_seen}

pub limits : (s : Subject) (d : ℕ) → d < s.axes → Limits (length_seen s d) ((room_seen s).low s.piece d) ((room_seen s).high s.piece d)
limits s = limits_seen s.axes s.records.now s.piece s.board s.known

-- an origin and a length that the code reads, where a rule sees these
pub record Read (origin length x size : ℤ) : Type 0 where
  pub origin_is : origin ≡ x
  pub length_is : length ≡ size
  pub origin_from : neg_ℤ (pos max_end) ≤ℤ x
  pub origin_to : x ≤ℤ pos max_end
  pub length_from : pos 0 ≤ℤ size
  pub length_to : size ≤ℤ pos max_length

pub length_read : (s : Subject) (d : ℕ) (piece : Piece) → d < s.axes → piece ≡ at s.records.now s.piece → on_axis piece.lengths d ≡ length_seen s d
length_read s d piece used is = ap (λ (q : Piece). on_axis q.lengths d) is ∙ sym (cut_below s.axes (on_axis (at s.records.now s.piece).lengths) d used)

pub read : (s : Subject) (d : ℕ) (piece : Piece) (origins : List ℤ) → d < s.axes → piece ≡ at s.records.now s.piece → WithinBounds s origins → Read (on_axis origins d) (on_axis piece.lengths d) (point_of s.axes origins d) (length_seen s d)
read s d piece origins used is within =
    let fits = limits s d used in
    let above = within.above d used in
    let under = within.under d used in
    record {
      origin_is = sym (cut_below s.axes (on_axis origins) d used);
      length_is = length_read s d piece used is;
      origin_from = omega (arith, ints);
      origin_to = omega (arith, ints);
      length_from = fits.size_from;
      length_to = fits.size_to;
    }
