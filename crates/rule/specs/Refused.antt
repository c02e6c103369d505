-- Why a question is refused: checks in order, the first that fails decides.
use Rattle.std.specs.Prelude.{ℕ, Bool, cond, ◌&&◌, List, length, take, ℤ, Some, None, Option, nat_le, nat_lt}
use Rattle.room.specs.Fit.{records_fit}
use Rattle.room.specs.Limits.{max_axes, max_pieces}
use Rattle.room.specs.Seen.{at, bounds_box, holds, point_of}
use Rattle.room.specs.declared.piece.Piece.{Piece}
use Rattle.room.specs.declared.refusal.Layer.TheVariants.{Rule}
use Rattle.room.specs.declared.refusal.Refusal.{Refusal}
use Rattle.room.specs.declared.refusal.Refusal.TheVariants.{OutOfRange, MemoryShort, RecordUnfit, NotListed, Unsuited}
use Rattle.rule.specs.Means.{max_listed}

-- a check passes and the next ones decide, or this refusal is told
abbrev pub unless : Bool → Refusal → Option Refusal → Option Refusal
unless passes refusal next = cond passes next (Some refusal)

-- 1 to 3 axes, and 1 to 24 pieces
abbrev pub board_range : ℕ → ℕ → Bool
board_range k n = nat_le 1 k && nat_le k max_axes && nat_le 1 n && nat_le n max_pieces

abbrev pub suits_refusal : ℕ → ℕ → Option Refusal
suits_refusal k n = unless (board_range k n) (OutOfRange Rule) None

-- the checks of the other questions: the numbers of axes and pieces, the memory, the first n records, whether the rule
-- suits, and the piece; then what the question itself checks
abbrev pub board_refusal : (ℕ → ℕ → Bool) → ℕ → ℕ → List Piece → ℕ → Option Refusal → Option Refusal
board_refusal suited k n records p next =
    unless (board_range k n) (OutOfRange Rule)
    (unless (nat_le n (length records)) (MemoryShort Rule)
    (unless (records_fit k (take n records)) (RecordUnfit Rule)
    (unless (suited k n) Unsuited
    (unless (nat_lt p n) (OutOfRange Rule) next))))

-- the point lies within the present ends of its piece
abbrev pub cover_refusal : (ℕ → ℕ → Bool) → ℕ → ℕ → List Piece → ℕ → List ℤ → Option Refusal
cover_refusal suited k n records p origins =
    board_refusal suited k n records p (unless (holds k (bounds_box (at records p)) (point_of k origins)) (OutOfRange Rule) None)

-- where so many boxes are listed
abbrev pub count_refusal : (ℕ → ℕ → Bool) → ℕ → ℕ → List Piece → ℕ → ℕ → Option Refusal
count_refusal suited k n records p boxes =
    board_refusal suited k n records p (unless (nat_le boxes max_listed) (OutOfRange Rule) None)

abbrev pub listed_refusal : (ℕ → ℕ → Bool) → ℕ → ℕ → List Piece → ℕ → ℕ → ℕ → Option Refusal
listed_refusal suited k n records p boxes number =
    board_refusal suited k n records p
    (unless (nat_lt number max_listed) (OutOfRange Rule)
    (unless (nat_lt number boxes) NotListed None))
