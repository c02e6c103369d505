-- What shading a board gives.
use Rattle.std.specs.Prelude.{ℕ, Bool, List, take, Some, None, Ok, Err, Option, Result}
use Rattle.room.specs.Seen.{Box, Room, room_of}
use Rattle.room.specs.declared.piece.Piece.{Piece}
use Rattle.room.specs.declared.refusal.Refusal.{Refusal}
use Rattle.rule.specs.Refused.{board_refusal}
use Rattle.shade.specs.Picture.{Shutting, shade_text}

-- a refusal, or else the text
abbrev pub or_text : Option Refusal → List ℕ → Result (List ℕ) Refusal
or_text (Some e) text = Err e
or_text None text = Ok text

-- under a rule by its meaning, the text of a board, or why it is refused: as a question about the first piece is
abbrev pub shaded : (ℕ → ℕ → Bool) → Shutting → (ℕ → Room → ℕ → List Box) → ℕ → ℕ → List Piece → Result (List ℕ) Refusal
shaded suited shut boxes k n records =
    or_text (board_refusal suited k n records 0 None) (shade_text shut boxes k (room_of k (take n records)))
