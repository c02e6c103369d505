-- What each question answers, for a rule by its meaning: the boards that it suits, the points that it shuts, and the boxes
-- that it lists. The records may be more than the pieces: only the first ones are looked at.
use Rattle.std.specs.Prelude.{◌≡◌, ℕ, Bool, List, length, take, ℤ, Some, None, Ok, Err, Option, Result}
use Rattle.room.specs.Seen.{Room, Point, Box, box_of, point_of, room_of}
use Rattle.room.specs.declared.refusal.Refusal.{Refusal}
use Rattle.room.specs.declared.region.Region.{Region}
use Rattle.rule.specs.Means.{Covered, Lists, ListsBox, SameBox, box_at}
use Rattle.rule.specs.Refused.{board_refusal, count_refusal, cover_refusal, listed_refusal, suits_refusal}
use Rattle.rule.specs.Subjects.{Suits}
use Rattle.rule.specs.declared.questions.Question.{Question}
use Rattle.rule.specs.declared.subject.Subject.{Subject}

-- an answer under checks: what they refuse is refused, and else the answer is right
abbrev pub Answers : {A : Type 0} → Option Refusal → (A → Type 0) → Result A Refusal → Type 0
Answers refusal Right (Ok answer) = (refusal ≡ None) × Right answer
Answers refusal Right (Err e) = refusal ≡ Some e

abbrev pub SuitsAnswer : (ℕ → ℕ → Bool) → ℕ → ℕ → Result Bool Refusal → Type 0
SuitsAnswer suited k n = Answers (suits_refusal k n) (λ answer. answer ≡ suited k n)

-- the checks that come first decide, or the next ones do
abbrev pub question_refusal : (ℕ → ℕ → Bool) → Question → Option Refusal → Option Refusal
question_refusal suited q next = board_refusal suited q.axes q.pieces q.records.now q.piece next

-- a question has passed those checks, and this is the piece that may be asked about
pub record Ready (suited : ℕ → ℕ → Bool) (q : Question) (s : Subject) : Type 0 where
  pub axes : s.axes ≡ q.axes
  pub first : s.records.now ≡ take q.pieces q.records.now
  pub piece : s.piece ≡ q.piece
  pub suits : Suits suited s
  pub passes : (next : Option Refusal) → question_refusal suited q next ≡ next

-- what the rule sees of the first records
abbrev pub first_room : Question → Room
first_room q = room_of q.axes (take q.pieces q.records.now)

abbrev pub first_shut : (ℕ → Room → ℕ → Point → Bool) → Question → Point → Bool
first_shut shut q = shut q.axes (first_room q) q.piece

-- the boxes that the rule lists for a piece
abbrev pub first_boxes : (ℕ → Room → ℕ → List Box) → Question → List Box
first_boxes boxes q = boxes q.axes (first_room q) q.piece

abbrev pub CoverAnswer : (ℕ → ℕ → Bool) → (ℕ → Room → ℕ → Point → Bool) → Question → List ℤ → Result (Option Region) Refusal → Type 0
CoverAnswer suited shut q origins =
    Answers (cover_refusal suited q.axes q.pieces q.records.now q.piece origins)
    (λ answer. Covered q.axes (first_room q) q.piece (first_shut shut q) (point_of q.axes origins) answer)

abbrev pub CountAnswer : (ℕ → ℕ → Bool) → (ℕ → Room → ℕ → Point → Bool) → (ℕ → Room → ℕ → List Box) → Question → Result ℕ Refusal → Type 0
CountAnswer suited shut boxes q =
    Answers (count_refusal suited q.axes q.pieces q.records.now q.piece (length (first_boxes boxes q)))
    (λ answer. (answer ≡ length (first_boxes boxes q)) × Lists q.axes (first_room q) q.piece (first_shut shut q) (first_boxes boxes q))

abbrev pub ListedAnswer : (ℕ → ℕ → Bool) → (ℕ → Room → ℕ → Point → Bool) → (ℕ → Room → ℕ → List Box) → Question → ℕ → Result Region Refusal → Type 0
ListedAnswer suited shut boxes q number =
    Answers (listed_refusal suited q.axes q.pieces q.records.now q.piece (length (first_boxes boxes q)) number)
    (λ answer.
    SameBox q.axes (box_of answer) (box_at (first_boxes boxes q) number)
    × ListsBox q.axes (first_room q) q.piece (first_shut shut q) (box_at (first_boxes boxes q) number))
