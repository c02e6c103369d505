-- What an answer gives of an outcome, which is a text or a refusal, and what is printed of that.
use Rattle.std.specs.Prelude.{◌≡◌, ℕ, true, List, [], ◌∷◌, ◌++◌, is_ok, Ok, Err, string_bytes, Result, String}
use Rattle.std.specs.declared.alloc.Global.{Global}
use Rattle.room.specs.Told.{refusal_line}
use Rattle.room.specs.declared.refusal.Refusal.{Refusal}
use Rattle.answer.specs.declared.Unanswered.{Unanswered}
use Rattle.answer.specs.declared.Unanswered.TheVariants.{Refused, NoMemory}

-- a result is this outcome; memory may run out, but only where there is a text to write
abbrev pub Gives : Result (List ℕ) Refusal → Result (String Global) Unanswered → Type 0
Gives outcome (Ok t) = outcome ≡ Ok (string_bytes t)
Gives outcome (Err (Refused e)) = outcome ≡ Err e
Gives outcome (Err NoMemory) = is_ok outcome ≡ true

-- what is printed: the text, or the line of the refusal
abbrev pub printed : Result (List ℕ) Refusal → List ℕ
printed (Ok text) = text
printed (Err e) = refusal_line e ++ (10 ∷ [])
