-- What formatting a text gives.
use Rattle.std.specs.Prelude.{ℕ, List, Result}
use Rattle.room.specs.declared.refusal.Refusal.{Refusal}
use Rattle.forms.specs.Outcome.{map_ok}
use Rattle.sheet.specs.Meaning.{meaning}
use Rattle.canon.specs.Canonical.{canonical}

-- the canonical text of what a text says, or why it is refused
abbrev pub formatted : List ℕ → Result (List ℕ) Refusal
formatted text = map_ok canonical (meaning text)
