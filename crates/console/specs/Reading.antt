-- What is read of an input.
use Rattle.std.specs.Prelude.{◌≡◌, ℕ, ◌+◌, ◌≤◌, List, length, take, Some, None, Option}
use Rattle.sheet.specs.Meaning.{max_sheet}

-- of an input so many bytes are looked at: one more than a sheet may have, so that a longer input is told from the longest sheet
abbrev pub max_read : ℕ
max_read = max_sheet + 1

-- the bytes are the input's, cut at this many; of an input whose bytes are not known, they are no more
abbrev pub CutAt : ℕ → Option (List ℕ) → List ℕ → Type 0
CutAt room (Some given) bytes = bytes ≡ take room given
CutAt room None bytes = length bytes ≤ room
