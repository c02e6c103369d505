-- Texts that keep every limit of the format.
use Rattle.std.specs.Prelude.{◌≡◌, ℕ, ◌≤◌, true, List, length}
use Rattle.std.specs.List.{AllByRecursion}
use Rattle.text.specs.Lines.{lines, readable}
use Rattle.sheet.specs.Meaning.{max_sheet}

-- a text is no longer than a sheet may be, and each of its lines ends, is short enough and has only bytes 32 to 126
pub record KeepsLimits (text : List ℕ) : Type 0 where
  pub short : length text ≤ max_sheet
  pub each_line : AllByRecursion (λ l. readable l ≡ true) (lines text)
