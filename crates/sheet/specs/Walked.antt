-- A walk over the lines of a text.
use Rattle.std.specs.Prelude.{ℕ, ◌+◌, List, drop}
use Rattle.text.specs.Lines.{Line, lines}

-- the lines that are left, and the number of the first of them
pub record LinesLeft : Type 0 where
  pub number : ℕ
  pub left : List Line

-- before the walk, all of them
abbrev pub all_lines : List ℕ → LinesLeft
all_lines text = record { number = 1; left = lines text }

-- once n of them are taken
abbrev pub after : ℕ → LinesLeft → LinesLeft
after n l = record { number = l.number + n; left = drop n l.left }
