-- A text with its first line taken off, and a line with its first items taken off.
use Rattle.std.specs.Prelude.{ℕ, List, [], Some, None, Option}
use Rattle.std.specs.Borrow.{Bor}
use Rattle.text.specs.Items.{items}
use Rattle.text.specs.Lines.{Line, lines}

-- the items that are left: none, where no space followed
abbrev pub items_after : Option (Bor (List ℕ)) → List (List ℕ)
items_after None = []
items_after (Some text) = items text.now

-- the lines that are left: none, where no line feed followed
abbrev pub lines_after : Option (Bor (List ℕ)) → List Line
lines_after None = []
lines_after (Some text) = lines text.now
