-- A text as lines. A line is what stands before a line feed; what follows the last line feed, if anything, is a line too,
-- one that has not ended.
use Rattle.std.specs.Prelude.{ℕ, Bool, true, false, cond, ◌&&◌, List, [], ◌∷◌, length, ◌==◌, nat_le}
use Rattle.text.specs.Bytes.{all_within}

pub record Line : Type 0 where
  pub bytes : List ℕ
  pub ended : Bool

abbrev pub line : List ℕ → Bool → Line
line bytes ended = record { bytes = bytes; ended = ended }

-- a byte in front of the first line
abbrev pub grown : ℕ → List Line → List Line
grown c [] = line (c ∷ []) false ∷ []
grown c (l ∷ ls) = line (c ∷ l.bytes) l.ended ∷ ls

abbrev pub lines : List ℕ → List Line
lines [] = []
lines (c ∷ cs) = cond (c == 10) (line [] true ∷ lines cs) (grown c (lines cs))

-- bytes 32 to 126
abbrev pub printable : List ℕ → Bool
printable bytes = all_within 32 126 bytes

-- a line has at most 96 bytes without its line feed
abbrev pub max_line : ℕ
max_line = 96

abbrev pub bytes_readable : List ℕ → Bool
bytes_readable bytes = nat_le (length bytes) max_line && printable bytes

abbrev pub readable : Line → Bool
readable l = l.ended && bytes_readable l.bytes
