-- A line as a word and items that are parted by one space.
use Rattle.std.specs.Prelude.{ℕ, cond, List, [], ◌∷◌, Some, None, Option, ◌==◌}
use Rattle.std.specs.List.{slice_split}

-- what stands before, between and after the spaces: two spaces in a row part an empty item off
abbrev pub items : List ℕ → List (List ℕ)
items text = slice_split (λ c. c == 32) text

-- what follows the word, where the text begins with it
abbrev pub after : List ℕ → List ℕ → Option (List ℕ)
after [] text = Some text
after (c ∷ word) [] = None
after (c ∷ word) (d ∷ text) = cond (c == d) (after word text) None
