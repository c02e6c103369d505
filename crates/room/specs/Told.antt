-- What each refusal tells: its number, its layer and its line, which is 0 where there is none.
use Rattle.std.specs.Prelude.{ℕ, List, ◌∷◌, ◌++◌, codes, decimal}
use Rattle.room.specs.declared.refusal.Layer.{Layer}
use Rattle.room.specs.declared.refusal.Layer.TheVariants.{Sheet, Rule, Board}
use Rattle.room.specs.declared.refusal.Told.{Told}
use Rattle.room.specs.declared.refusal.Refusal.{Refusal}
use Rattle.room.specs.declared.refusal.Refusal.TheVariants.{SheetTooLong, LineUnreadable, LineMissing, LineLeftOver, LineMalformed, LineOutOfRange, OutOfRange, MemoryShort, RecordUnfit, NotListed, OrdersFull, Unsuited}

abbrev telling : ℕ → Layer → ℕ → Told
telling n layer line = record { number = n; layer = layer; line = line }

abbrev pub told : Refusal → Told
told SheetTooLong = telling 1 Sheet 0
told (LineUnreadable line) = telling 2 Sheet line
told (LineMissing line) = telling 3 Sheet line
told (LineLeftOver line) = telling 3 Sheet line
told (LineMalformed line) = telling 4 Sheet line
told (LineOutOfRange line) = telling 5 Sheet line
told (OutOfRange layer) = telling 5 layer 0
told (MemoryShort layer) = telling 6 layer 0
told (RecordUnfit layer) = telling 7 layer 0
told NotListed = telling 11 Rule 0
told OrdersFull = telling 12 Rule 0
told Unsuited = telling 13 Rule 0

abbrev pub layer_word : Layer → List ℕ
layer_word Sheet = codes "sheet"
layer_word Rule = codes "rule"
layer_word Board = codes "board"

-- the line that a program prints: the word refused, the number, the layer and the line
abbrev pub refusal_line : Refusal → List ℕ
refusal_line e =
    codes "refused " ++ (decimal (told e).number ++ (32 ∷ (layer_word (told e).layer ++ (32 ∷ decimal (told e).line))))
