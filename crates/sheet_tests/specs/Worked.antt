-- Worked sheets: what some texts mean.
use Rattle.std.specs.Prelude.{◌≡◌, ℕ, List, [], ◌∷◌, ◌++◌, pos, Ok, Err, codes, Result}
use Rattle.std.specs.List.{AllByRecursion}
use Rattle.room.specs.declared.piece.Extent.{Extent}
use Rattle.room.specs.declared.refusal.Refusal.{Refusal}
use Rattle.room.specs.declared.refusal.Refusal.TheVariants.{LineUnreadable, LineMissing, LineLeftOver, LineMalformed, LineOutOfRange}
use Rattle.room.specs.declared.walls.Cell.TheVariants.{Wall, Open}
use Rattle.forms.specs.declared.contents.Mode.TheVariants.{Strict}
use Rattle.sheet.specs.Meaning.{meaning}
use Rattle.sheet.specs.Plan.{Plan}

-- lines, each with its line feed
abbrev ended : List (List ℕ) → List ℕ
ended [] = []
ended (l ∷ ls) = l ++ (10 ∷ ended ls)

abbrev extent : ℕ → ℕ → ℕ → Extent
extent length lower upper = record { length = pos length; span = record { lower = pos lower; upper = pos upper } }

-- two axes, three pieces, one order, two rows
abbrev sample : List ℕ
sample =
    ended
    (codes "sheet 2 strict 3 1 2" ∷ (codes "piece 3 1 0 1 0 1" ∷ (codes "piece 2 1 0 2 0 1" ∷ (codes "piece 1 1 0 3 0 1" ∷ (codes "before 0 2 0 0" ∷ (codes "wall ...." ∷ (codes "wall ...#" ∷ [])))))))

abbrev sample_plan : Plan
sample_plan = record {
  axes = 2;
  mode = Strict;
  pieces = (extent 3 0 1 ∷ (extent 1 0 1 ∷ [])) ∷ ((extent 2 0 2 ∷ (extent 1 0 1 ∷ [])) ∷ ((extent 1 0 3 ∷ (extent 1 0 1 ∷ [])) ∷ []));
  orders = record { before = 0; after = 2; axis = 0; gap = pos 0 } ∷ [];
  rows = (Open ∷ (Open ∷ (Open ∷ (Open ∷ [])))) ∷ ((Open ∷ (Open ∷ (Open ∷ (Wall ∷ [])))) ∷ []);
}

-- a text, and what it means
pub record Worked : Type 0 where
  pub text : List ℕ
  pub says : Result Plan Refusal

abbrev refused : List (List ℕ) → Refusal → Worked
refused ls e = record { text = ended ls; says = Err e }

abbrev pub worked_sheets : List Worked
worked_sheets =
    record { text = sample; says = Ok sample_plan }
    ∷ (refused [] (LineMissing 1)
    ∷ (record { text = codes "sheet 1 strict 1 0 0"; says = Err (LineUnreadable 1) }
    ∷ (refused (codes "sheet 1 strict 1 0 0" ∷ []) (LineMissing 2)
    ∷ (refused (codes "sheet 1 strict 1 0 0" ∷ (codes "piece 1 0 0" ∷ ([] ∷ []))) (LineLeftOver 3)
    ∷ (refused (codes "sheet 1 strict 1 0 0" ∷ (codes "piece 1 0" ∷ [])) (LineMalformed 2)
    ∷ (refused (codes "sheet 1 strict 1 0 0" ∷ (codes "piece 1 1 0" ∷ [])) (LineOutOfRange 2)
    ∷ (refused (codes "sheet 1 strict 1 0 1" ∷ (codes "piece 1 5 4" ∷ (codes "wall x" ∷ []))) (LineOutOfRange 2)
    ∷ [])))))))

abbrev pub WorkedSheets : Type 0
WorkedSheets = AllByRecursion (λ w. meaning w.text ≡ w.says) worked_sheets
