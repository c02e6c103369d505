-- A row of the wall map is read back from its line.
use Rattle.std.proofs.Common.{◌≡◌, ℕ, List, [], ◌∷◌, ◌++◌, map, length, Some, Ok, codes, refl, ap, arith}
use Rattle.std.specs.List.{AllByRecursion}
use Rattle.std.proofs.lemmas.List.{length-map}
use Rattle.std.proofs.lemmas.Bool.{le-leb}
use Rattle.room.specs.declared.walls.Cell.{Cell}
use Rattle.room.specs.declared.walls.Cell.TheVariants.{Wall, Open}
use Rattle.text.proofs.Range.{InRange}
use Rattle.forms.specs.Forms.{letter, cells, cell_first, says_wall}
use Rattle.sheet.specs.Fits.{RowFits}
use Rattle.canon.proofs.Lines.{Fit, shown_after}
use Rattle.canon.specs.Canonical.{row_line}

-- a row line without its line feed
abbrev pub row_body : List Cell → List ℕ
row_body cs = codes "wall " ++ map letter cs

pub row_apart : (cs : List Cell) → row_line cs ≡ row_body cs ++ (10 ∷ [])
row_apart cs = refl

cells_back : (cs : List Cell) → cells (map letter cs) ≡ Some cs
cells_back [] = refl
cells_back (Wall ∷ cs) = ap (cell_first (Some Wall)) (cells_back cs)
cells_back (Open ∷ cs) = ap (cell_first (Some Open)) (cells_back cs)

letters_shown : (cs : List Cell) → AllByRecursion (InRange 32 126) (map letter cs)
letters_shown [] = tt
letters_shown (Wall ∷ cs) = ((omega arith, omega arith), letters_shown cs)
letters_shown (Open ∷ cs) = ((omega arith, omega arith), letters_shown cs)

pub row_fit : (cs : List Cell) → RowFits cs → Fit (row_body cs)
row_fit cs h = record { short = omega (arith, length-map cs letter, h.few); shown = shown_after (codes "wall ") (map letter cs) refl (letters_shown cs) }

pub row_back : (cs : List Cell) → RowFits cs → says_wall (row_body cs) ≡ Ok cs
row_back [] h = absurd (omega (arith, h.some))
row_back (c ∷ cs) h = rw (cells_back (c ∷ cs), le-leb (length (c ∷ cs)) 64 h.few)
