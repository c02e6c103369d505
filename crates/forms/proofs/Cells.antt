-- The cells of a row, letter by letter.
use Rattle.std.proofs.Common.{◌≡◌, ℕ, suc, ◌+◌, ◌<◌, ◌≤◌, cond, ltb, List, [], ◌∷◌, ◌++◌, length, get_or, take, drop, Some, None, Ok, Err, codes, Option, sym, refl, ap, ◌∙◌, ⊎_elim, append_assoc, arith}
use Rattle.std.specs.Option.{option_map}
use Rattle.std.proofs.lemmas.List.{at_drop_more, length-take-le, length_push, take_all, take-append-le}
use Rattle.std.proofs.lemmas.Bool.{cases_lt}
use Rattle.std.proofs.lemmas.Bool.Decides.{nat_tests}
use Rattle.room.specs.declared.walls.Cell.{Cell}
use Rattle.text.specs.Items.{after}
use Rattle.forms.specs.declared.fault.Fault.TheVariants.{Range}
use Rattle.forms.specs.Forms.{cell_of, cells, cell_first, row, row_fits, says_wall}
use Rattle.forms.specs.Outcome.{judged, with_some}

-- cells in front of cells
abbrev pub put_cells : List Cell → Option (List Cell) → Option (List Cell)
put_cells cs o = option_map (λ ds. cs ++ ds) o

put_first : (cs : List Cell) (x : Cell) (o : Option (List Cell)) → put_cells (cs ++ x ∷ []) o ≡ put_cells cs (cell_first (Some x) o)
put_first cs x None = refl
put_first cs x (Some ds) = ap Some (append_assoc cs (x ∷ []) ds)

-- one letter more is a cell
pub cells_again : (done : List Cell) (letters : List ℕ) (i : ℕ) (x : Cell) → i < length letters → Some x ≡ cell_of (get_or letters i 0) → put_cells (done ++ x ∷ []) (cells (drop (i + 1) letters)) ≡ put_cells done (cells (drop i letters))
cells_again done letters i x h e =
    put_first done x (cells (drop (i + 1) letters))
    ∙ ap (put_cells done) (ap (λ o. cell_first o (cells (drop (i + 1) letters))) e ∙ sym (at_drop_more cells letters i 0 h))

-- a push keeps the first n items
pub push_within : {X : Type 0} (n : ℕ) (xs : List X) (x : X) → cond (ltb (length (take n xs)) n) (take n xs ++ x ∷ []) (take n xs) ≡ take n (xs ++ x ∷ [])
push_within n xs x = ⊎_elim room full (cases_lt (length xs) n)
  where
    room : length xs < n → cond (ltb (length (take n xs)) n) (take n xs ++ x ∷ []) (take n xs) ≡ take n (xs ++ x ∷ [])
    room h =
        let all : take n xs ≡ xs = take_all n xs (omega arith) in
        let more : take n (xs ++ x ∷ []) ≡ xs ++ x ∷ [] = take_all n (xs ++ x ∷ []) (omega (arith, length_push xs x)) in
        grind (arith, nat_tests)

    full : n ≤ length xs → cond (ltb (length (take n xs)) n) (take n xs ++ x ∷ []) (take n xs) ≡ take n (xs ++ x ∷ [])
    full h =
        let some : take n (xs ++ x ∷ []) ≡ take n xs = take-append-le n xs (x ∷ []) h in
        let many : length (take n xs) ≡ n = length-take-le n xs h in
        grind (arith, nat_tests)

length_first : (c : ℕ) (cs : List ℕ) (o : Option Cell) (p : Option (List Cell)) (ds : List Cell) → ((es : List Cell) → p ≡ Some es → length es ≡ length cs) → cell_first o p ≡ Some ds → length ds ≡ length (c ∷ cs)
length_first c cs None p ds ih e = absurd cc
length_first c cs (Some x) None ds ih e = absurd cc
length_first c cs (Some x) (Some es) ds ih e = let k : ds ≡ x ∷ es = cc in ap length k ∙ ap (λ n. suc n) (ih es refl)

-- a row has as many cells as letters
pub length_cells : (letters : List ℕ) (ds : List Cell) → cells letters ≡ Some ds → length ds ≡ length letters
length_cells [] ds e = let k : ds ≡ [] = cc in ap length k
length_cells (c ∷ cs) ds e = length_first c cs (cell_of c) (cells cs) ds (length_cells cs) e

row_some : (letters : List ℕ) → 0 < length letters → row letters ≡ cells letters
row_some [] h = absurd (omega arith)
row_some (c ∷ cs) h = refl

-- what a wall line says, once its letters are read
module _ (body letters : List ℕ) (xs : List Cell) (word : Some letters ≡ after (codes "wall ") body) (some : 0 < length letters) (read : Some xs ≡ option_map (take 64) (cells letters)) where
  row_said : says_wall body ≡ judged (cells letters) row_fits (λ cs. cs)
  row_said = ap (λ o. judged (with_some o row) row_fits (λ cs. cs)) (sym word) ∙ ap (λ o. judged o row_fits (λ cs. cs)) (row_some letters some)

  pub wall_wide : 64 < length letters → Err Range ≡ says_wall body
  wall_wide m = sym (row_said ∙ wide (cells letters) refl read)
    where
      wide : (o : Option (List Cell)) → cells letters ≡ o → Some xs ≡ option_map (take 64) o → judged o row_fits (λ cs. cs) ≡ Err Range
      wide None e h = absurd cc
      wide (Some ds) e h = let many = length_cells letters ds e in grind (arith, nat_tests)

  pub wall_row : length letters ≤ 64 → Ok xs ≡ says_wall body
  wall_row m = sym (row_said ∙ fits (cells letters) refl read)
    where
      fits : (o : Option (List Cell)) → cells letters ≡ o → Some xs ≡ option_map (take 64) o → judged o row_fits (λ cs. cs) ≡ Ok xs
      fits None e h = absurd cc
      fits (Some ds) e h =
          let few = length_cells letters ds e in
          let all : take 64 ds ≡ ds = take_all 64 ds (omega arith) in
          grind (arith, nat_tests)
