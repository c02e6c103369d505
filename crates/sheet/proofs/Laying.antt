-- Records laid down axis by axis, and piece by piece.
use Rattle.std.proofs.Common.{◌≡◌, ℕ, ◌+◌, ◌<◌, ◌≤◌, List, [], ◌∷◌, ◌++◌, map, length, get_or, take, set, pos, sym, refl, ap, ◌∙◌, arith}
use Rattle.std.proofs.lemmas.List.{length-map, length-take-le, map_more}
use Rattle.room.specs.Seen.{no_span}
use Rattle.room.specs.declared.array_vec.ArrayVec.{ArrayVec}
use Rattle.room.specs.declared.piece.Extent.{Extent}
use Rattle.room.specs.declared.piece.Piece.{Piece}
use Rattle.sheet.specs.Lay.{over, laid, laid_all, axis_laid}

over_push : {A : Type 0} (ns old : List A) (x : A) → set (over ns old) (length ns) x ≡ over (ns ++ (x ∷ [])) old
over_push [] [] x = refl
over_push [] (o ∷ old) x = refl
over_push (n ∷ ns) [] x = refl
over_push (n ∷ ns) (o ∷ old) x = ap (λ l. n ∷ l) (over_push ns old x)

-- one more is written
over_more : {A : Type 0} (f : Extent → A) (es : List Extent) (i : ℕ) (d : Extent) (old : List A) → i < length es → set (over (map f (take i es)) old) i (f (get_or es i d)) ≡ over (map f (take (i + 1) es)) old
over_more f es i d old h =
    let n : length (map f (take i es)) ≡ i = length-map (take i es) f ∙ length-take-le i es (omega arith) in
    ap (λ k. set (over (map f (take i es)) old) k (f (get_or es i d))) (sym n)
    ∙ over_push (map f (take i es)) old (f (get_or es i d))
    ∙ ap (λ ns. over ns old) (sym (map_more f es i d h))

-- one more axis is laid down
pub axis_more : (es : List Extent) (i : ℕ) (d : Extent) (old : Piece) → i < length es → axis_laid i (get_or es i d) (laid (take i es) old) ≡ laid (take (i + 1) es) old
axis_more es i d old h =
    let a = over_more (λ e. e.length) es i d old.lengths h in
    let b = over_more (λ e. e.span) es i d old.first.spans h in
    let k = over_more (λ e. e.span) es i d old.present.spans h in
    cc

pub laid_push : (ps : List (List Extent)) (old : List Piece) (p : List Extent) (d : Piece) → length ps < length old → set (laid_all ps old) (length ps) (laid p (get_or (laid_all ps old) (length ps) d)) ≡ laid_all (ps ++ (p ∷ [])) old
laid_push [] [] p d h = absurd (omega arith)
laid_push [] (r ∷ old) p d h = refl
laid_push (q ∷ ps) [] p d h = absurd (omega arith)
laid_push (q ∷ ps) (r ∷ old) p d h = ap (λ l. laid q r ∷ l) (laid_push ps old p d (omega arith))

-- one more piece is laid down
pub piece_more : {X : Type 0} (f : X → List Extent) (xs : List X) (i : ℕ) (e : X) (old : List Piece) (d : Piece) → i < length xs → length xs ≤ length old → set (laid_all (map f (take i xs)) old) i (laid (f (get_or xs i e)) (get_or (laid_all (map f (take i xs)) old) i d)) ≡ laid_all (map f (take (i + 1) xs)) old
piece_more f xs i e old d h k =
    let n : length (map f (take i xs)) ≡ i = length-map (take i xs) f ∙ length-take-le i xs (omega arith) in
    ap (λ j. set (laid_all (map f (take i xs)) old) j (laid (f (get_or xs i e)) (get_or (laid_all (map f (take i xs)) old) j d))) (sym n)
    ∙ laid_push (map f (take i xs)) old (f (get_or xs i e)) d (omega arith)
    ∙ ap (λ ps. laid_all ps old) (sym (map_more f xs i e h))

-- what a read past the end of a slice stands for
abbrev pub no_extent : Extent
no_extent = record { length = pos 0; span = no_span }

abbrev pub no_extents : ArrayVec Extent 3
no_extents = record { len = 0; slots = [] }
