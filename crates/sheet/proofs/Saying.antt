-- What some lines say, line by line.
use Rattle.std.proofs.Common.{◌≡◌, ℕ, ◌+◌, List, [], ◌∷◌, ◌++◌, drop, Ok, Err, Result, refl, ap, append_assoc, arith}
use Rattle.std.proofs.lemmas.List.{drop-drop}
use Rattle.room.specs.declared.refusal.Refusal.{Refusal}
use Rattle.forms.specs.Outcome.{map_ok}
use Rattle.sheet.specs.Walked.{LinesLeft, after}

-- the items read, in front of those still to read
abbrev pub put_on : {A : Type 0} → List A → Result (List A) Refusal → Result (List A) Refusal
put_on xs r = map_ok (λ ys. xs ++ ys) r

-- one more is read
pub put_on_more : {A : Type 0} (xs : List A) (x : A) (r : Result (List A) Refusal) → put_on (xs ++ (x ∷ [])) r ≡ put_on xs (map_ok (λ ys. x ∷ ys) r)
put_on_more xs x (Ok ys) = ap Ok (append_assoc xs (x ∷ []) ys)
put_on_more xs x (Err e) = refl

-- m lines are taken after n others
pub after_after : (m n : ℕ) (l : LinesLeft) → after m (after n l) ≡ after (n + m) l
after_after m n l =
    let number : l.number + n + m ≡ l.number + (n + m) = omega arith in
    let left : drop m (drop n l.left) ≡ drop (n + m) l.left = drop-drop m n l.left in
    cc
