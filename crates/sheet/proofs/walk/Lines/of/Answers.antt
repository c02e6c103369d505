use Rattle.std.proofs.Common.{ℕ, ◌+◌, ◌≤◌, true, eqb, List, [], ◌∷◌, length, arith}
use Rattle.std.proofs.lemmas.Bool.{cond_both}
use Rattle.text.specs.Lines.{Line, line, lines, grown}
use Rattle.sheet.proofs.walk.Lines.of.Goals as goal

length-grown : (c : ℕ) (ls : List Line) → length (grown c ls) ≤ length ls + 1
length-grown c [] = omega arith
length-grown c (l ∷ ls) = omega arith

-- a text has no more lines than bytes
length-lines : (text : List ℕ) → length (lines text) ≤ length text
length-lines [] = omega arith
length-lines (c ∷ cs) =
    cond_both (eqb c 10) (line [] true ∷ lines cs) (grown c (lines cs)) (λ ls. length ls ≤ length (c ∷ cs))
    (λ e. omega (arith, length-lines cs))
    (λ e. omega (arith, length-lines cs, length-grown c (lines cs)))

pub invariant_of-result : goal.invariant_of-result
invariant_of-result c = omega (arith, length-lines c.args.text.now)
