use Rattle.std.proofs.Common.{◌≡◌, ℤ, arith}
use Rattle.std.proofs.lemmas.Int.{ints}
use Rattle.room.specs.declared.span.Span.{Span}
use Rattle.walls.proofs.reach.Goals as goal

same_ends : (low high from to : ℤ) → low ≡ from → high ≡ to → ◌≡◌ {A = Span} (record { lower = low; upper = high }) (record { lower = from; upper = to })
same_ends low high from to l h = cc

pub returns : goal.returns
returns c = same_ends _ _ _ _ (omega (arith, ints)) (omega (arith, ints))
