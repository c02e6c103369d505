use Rattle.std.proofs.Common.{rules, Option, ◌≡◌, ℕ, ◌+◌, ◌≤◌, List, ◌++◌, take, length, arith, subst, length-take-le}
use Rattle.std.proofs.Math.Seq.{take-append-add}
use Rattle.std.proofs.lemmas.List.{take-append-le}
use Rattle.std.specs.Io.KnownBytes.{Consumes}
use Rattle.std.proofs.KnownBytes.{Consumes-trans}
use borrow.Rule.Slice.PartMut.{put_mid}
use Rattle.console.proofs.fill.Goals as goal

-- after a read into the part past n, the first bytes are those that were there and then those that were read
joined : (n k got : ℕ) (xs ys : List ℕ) → n ≤ length xs → got ≤ length ys → take n xs ++ take got ys ≡ take (n + got) (put_mid n k xs ys)
joined n k got xs ys within fits = let e = length-take-le n xs within in grind (arith, take-append-add, take-append-le)

-- and they are what two reads gave
read_more : (before between after : Option (List ℕ)) (n k got : ℕ) (xs ys : List ℕ) → n ≤ length xs → got ≤ length ys → Consumes before between (take n xs) → Consumes between after (take got ys) → Consumes before after (take (n + got) (put_mid n k xs ys))
read_more before between after n k got xs ys within fits first second = subst (Consumes before after) (joined n k got xs ys within fits) (Consumes-trans before between after _ _ first second)

pub loop-filled-preserved : goal.loop-filled-preserved
loop-filled-preserved g c = search (rules, read_more)
