use Rattle.std.proofs.Common.{◌≡◌, ℕ, ◌<◌, ◌≤◌, List, take, length, None, Some, Option, arith, length-take-le}
use Rattle.std.specs.Io.KnownBytes.{Consumes, IsAtEnd}
use Rattle.std.proofs.lemmas.List.{take_at, take_all, append-nil}
use Rattle.console.specs.Reading.{CutAt}
use Rattle.console.proofs.answer.Goals as goal

-- what was read up to the end, or up to the room there is, is the input, cut
cut : (room n : ℕ) (old new : Option (List ℕ)) (bytes : List ℕ) → length bytes ≡ room → n ≤ length bytes → Consumes old new (take n bytes) → (n < length bytes → IsAtEnd new) → CutAt room old (take n bytes)
cut room n None new bytes long fits read end = let e = length-take-le n bytes fits in omega arith
cut room n (Some xs) None bytes long fits read end = absurd read
cut room n (Some xs) (Some ys) bytes long fits read end = let e = length-take-le n bytes fits in grind (arith, take_at, take_all, append-nil)

pub returns : goal.returns
returns g c =
    let read = c.in_ok-filled.ensures in
    (_, cut _ _ _ _ c.fill.new.buffer (omega arith) read.bound read.bytes read.end, c.in_ok-reply.ensures)
