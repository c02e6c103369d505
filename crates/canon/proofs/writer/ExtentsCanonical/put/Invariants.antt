use Rattle.std.proofs.Common.{◌≡◌, ◌++◌, take, string_bytes}
use Rattle.std.specs.List.{flat_map}
use Rattle.canon.specs.Canonical.{spaced}
use Rattle.canon.proofs.writer.ExtentsCanonical.put.Given as goal

abbrev pub invariant-loop-length : goal.invariant-loop-length
invariant-loop-length l = string_bytes l.out ≡ string_bytes l.initial.out ++ flat_map (λ e. spaced e.length) (take l.length-index l.extents)
