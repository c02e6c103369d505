-- Bytes within a range.
use Rattle.std.specs.Prelude.{ℕ, Bool, ◌&&◌, List, nat_le}
use Rattle.std.specs.List.{list_all}

abbrev pub within : ℕ → ℕ → ℕ → Bool
within low high c = nat_le low c && nat_le c high

abbrev pub all_within : ℕ → ℕ → List ℕ → Bool
all_within low high bytes = list_all (within low high) bytes
