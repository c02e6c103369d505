-- Ranges of origins on one axis.
use Rattle.std.specs.Prelude.{ℕ, Bool, ◌&&◌, List, take, zip, ℤ, int_le}
use Rattle.std.specs.List.{list_all}
use Rattle.room.specs.declared.span.Span.{Span}

-- the origin lies in the range
abbrev pub span_holds : Span → ℤ → Bool
span_holds s x = int_le s.lower x && int_le x s.upper

-- some origin lies in it
abbrev pub span_holds_any : Span → Bool
span_holds_any s = int_le s.lower s.upper

-- a range, some origin lies in it, that lies inside another
abbrev pub span_inside : Span → Span → Bool
span_inside s outer = int_le outer.lower s.lower && int_le s.lower s.upper && int_le s.upper outer.upper

-- it has an origin in common with a range whose lower end is not above its upper
abbrev pub span_meets : Span → Span → Bool
span_meets s t = int_le s.lower s.upper && (int_le s.lower t.upper && int_le t.lower s.upper)

-- on each of the first k axes
abbrev pub spans_hold : ℕ → List Span → List ℤ → Bool
spans_hold k spans origins = list_all (λ p. span_holds p.0 p.1) (take k (zip spans origins))

abbrev pub spans_meet : ℕ → List Span → List Span → Bool
spans_meet k spans others = list_all (λ p. span_meets p.0 p.1) (take k (zip spans others))
