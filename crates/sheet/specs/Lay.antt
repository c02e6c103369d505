-- A plan laid down in lent memory.
use Rattle.std.specs.Prelude.{ℕ, cond, List, [], ◌∷◌, map, length, Ok, Err, Result, nat_lt, slice_set}
use Rattle.room.specs.declared.piece.Extent.{Extent}
use Rattle.room.specs.declared.piece.Piece.{Piece}
use Rattle.room.specs.declared.refusal.Layer.TheVariants.{Sheet}
use Rattle.room.specs.declared.refusal.Refusal.{Refusal}
use Rattle.room.specs.declared.refusal.Refusal.TheVariants.{MemoryShort}
use Rattle.room.specs.declared.region.Region.{Region}
use Rattle.forms.specs.declared.contents.Contents.{Contents}
use Rattle.sheet.specs.Plan.{Plan, contents_of}

-- the first places hold these, the others what they held
abbrev pub over : {A : Type 0} → List A → List A → List A
over [] old = old
over (n ∷ ns) [] = []
over (n ∷ ns) (x ∷ old) = n ∷ over ns old

abbrev pub spans_over : List Extent → Region → Region
spans_over es old = record { spans = over (map (λ e. e.span) es) old.spans }

-- a record on the announced axes: lengths, first ends, and present ends equal to the first
abbrev pub laid : List Extent → Piece → Piece
laid es old = record {
  lengths = over (map (λ e. e.length) es) old.lengths;
  first = spans_over es old.first;
  present = spans_over es old.present;
}

-- the first records, one for each piece
abbrev pub laid_all : List (List Extent) → List Piece → List Piece
laid_all [] rs = rs
laid_all (p ∷ ps) [] = []
laid_all (p ∷ ps) (r ∷ rs) = laid p r ∷ laid_all ps rs

-- one axis of a record
abbrev pub span_set : ℕ → Extent → Region → Region
span_set axis e old = record { spans = slice_set old.spans axis e.span }

abbrev pub axis_laid : ℕ → Extent → Piece → Piece
axis_laid axis e old = record {
  lengths = slice_set old.lengths axis e.length;
  first = span_set axis e old.first;
  present = span_set axis e old.present;
}

-- the answer, with this many records lent: the contents, or the first refusal; memory is looked at last
abbrev pub answered : ℕ → Result Plan Refusal → Result Contents Refusal
answered lent (Err e) = Err e
answered lent (Ok p) = cond (nat_lt lent (length p.pieces)) (Err (MemoryShort Sheet)) (Ok (contents_of p))

-- the records after it
abbrev pub left_in_records : Result Plan Refusal → List Piece → List Piece
left_in_records (Err e) old = old
left_in_records (Ok p) old = cond (nat_lt (length old) (length p.pieces)) old (laid_all p.pieces old)
