-- Boxes with the same ends, boxes inside the bounds of a piece, and what is given under a test.
use Rattle.std.proofs.Common.{◌≡◌, ℕ, ◌<◌, ◌≤◌, Bool, true, false, cond, ℤ, ◌≤ℤ◌, Some, None, Option, Decides, sym, refl, ◌∙◌, subst, arith}
use Rattle.std.specs.Bool.{then_some}
use Rattle.std.proofs.lemmas.Int.{ints}
use Rattle.std.proofs.lemmas.Bool.Decides.{Decides-like, same_from_decides}
use Rattle.room.specs.Seen.{Room, Point, Box, Holds, Meets, at, box_of, highs, lows, meets}
use Rattle.room.specs.declared.piece.Piece.{Piece}
use Rattle.room.specs.declared.region.Region.{Region}
use Rattle.room.proofs.Cuts.{decides_meets, meets_known, meets_seen}
use Rattle.room.proofs.Fitting.{limits_seen}
use Rattle.rule.specs.Gathered.{Shows}
use Rattle.rule.specs.Means.{Covers, EndsFit, SameBox}
use Rattle.rule.specs.Subjects.{room_seen}
use Rattle.rule.specs.declared.subject.Subject.{Subject}

pub same_back : {k : ℕ} {b c : Box} → SameBox k b c → SameBox k c b
same_back same = record { from_same = λ d h. sym (same.from_same d h); to_same = λ d h. sym (same.to_same d h) }

pub same_trans : {k : ℕ} {b c d : Box} → SameBox k b c → SameBox k c d → SameBox k b d
same_trans one two = record { from_same = λ d h. one.from_same d h ∙ two.from_same d h; to_same = λ d h. one.to_same d h ∙ two.to_same d h }

-- on fewer axes
pub same_few : {k : ℕ} {b c : Box} (n : ℕ) → k ≤ n → SameBox n b c → SameBox k b c
same_few n few same = record { from_same = λ d h. same.from_same d (omega arith); to_same = λ d h. same.to_same d (omega arith) }

pub same_holds : {k : ℕ} {b c : Box} (x : Point) → SameBox k b c → Holds k b x → Holds k c x
same_holds x same held d h =
    let f = same.from_same d h in
    let t = same.to_same d h in
    let at = held d h in
    (omega (arith, ints), omega (arith, ints))

pub same_meets : {k : ℕ} {b c : Box} (low high : ℕ → ℤ) → SameBox k b c → Meets k b low high → Meets k c low high
same_meets low high same meets d h =
    let f = same.from_same d h in
    let t = same.to_same d h in
    let at = meets d h in
    (omega (arith, ints), omega (arith, ints), omega (arith, ints))

pub same_ends : {k : ℕ} {b c : Box} → SameBox k b c → EndsFit k b → EndsFit k c
same_ends same ends = record {
  least = λ d h. let f = same.from_same d h in let e = ends.least d h in omega (arith, ints);
  most = λ d h. let t = same.to_same d h in let e = ends.most d h in omega (arith, ints);
}

-- a box answers for a point where one with the same ends does
pub same_covers : {k : ℕ} {r : Room} {p : ℕ} {shut : Point → Bool} {x : Point} {b c : Box} → SameBox k b c → Covers k r p shut x b → Covers k r p shut x c
same_covers {x} same covers = record {
  holds = same_holds x same covers.holds;
  shuts = λ y within held. covers.shuts y within (same_holds y (same_back same) held);
  ends = same_ends same covers.ends;
}

-- a value given under a test
pub given_some : {A : Type 0} (test : Bool) (x y : A) → cond test (Some x) None ≡ Some y → (test ≡ true) × (x ≡ y)
given_some true x y e = (refl, cc)
given_some false x y e = let z : ◌≡◌ {A = ℕ} 0 1 = cc in absurd (omega arith)

-- a region that is given under a test shows the box that is given under it
pub shows_given : (k : ℕ) (test : Bool) (b : Box) (region : Region) (answer : Option Region) → answer ≡ then_some test region → SameBox k (box_of region) b → Shows k (cond test (Some b) None) answer
shows_given k true b region answer is same = subst (Shows k (Some b)) (sym is) (b, refl, same)
shows_given k false b region answer is same = subst (Shows k None) (sym is) refl

-- a region that has the ends of a box meets the bounds as they stand in the record where the box meets the bounds that are seen
pub met_seen : (s : Subject) (b : Box) (region : Region) (piece : Piece) (met : Bool) → piece ≡ at s.records.now s.piece → SameBox s.axes (box_of region) b → Decides met (Meets s.axes (box_of region) (lows piece.present) (highs piece.present)) → met ≡ meets s.axes b ((room_seen s).low s.piece) ((room_seen s).high s.piece)
met_seen s b region piece met asked same decides =
    same_from_decides met _
    (Decides-like met
    (λ m. meets_seen s.axes b _ _ (subst (λ r. Meets s.axes b (lows r.present) (highs r.present)) asked (same_meets _ _ same m)))
    (λ m. same_meets _ _ (same_back same) (subst (λ r. Meets s.axes b (lows r.present) (highs r.present)) (sym asked) (meets_known s.axes b _ _ m)))
    decides)
    (decides_meets s.axes b ((room_seen s).low s.piece) ((room_seen s).high s.piece))

-- the bounds of the piece that is asked about are ranges, and a box inside them has ends that fit
pub bounds_order : (s : Subject) (d : ℕ) → d < s.axes → (room_seen s).low s.piece d ≤ℤ (room_seen s).high s.piece d
bounds_order s d h = (limits_seen s.axes s.records.now s.piece s.board s.known d h).order

pub inside_fits : (s : Subject) (b : Box) → ((d : ℕ) → ((room_seen s).low s.piece d ≤ℤ b.from d) × (b.to d ≤ℤ (room_seen s).high s.piece d)) → EndsFit s.axes b
inside_fits s b inside = record {
  least = λ d h. let i = inside d in let l = limits_seen s.axes s.records.now s.piece s.board s.known d h in omega (arith, ints);
  most = λ d h. let i = inside d in let l = limits_seen s.axes s.records.now s.piece s.board s.known d h in omega (arith, ints);
}
