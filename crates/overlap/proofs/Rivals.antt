-- The boxes of rivals: that each is a right box, and that together they are a right list.
use Rattle.std.proofs.Common.{◌≡◌, ℕ, ◌<◌, Bool, ◌&&◌, length, Some, None, Option, Decides, ap, ◌∙◌, subst, arith}
use Rattle.std.specs.Bool.{then_some}
use Rattle.std.proofs.lemmas.Int.{ints}
use Rattle.std.proofs.lemmas.Bool.{cond-true, cond-false}
use Rattle.std.proofs.lemmas.Bool.Decides.{Decides-and, Decides-like, same_from_decides}
use Rattle.room.specs.Seen.{Room, Box, Meets, box_of, meets}
use Rattle.room.specs.declared.region.Region.{Region}
use Rattle.room.proofs.Belows.{false_from}
use Rattle.room.proofs.Cuts.{common_point, decides_meets, meets_from}
use Rattle.room.proofs.Fitting.{limits_seen}
use Rattle.rule.specs.Gathered.{Shows, Sound}
use Rattle.rule.specs.Means.{EndsFit, ListsBox, SameBox, Shuts}
use Rattle.rule.specs.Subjects.{room_seen, shut_there}
use Rattle.rule.specs.declared.subject.Subject.{Subject}
use Rattle.rule.proofs.Boxes.{given_some, shows_given}
use Rattle.overlap.specs.Clash.{clash_box, clash_source, overlap_shut, rivals}
use Rattle.overlap.specs.Clashing.{Rivals, decides_rivals, decides_shut}
use Rattle.overlap.specs.declared.Overlap.{Overlap}

-- box ends: an end less a length, and an end and a length
pub ends_fit : (s : Subject) (j : ℕ) → j < length s.records.now → EndsFit s.axes (clash_box (room_seen s) s.piece j)
ends_fit s j known = record {
  least = λ d h.
      let asked = limits_seen s.axes s.records.now s.piece s.board s.known d h in
      let other = limits_seen s.axes s.records.now j s.board known d h in
      omega (arith, ints);
  most = λ d h.
      let other = limits_seen s.axes s.records.now j s.board known d h in
      omega (arith, ints);
}

module _ (mode : Overlap) (k : ℕ) (r : Room) (i j : ℕ) where
  -- all within the box of a rival is shut
  pub rival_shuts : j < r.count → Rivals mode k r i j → Shuts k r i (overlap_shut mode k r i) (clash_box r i j)
  rival_shuts known rival y within held = (decides_shut mode k r i y).1 (j, known, record { rival = rival; held = held })

  decides_source : Decides (rivals mode k r i j && meets k (clash_box r i j) (r.low i) (r.high i)) (Rivals mode k r i j × Meets k (clash_box r i j) (r.low i) (r.high i))
  decides_source = Decides-and _ _ (decides_rivals mode k r i j) (decides_meets k (clash_box r i j) (r.low i) (r.high i))

  source_some : Rivals mode k r i j → Meets k (clash_box r i j) (r.low i) (r.high i) → clash_source mode k r i j ≡ Some (clash_box r i j)
  unfolding clash_source
  source_some rival met = cond-true _ _ _ (decides_source.1 (rival, met))

  pub source_none : (Rivals mode k r i j → Meets k (clash_box r i j) (r.low i) (r.high i) → ⊥) → clash_source mode k r i j ≡ None
  unfolding clash_source
  source_none never = cond-false _ _ _ (false_from _ decides_source (λ (rival, met). never rival met))

  source_is : (b : Box) → clash_source mode k r i j ≡ Some b → Rivals mode k r i j × Meets k (clash_box r i j) (r.low i) (r.high i) × (clash_box r i j ≡ b)
  unfolding clash_source
  source_is b e =
      let (test, same) = given_some _ (clash_box r i j) b e in
      let (rival, met) = decides_source.0 test in
      (rival, met, same)

  -- the box of a rival is listed where it meets the bounds
  pub shown_if : (met : Bool) (region : Region) (answer : Option Region) → Rivals mode k r i j → Decides met (Meets k (clash_box r i j) (r.low i) (r.high i)) → answer ≡ then_some met region → SameBox k (box_of region) (clash_box r i j) → Shows k (clash_source mode k r i j) answer
  unfolding clash_source
  shown_if met region answer rival decides is same =
      let tests = same_from_decides met _ (Decides-like met (λ m. (rival, m)) (λ (_, m). m) decides) decides_source in
      shows_given k _ (clash_box r i j) region answer (is ∙ ap (λ test. then_some test region) tests) same

pub sound : (mode : Overlap) (s : Subject) → Sound s.axes (room_seen s) s.piece (shut_there (overlap_shut mode) s) (clash_source mode s.axes (room_seen s) s.piece) (length s.records.now)
sound mode s =
    let k = s.axes in
    let r = room_seen s in
    let i = s.piece in
    record {
      each = λ j b known gives.
          let (rival, met, same) = source_is mode k r i j b gives in
          subst (ListsBox k r i (overlap_shut mode k r i)) same (record {
            shuts = rival_shuts mode k r i j known rival;
            some = common_point k (clash_box r i j) r i (λ d h. (limits_seen k s.records.now i s.board s.known d h).order) met;
            ends = ends_fit s j known;
          });
      every = λ x within shut.
          let (j, known, boxed) = (decides_shut mode k r i x).0 shut in
          (j, clash_box r i j, known, source_some mode k r i j boxed.rival (meets_from k (clash_box r i j) r i x within boxed.held), boxed.held);
    }
