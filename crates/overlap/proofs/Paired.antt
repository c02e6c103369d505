-- A pair of pieces by their records, and what the rule sees of it.
use Rattle.std.proofs.Common.{◌≡◌, ℕ, ◌<◌, Bool, true, false, List, length, ℤ, Option, Decides, sym, ap, ◌∙◌, subst, arith}
use Rattle.std.specs.Bool.{then_some}
use Rattle.std.proofs.Math.Logic.{⊎_map}
use Rattle.std.proofs.lemmas.Int.{ints}
use Rattle.std.proofs.lemmas.Bool.Decides.{Decides-at, Decides-int_eq, Decides-like, Decides-or, not_from_Decides}
use Rattle.room.specs.Below.{any_below}
use Rattle.room.specs.Seen.{Holds, Meets, at, box_of, highs, holds, lows, on_axis, point_of}
use Rattle.room.specs.declared.piece.Piece.{Piece}
use Rattle.room.specs.declared.region.Region.{Region}
use Rattle.room.proofs.Belows.{decides_any}
use Rattle.room.proofs.Cuts.{axis_held, cut_below, decides_holds, held_on_axes, meets_known, meets_seen}
use Rattle.rule.specs.Gathered.{Shows}
use Rattle.rule.specs.Means.{Covers, SameBox}
use Rattle.rule.specs.Subjects.{room_seen, shut_there}
use Rattle.rule.specs.declared.subject.Subject.{Subject}
use Rattle.rule.proofs.Boxes.{same_back, same_covers, same_holds, same_meets, same_trans}
use Rattle.overlap.specs.Clash.{Exempt, clash_box, clash_source, overlap_shut}
use Rattle.overlap.specs.Clashing.{Rivals}
use Rattle.overlap.specs.Pairs.{HasZero, PairExempt, PairOf, pair_box, zero_on}
use Rattle.overlap.specs.declared.Overlap.{Overlap}
use Rattle.overlap.specs.declared.Overlap.TheVariants.{Strict, Nonstrict}
use Rattle.overlap.specs.declared.pair.Pair.{Pair}
use Rattle.overlap.proofs.Rivals.{ends_fit, rival_shuts, shown_if}

pub decides_has_zero : (p : Pair) → Decides (any_below (zero_on p) p.axes) (HasZero p)
decides_has_zero p = decides_any _ _ (λ d. Decides-or _ _ (Decides-int_eq _ _) (Decides-int_eq _ _)) p.axes

-- the piece that is asked about, beside piece j of its board
module _ (s : Subject) (j : ℕ) (p : Pair) (of : PairOf s (at s.records.now j) p) where
  -- what the rule sees of the two on an axis
  module _ (d : ℕ) (h : d < s.axes) where
    asked_size : (room_seen s).size s.piece d ≡ on_axis p.asked.now.lengths d
    asked_size = cut_below s.axes (on_axis (at s.records.now s.piece).lengths) d h ∙ ap (λ q. on_axis q.lengths d) (sym of.asked)

    other_size : (room_seen s).size j d ≡ on_axis p.other.now.lengths d
    other_size = cut_below s.axes (on_axis (at s.records.now j).lengths) d h ∙ ap (λ q. on_axis q.lengths d) (sym of.other)

    other_low : (room_seen s).low j d ≡ lows p.other.now.present d
    other_low = cut_below s.axes (lows (at s.records.now j).present) d h ∙ ap (λ q. lows q.present d) (sym of.other)

    other_high : (room_seen s).high j d ≡ highs p.other.now.present d
    other_high = cut_below s.axes (highs (at s.records.now j).present) d h ∙ ap (λ q. highs q.present d) (sym of.other)

  box_seen : SameBox s.axes (pair_box p) (clash_box (room_seen s) s.piece j)
  box_seen = record {
    from_same = λ d h. let size = asked_size d h in let high = other_high d h in omega (arith, ints);
    to_same = λ d h. let size = other_size d h in let low = other_low d h in omega (arith, ints);
  }

  region_seen : (region : Region) → SameBox p.axes (box_of region) (pair_box p) → SameBox s.axes (box_of region) (clash_box (room_seen s) s.piece j)
  region_seen region same = same_trans (subst (λ k. SameBox k (box_of region) (pair_box p)) of.axes same) box_seen

  clashes_seen : (test : Bool) (origins : List ℤ) → test ≡ holds p.axes (pair_box p) (on_axis origins) → Decides test (Holds s.axes (clash_box (room_seen s) s.piece j) (point_of s.axes origins))
  clashes_seen test origins is =
      Decides-like test
      (λ held. same_holds (point_of s.axes origins) box_seen (held_on_axes s.axes s.axes (pair_box p) origins (omega arith) held))
      (λ held d h. axis_held s.axes (pair_box p) origins d h (same_holds (point_of s.axes origins) (same_back box_seen) held))
      (Decides-at _ _ (is ∙ ap (λ k. holds k (pair_box p) (on_axis origins)) of.axes) (decides_holds s.axes (pair_box p) (on_axis origins)))

  zero_seen : HasZero p → Exempt Nonstrict s.axes (room_seen s) s.piece j
  zero_seen (d, h, zero) =
      let below : d < s.axes = omega (arith, of.axes) in
      (d, below, ⊎_map (λ e. asked_size d below ∙ e) (λ e. other_size d below ∙ e) zero)

  zero_known : Exempt Nonstrict s.axes (room_seen s) s.piece j → HasZero p
  zero_known (d, h, zero) = (d, omega (arith, of.axes), ⊎_map (λ e. sym (asked_size d h) ∙ e) (λ e. sym (other_size d h) ∙ e) zero)

  exempts_seen : (mode : Overlap) (test : Bool) → Decides test (PairExempt mode p) → Decides test (Exempt mode s.axes (room_seen s) s.piece j)
  exempts_seen Strict test decides = decides
  exempts_seen Nonstrict test decides = Decides-like test zero_seen zero_known decides

  pub not_held : (clashes : Bool) (origins : List ℤ) → clashes ≡ holds p.axes (pair_box p) (on_axis origins) → clashes ≡ false → Holds s.axes (clash_box (room_seen s) s.piece j) (point_of s.axes origins) → ⊥
  not_held clashes origins is out = not_from_Decides clashes (clashes_seen clashes origins is) out

  -- the pair under a mode
  module _ (mode : Overlap) (exempt : Bool) (decides : Decides exempt (PairExempt mode p)) where
    pub not_exempt : exempt ≡ true → Rivals mode s.axes (room_seen s) s.piece j → ⊥
    not_exempt is rival = rival.can ((exempts_seen mode exempt decides).0 is)

    rival_there : (j ≡ s.piece → ⊥) → exempt ≡ false → Rivals mode s.axes (room_seen s) s.piece j
    rival_there other can = record { other = other; can = not_from_Decides exempt (exempts_seen mode exempt decides) can }

    pub covers_there : (clashes : Bool) (origins : List ℤ) (region : Region) → clashes ≡ holds p.axes (pair_box p) (on_axis origins) → SameBox p.axes (box_of region) (pair_box p) → j < length s.records.now → (j ≡ s.piece → ⊥) → exempt ≡ false → clashes ≡ true → Covers s.axes (room_seen s) s.piece (shut_there (overlap_shut mode) s) (point_of s.axes origins) (box_of region)
    covers_there clashes origins region is same known other can held =
        same_covers (same_back (region_seen region same)) (record {
          holds = (clashes_seen clashes origins is).0 held;
          shuts = rival_shuts mode s.axes (room_seen s) s.piece j known (rival_there other can);
          ends = ends_fit s j known;
        })

    pub shown_there : (met : Bool) (asked : Piece) (region : Region) (answer : Option Region) → SameBox p.axes (box_of region) (pair_box p) → asked ≡ at s.records.now s.piece → Decides met (Meets s.axes (box_of region) (lows asked.present) (highs asked.present)) → answer ≡ then_some met region → (j ≡ s.piece → ⊥) → exempt ≡ false → Shows s.axes (clash_source mode s.axes (room_seen s) s.piece j) answer
    shown_there met asked region answer same is meets given other can =
        let seen = region_seen region same in
        let low = lows (at s.records.now s.piece).present in
        let high = highs (at s.records.now s.piece).present in
        shown_if mode s.axes (room_seen s) s.piece j met region answer (rival_there other can)
        (Decides-like met
        (λ m. meets_seen s.axes (clash_box (room_seen s) s.piece j) low high (same_meets low high seen m))
        (λ m. same_meets low high (same_back seen) (meets_known s.axes (clash_box (room_seen s) s.piece j) low high m))
        (subst (λ q. Decides met (Meets s.axes (box_of region) (lows q.present) (highs q.present))) is meets))
        given seen
