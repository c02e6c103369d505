use Rattle.std.proofs.Common.{◌≡◌, Bool, true, false, ℕ, List, Decides, sym, refl}
use Rattle.std.specs.Bool.{then_some}
use Rattle.std.proofs.lemmas.Bool.{both_ways, false≢true}
use Rattle.room.specs.Seen.{Meets, at, highs, lows}
use Rattle.room.specs.declared.walls.Cell.{Cell}
use Rattle.room.proofs.Cuts.{meets_known, meets_seen}
use Rattle.rule.specs.Gathered.{Shows}
use Rattle.rule.specs.Subjects.{room_seen}
use Rattle.rule.specs.declared.subject.Subject.{Subject}
use Rattle.walls.specs.Drawn.{cell_box, cell_given, column_of, length_seen, only, row_of, run_region}
use Rattle.walls.specs.Held.{walls_of}
use Rattle.walls.specs.Walled.{wall}
use Rattle.walls.proofs.Boxes.{given_none, given_some}
use Rattle.walls.proofs.WallRuleSources.source_box.Goals as goal

-- the box of a wall, where it meets the present bounds as they stand in the record
shows : (rows : List (List Cell)) (s : Subject) (source : ℕ) → wall rows (row_of source) (column_of source) ≡ true → (met : Bool) → Decides met (Meets s.axes (cell_box (room_seen s) s.piece source) (lows (at s.records.now s.piece).present) (highs (at s.records.now s.piece).present))
    → Shows s.axes (cell_given rows s.axes (room_seen s) s.piece source) (then_some met (run_region (length_seen s 0) (length_seen s 1) (column_of source) (only (row_of source))))
shows rows s source is true met = (
  cell_box (room_seen s) s.piece source,
  given_some rows s.axes (room_seen s) s.piece source is (meets_seen s.axes _ _ _ (met.0 refl)),
  record { from_same = λ d _. refl; to_same = λ d _. refl },
)
shows rows s source is false met = given_none rows s.axes (room_seen s) s.piece source (λ _ seen. false≢true (met.1 (meets_known s.axes _ _ _ seen)))

pub returns-then-not-is_wall : goal.returns-then-not-is_wall
returns-then-not-is_wall c =
    let s = c.args.subject.now in
    given_none (walls_of c.args.self.now) s.axes (room_seen s) s.piece c.args.source (λ is _. both_ways _ (sym c.if-not-is_wall.ensures) is)

pub returns : goal.returns
returns c =
    let met = rw (c.run_box-region.ensures, c.record.ensures) at c.meets-reached.ensures in
    rw (c.then_some.ensures, c.run_box-region.ensures) (shows (walls_of c.args.self.now) c.args.subject.now c.args.source (sym c.if-not-is_wall.ensures) c.meets-reached.result met)
