use Rattle.std.proofs.Common.{sym, ap, subst, arith}
use Rattle.std.proofs.lemmas.Int.{ints}
use Rattle.std.proofs.lemmas.Bool.{both_ways}
use Rattle.room.specs.Seen.{box_of, point_of}
use Rattle.room.proofs.Belows.{false_from}
use Rattle.rule.specs.Means.{Covers}
use Rattle.rule.specs.Subjects.{room_seen}
use Rattle.walls.specs.Held.{walls_of}
use Rattle.walls.specs.Walled.{walls_shut}
use Rattle.walls.specs.Walls.{decides_shut, wall_within}
use Rattle.walls.proofs.Boxes.{run_ends, run_holds, run_shuts}
use Rattle.walls.proofs.WallRuleRule.cover.Goals as goal

pub returns-then-subject-lt2 : goal.returns-then-subject-lt2
returns-then-subject-lt2 c =
    let s = c.args.subject.now in
    false_from _ (decides_shut (walls_of c.args.self.now) s.axes (room_seen s) s.piece _) (λ (two, _). omega arith)

-- no wall among the cells that the piece covers
pub returns-in_err-place : goal.returns-in_err-place
returns-in_err-place c =
    let s = c.args.subject.now in
    let rows = walls_of c.args.self.now in
    rw c.from_residual.ensures
    (false_from _ (decides_shut rows s.axes (room_seen s) s.piece _) (λ (two, covers).
    let within = wall_within rows covers.row covers.column covers.is_there in
    let in_rows = (c.covered-rows.ensures.cells covers.row within.row_below).0 covers.in_rows in
    let in_columns = (c.covered-columns.ensures.cells covers.column within.column_below).0 covers.in_columns in
    both_ways _ (c.in_err-place.ensures covers.row covers.column in_rows in_columns) covers.is_there))

pub returns : goal.returns
returns c =
    let s = c.args.subject.now in
    let rows = walls_of c.args.self.now in
    let x = point_of s.axes c.args.point.now.origins in
    let found = c.in_ok-place.ensures in
    let column = c.in_ok-place.place.column in
    let row = c.in_ok-place.place.row in
    let run = c.run_around-run.result in
    let whole = c.run_around-run.ensures in
    let there = wall_within rows row column found.is_there in
    let in_columns = (c.covered-columns.ensures.cells column there.column_below).1 found.in_columns in
    let in_rows = (c.covered-rows.ensures.cells row there.row_below).1 found.in_rows in
    let two = c.if-subject-lt2.false in
    subst (Covers s.axes (room_seen s) s.piece (walls_shut rows s.axes (room_seen s) s.piece) x) (sym (ap box_of c.run_box.ensures)) (record {
      holds = run_holds rows s two column run x row c.requires.within in_columns in_rows whole.around;
      shuts = run_shuts rows s two column run (omega (arith, ints)) (omega (arith, whole.around)) whole.walls;
      ends = run_ends rows s two column run there.column_below whole.within;
    })
