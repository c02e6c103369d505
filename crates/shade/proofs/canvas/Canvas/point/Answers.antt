use Rattle.std.proofs.Common.{◌≡◌, [], ◌∷◌, w32, to_z, of_z, rules}
use Rattle.shade.specs.Canvas.{origins_at}
use Rattle.shade.proofs.Spanning.{point_within}
use Rattle.shade.proofs.canvas.Canvas.point.Goals as goal

pub returns : goal.returns
returns g c =
    let canvas = c.args.self.now in
    let origins : to_z w32 (of_z w32 c.origin.result) ∷ (to_z w32 (of_z w32 c.origin-2.result) ∷ (to_z w32 (of_z w32 c.origin-3.result) ∷ [])) ≡ origins_at canvas c.args.plane c.args.row c.args.column = search rules in
    record {
      origins = origins;
      within = point_within canvas.subject.axes canvas.subject.records.now canvas.subject.piece c.args.plane c.args.row c.args.column _ c.args.self.now.subject.board c.args.self.now.subject.known c.requires.plane c.requires.row c.requires.column origins;
    }
