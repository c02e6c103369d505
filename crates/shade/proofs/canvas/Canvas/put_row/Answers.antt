use Rattle.std.proofs.Common.{[], ◌∷◌, ◌++◌, string_bytes, ap, ◌∙◌, arith}
use Rattle.std.specs.List.{range_with_len, flat_map}
use Rattle.shade.specs.Canvas.{breadth_at, cell_at}
use Rattle.shade.specs.Picture.{letter}
use Rattle.text.proofs.Writes.{two_writes}
use Rattle.shade.proofs.Joining.{joined_all, joined_next}
use Rattle.shade.proofs.canvas.Canvas.put_row.Goals as goal

pub loop-column-preserved : goal.loop-column-preserved
loop-column-preserved g c =
    joined_next (cell_at c.args.self.now g.R.Rule.shut c.args.plane c.args.row) (string_bytes c.args.out.now) (string_bytes c.loop-column.out) (string_bytes c.put_letter.new.out) c.loop-column.column c.loop-column.invariant
    (c.in_ok-put_letter.ensures ∙ ap (λ b. string_bytes c.loop-column.out ++ letter b ∷ []) c.is_shut.ensures)

pub returns : goal.returns
returns g c =
    let cells = cell_at c.args.self.now g.R.Rule.shut c.args.plane c.args.row in
    let all = joined_all cells (string_bytes c.args.out.now) (string_bytes c.loop-column.out) c.loop-column.column (breadth_at c.args.self.now 0) (omega arith) c.loop-column.invariant in
    two_writes (string_bytes c.args.out.now) (string_bytes c.loop-column.out) (string_bytes c.write.new.self) (flat_map cells (range_with_len 0 (breadth_at c.args.self.now 0))) (10 ∷ []) all c.in_ok-write.ensures.bytes
