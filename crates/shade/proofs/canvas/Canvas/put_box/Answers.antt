use Rattle.std.proofs.Common.{[], ◌∷◌, string_bytes, codes}
use Rattle.room.specs.Seen.{highs, lows}
use Rattle.rule.specs.Means.{box_at}
use Rattle.shade.specs.Canvas.{boxes_at}
use Rattle.shade.specs.Picture.{ranges_text}
use Rattle.text.proofs.Writes.{three_writes}
use Rattle.shade.proofs.Joining.{ranges_same}
use Rattle.shade.proofs.canvas.Canvas.put_box.Goals as goal

pub returns : goal.returns
returns g c =
    let k = c.args.self.now.subject.axes in
    let region = c.listed-region.result in
    let box = box_at (boxes_at c.args.self.now g.R.Rule.boxes) c.args.number in
    let b₁ = string_bytes c.write.new.self in
    let b₂ = string_bytes c.put_ranges.new.out in
    three_writes (string_bytes c.args.out.now) b₁ b₂ (string_bytes c.write-2.new.self) (codes "box") (ranges_text k box.from box.to) (10 ∷ [])
    c.in_ok-write.ensures.bytes
    (ranges_same k (lows region) (highs region) box.from box.to b₁ b₂ c.listed-region.ensures.from_same c.listed-region.ensures.to_same c.in_ok-put_ranges.ensures)
    c.in_ok-write-2.ensures.bytes
