use Rattle.std.proofs.Common.{[], ◌∷◌, ◌++◌, string_bytes, codes, decimal, sym, ap, ◌∙◌, ◌≡◌}
use Rattle.room.specs.Seen.{at, bounds_box, box_of, highs, lows}
use Rattle.room.proofs.Cuts.{cut_below}
use Rattle.shade.specs.Canvas.{room_at}
use Rattle.shade.specs.Picture.{ranges_text}
use Rattle.text.proofs.Writes.{three_writes}
use Rattle.shade.proofs.Joining.{ranges_same}
use Rattle.shade.proofs.canvas.Canvas.put_heading.Goals as goal

pub returns : goal.returns
returns g c =
    let canvas = c.args.self.now in
    let k = canvas.subject.axes in
    let p = canvas.subject.piece in
    let bounds = box_of c.bounds.result in
    let is : bounds ≡ bounds_box (at canvas.subject.records.now p) = c.bounds.ensures ∙ ap bounds_box c.record.ensures in
    let b₁ = string_bytes c.write.new.self in
    let b₂ = string_bytes c.put_ranges.new.out in
    three_writes (string_bytes c.args.out.now) b₁ b₂ (string_bytes c.write-2.new.self) (codes "piece " ++ decimal p) (ranges_text k ((room_at canvas).low p) ((room_at canvas).high p)) (10 ∷ [])
    c.in_ok-write.ensures.bytes
    (ranges_same k bounds.from bounds.to ((room_at canvas).low p) ((room_at canvas).high p) b₁ b₂ (λ d h. ap (λ b. b.from d) is ∙ sym (cut_below k (lows (at canvas.subject.records.now p).present) d h)) (λ d h. ap (λ b. b.to d) is ∙ sym (cut_below k (highs (at canvas.subject.records.now p).present) d h)) c.in_ok-put_ranges.ensures)
    c.in_ok-write-2.ensures.bytes
