use Rattle.std.proofs.Common.{◌≡◌, [], ◌∷◌, ◌++◌, string_bytes, append_assoc}
use Rattle.std.proofs.lemmas.List.Concat.{flat_map_single}
use Rattle.room.specs.Listed.{listed}
use Rattle.forms.specs.Forms.{letter}
use Rattle.canon.specs.Canonical.{row_line}
use Rattle.canon.proofs.writer.RowCanonical.put.Goals as goal

pub returns : goal.returns
returns c =
    let cells = rw (flat_map_single letter c.as_slice.result.now, c.as_slice.ensures.items) at c.in_ok-put_each.ensures in
    let whole : string_bytes c.put_each.new.out ++ (10 ∷ []) ≡ string_bytes c.args.out.now ++ row_line (listed c.args.self.now) = rw (cells, c.in_ok-write.ensures.bytes) (simp append_assoc) in
    rw whole at c.write-2.ensures.bytes
