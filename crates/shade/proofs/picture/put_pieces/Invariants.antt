use Rattle.std.proofs.Common.{◌≡◌, ◌++◌, string_bytes}
use Rattle.std.specs.List.{range_with_len, flat_map}
use Rattle.rule.specs.Subjects.{room_seen}
use Rattle.shade.specs.Picture.{piece_text}
use Rattle.shade.proofs.picture.put_pieces.Given as goal

abbrev pub invariant-loop-piece : goal.invariant-loop-piece
invariant-loop-piece g l = string_bytes l.out ≡ string_bytes l.initial.out ++ flat_map (piece_text (g.R.Rule.shut l.rule) (g.R.Rule.boxes l.rule) l.board.axes (room_seen l.board)) (range_with_len 0 l.piece)
