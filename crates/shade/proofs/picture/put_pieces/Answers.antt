use Rattle.std.proofs.Common.{length, string_bytes, arith}
use Rattle.rule.specs.Subjects.{room_seen}
use Rattle.shade.specs.Picture.{piece_text, shade_text}
use Rattle.shade.proofs.Joining.{joined_all, joined_next}
use Rattle.shade.proofs.picture.put_pieces.Goals as goal

pub loop-piece-preserved : goal.loop-piece-preserved
loop-piece-preserved g c =
    joined_next (piece_text (g.R.Rule.shut c.args.rule.now) (g.R.Rule.boxes c.args.rule.now) c.args.board.now.axes (room_seen c.args.board.now)) (string_bytes c.args.out.now) (string_bytes c.loop-piece.out) (string_bytes c.put_piece.new.out) c.loop-piece.piece c.loop-piece.invariant c.in_ok-put_piece.ensures

pub returns : goal.returns
unfolding shade_text
returns g c =
    joined_all (piece_text (g.R.Rule.shut c.args.rule.now) (g.R.Rule.boxes c.args.rule.now) c.args.board.now.axes (room_seen c.args.board.now)) (string_bytes c.args.out.now) (string_bytes c.loop-piece.out) c.loop-piece.piece (length c.args.board.now.records.now) (omega arith) c.loop-piece.invariant
