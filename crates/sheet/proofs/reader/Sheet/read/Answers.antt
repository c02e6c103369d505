use Rattle.std.proofs.Common.{sym, ◌∙◌, arith}
use Rattle.std.proofs.lemmas.List.{map-id}
use Rattle.std.proofs.lemmas.Result.{err_from_is_err_and}
use Rattle.sheet.proofs.Bodies.{pieces_refused, orders_refused, walls_refused, closed}
use Rattle.sheet.proofs.ReadFits.{announced_fit, read_fits}
use Rattle.sheet.proofs.reader.Sheet.read.Goals as goal

pub returns-in_err-extents : goal.returns-in_err-extents
returns-in_err-extents c =
    let refused = err_from_is_err_and c.from_residual-in_err-extents.result c.from_residual-in_err-extents.ensures.1 in
    let first = c.in_ok-axes.ensures in
    record {
      says = rw (refused.1, refused.2) (pieces_refused c.args.text.now _ _ _ (omega arith) c.of-lines.ensures first.says first.left _ c.in_err-extents.ensures.say);
    }

pub returns-in_err-orders : goal.returns-in_err-orders
returns-in_err-orders c =
    let refused = err_from_is_err_and c.from_residual-in_err-orders.result c.from_residual-in_err-orders.ensures.1 in
    let first = c.in_ok-axes.ensures in
    let pieces = c.in_ok-extents.ensures in
    record {
      says =
          rw (refused.1, refused.2)
          (orders_refused c.args.text.now _ _ _ (omega arith) c.of-lines.ensures first.says first.left _ _ pieces.say pieces.left _ c.in_err-orders.ensures.say);
    }

pub read_each-requires-3 : goal.read_each-requires-3
read_each-requires-3 c = let within = announced_fit c.of-lines.result.number c.of-lines.result.left _ c.in_ok-axes.ensures.says in (omega arith, within.rows_to)

pub returns-in_err-walls : goal.returns-in_err-walls
returns-in_err-walls c =
    let refused = err_from_is_err_and c.from_residual-in_err-walls.result c.from_residual-in_err-walls.ensures.1 in
    let first = c.in_ok-axes.ensures in
    let pieces = c.in_ok-extents.ensures in
    let orders = c.in_ok-orders.ensures in
    record {
      says =
          rw (refused.1, refused.2)
          (walls_refused c.args.text.now _ _ _ (omega arith) c.of-lines.ensures first.says first.left _ _ pieces.say pieces.left _ _ (rw map-id at orders.say) orders.left _ c.in_err-walls.ensures.say);
    }

pub returns-in_err-end : goal.returns-in_err-end
returns-in_err-end c =
    let refused = err_from_is_err_and c.from_residual-in_err-end.result c.from_residual-in_err-end.ensures.1 in
    let first = c.in_ok-axes.ensures in
    let pieces = c.in_ok-extents.ensures in
    let orders = c.in_ok-orders.ensures in
    let walls = c.in_ok-walls.ensures in
    record {
      says =
          rw (refused.1, refused.2)
          (c.in_err-end.ensures _ ∙ sym (closed c.args.text.now _ _ _ (omega arith) c.of-lines.ensures first.says first.left _ _ pieces.say pieces.left _ _ (rw map-id at orders.say) orders.left _ _ walls.say walls.left));
    }

pub returns : goal.returns
returns c =
    let first = c.in_ok-axes.ensures in
    let pieces = c.in_ok-extents.ensures in
    let orders = c.in_ok-orders.ensures in
    let walls = c.in_ok-walls.ensures in
    record {
      says = c.in_ok-end.ensures _ ∙ sym (closed c.args.text.now _ _ _ (omega arith) c.of-lines.ensures first.says first.left _ _ pieces.say pieces.left _ _ (rw map-id at orders.say) orders.left _ _ walls.say walls.left);
    }

pub invariant_of-result : goal.invariant_of-result
invariant_of-result c =
    let first = c.in_ok-axes.ensures in
    let pieces = c.in_ok-extents.ensures in
    let orders = c.in_ok-orders.ensures in
    let walls = c.in_ok-walls.ensures in
    record {
      fits = read_fits c.args.text.now _ (closed c.args.text.now _ _ _ (omega arith) c.of-lines.ensures first.says first.left _ _ pieces.say pieces.left _ _ (rw map-id at orders.say) orders.left _ _ walls.say walls.left ∙ sym (c.in_ok-end.ensures _));
    }
