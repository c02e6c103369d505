use Rattle.room.specs.Listed.{listed, rows_of}
use Rattle.sheet_rule.proofs.Keeping.{sheet_kept}
use Rattle.sheet_rule.proofs.sheet_rule.Goals as goal

pub returns-in_err-ordered-clause-kept : goal.returns-in_err-ordered-clause-kept
returns-in_err-ordered-clause-kept c = sheet_kept c.args.mode (rows_of c.args.walls.now) (listed c.args.orders.now)

pub returns-clause-kept : goal.returns-clause-kept
returns-clause-kept c = sheet_kept c.args.mode (rows_of c.args.walls.now) (listed c.args.orders.now)
