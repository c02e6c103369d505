use Rattle.std.proofs.Common.{codes, rules}
use Rattle.forms.proofs.Front.{after_none}
use Rattle.forms.proofs.line.classify.Goals as goal

pub returns-in_default : goal.returns-in_default
returns-in_default c = record {
  contents = after_none (codes "sheet ") c.args.body.now (search rules);
  piece = after_none (codes "piece ") c.args.body.now (search rules);
  before = after_none (codes "before ") c.args.body.now (search rules);
  wall = after_none (codes "wall ") c.args.body.now (search rules);
}
