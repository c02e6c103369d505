use Rattle.std.proofs.Common.{rules}
use Rattle.text.proofs.Parts.{items_cut}
use Rattle.text.proofs.items.split_item.Goals as goal

pub returns : goal.returns
returns c = search (rules, items_cut)
