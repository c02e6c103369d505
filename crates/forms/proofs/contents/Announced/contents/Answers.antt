use Rattle.std.proofs.Common.{rules}
use Rattle.forms.proofs.InRange.{contents_made}
use Rattle.forms.proofs.contents.Announced.contents.Goals as goal

pub returns : goal.returns
returns c = search (rules, contents_made)
