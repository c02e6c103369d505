use Rattle.std.proofs.Common.{◌<◌, length, arith, rules}
use Rattle.std.proofs.lemmas.Bool.Decides.{nat_tests}
use Rattle.text.proofs.Parts.{lines_cut}
use Rattle.text.proofs.lines.split_line.Goals as goal

pub returns : goal.returns
returns c = let some : 0 < length c.args.text.now = grind (arith, nat_tests) in search (rules, lines_cut)
