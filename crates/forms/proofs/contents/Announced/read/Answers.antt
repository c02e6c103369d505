use Rattle.std.proofs.Common.{◌≡◌, ◌∷◌, drop, rules}
use Rattle.text.specs.Items.{items}
use Rattle.forms.proofs.Modes.{mode_named, contents_taken}
use Rattle.forms.proofs.contents.Announced.read.Goals as goal

pub returns-in_err-ok : goal.returns-in_err-ok
returns-in_err-ok c = let named = mode_named _ _ c.try_from.ensures in search rules

pub returns : goal.returns
returns c =
    let named = mode_named _ _ c.try_from.ensures in
    let e : drop 1 (items c.args.text.now) ≡ c.in_ok-next.field-0.now ∷ c.next.new.self = search rules in
    let taken = contents_taken (items c.args.text.now) c.next.new.self c.in_ok-next.field-0.now e in
    search rules
