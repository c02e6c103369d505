use Rattle.std.proofs.Common.{◌∙◌, subst}
use Rattle.std.proofs.lemmas.Result.{err_from_is_err_and}
use Rattle.room.specs.Listed.{listed, rows_of}
use Rattle.sheet.specs.Meaning.{meaning}
use Rattle.sheet.proofs.ReadFits.{read_fits}
use Rattle.answer.specs.Answers.{Gives}
use Rattle.roomshade.proofs.Plans.{held_shaded, orders_accepted, read_refused, read_shaded}
use Rattle.roomshade.proofs.reply.shade_sheet.Goals as goal

pub returns-in_err-contents : goal.returns-in_err-contents
returns-in_err-contents c =
    let text = c.args.text.now in
    let p = err_from_is_err_and c.from_residual.result c.from_residual.ensures.1 in
    rw (p.1, p.2) (read_refused (meaning text) _ (read_fits text) c.in_err-contents.ensures.answer)

pub returns-in_err-rule : goal.returns-in_err-rule
returns-in_err-rule c =
    let text = c.args.text.now in
    let accepted = orders_accepted (meaning text) (listed c.read_sheet.new.orders) (read_fits text) c.in_ok-contents.ensures.orders in
    let refused = c.in_err-rule.ensures.held in
    cc

pub returns : goal.returns
returns c =
    let text = c.args.text.now in
    let contents = c.in_ok-contents.contents in
    let rows = rows_of c.read_sheet.new.walls in
    let orders = listed c.read_sheet.new.orders in
    let records = c.read_sheet.new.records in
    let read = c.in_ok-contents.ensures in
    subst (λ o. Gives o c.shade.result)
    (held_shaded contents.axes contents.pieces records contents.mode rows orders c.in_ok-rule.rule c.in_ok-rule.ensures.held.1
    ∙ read_shaded (meaning text) contents rows orders records (read_fits text) read.answer read.walls read.orders read.records)
    c.shade.ensures
