use Rattle.std.proofs.Common.{◌≡◌, ℕ, ◌<◌, true, [], ◌∷◌, ◌++◌, length, get_or, is_ok, sym, ap, ◌∙◌, arith}
use Rattle.std.proofs.lemmas.Bool.{cond-true}
use Rattle.std.proofs.lemmas.Bool.Decides.{nat_tests}
use Rattle.room.specs.Limits.{max_orders, max_pieces}
use Rattle.room.specs.Listed.{listed}
use Rattle.orders.specs.Named.{Legal, no_orders, orders_legal}
use Rattle.orders.specs.Shutting.{orders_kept}
use Rattle.orders.proofs.Grouping.{decides_legal, filed_room, grouped_push, grouped_room, legal_push}
use Rattle.orders.proofs.held.OrderRule.add.Goals as goal
use Rattle.orders.proofs.held.OrderRule.add.Goals.{In_ok-map_err}

pub returns-then-not-is_legal-clause-kept : goal.returns-then-not-is_legal-clause-kept
returns-then-not-is_legal-clause-kept c = orders_kept _

pub returns-in_err-map_err-clause-kept : goal.returns-in_err-map_err-clause-kept
returns-in_err-map_err-clause-kept c = orders_kept _

pub returns-clause-kept : goal.returns-clause-kept
returns-clause-kept c = orders_kept _

-- past both checks the entry is legal, and the list of all entries has grown by it
legal : (c : In_ok-map_err) → Legal c.args.order
legal c = (decides_legal c.args.order).0 (sym c.if-not-is_legal.ensures)

held : (c : In_ok-map_err) → is_ok c.push.result ≡ true
held c = sym c.map_err.ensures.variant ∙ ap is_ok c.in_ok-map_err.was

grown : (c : In_ok-map_err) → listed c.push.new.self ≡ listed c.args.self.now.entries ++ c.args.order ∷ []
grown c = c.push.ensures.items ∙ cond-true _ _ _ (held c)

room : (c : In_ok-map_err) (p : ℕ) → p < max_pieces → length (listed (get_or c.args.self.now.naming p no_orders)) < max_orders
room c p known =
    let h = held c in
    grouped_room c.args.self.now.naming (listed c.args.self.now.entries) p c.args.self.now.grouped known (grind (arith, nat_tests))

pub file-requires-clause-room : goal.file-requires-clause-room
file-requires-clause-room c =
    let here = (goal.at.file-requires-clause-room c).In_ok-map_err in
    room here c.args.order.before (legal here).before_in

pub file-requires-2-clause-room : goal.file-requires-2-clause-room
file-requires-2-clause-room c =
    let here = (goal.at.file-requires-2-clause-room c).In_ok-map_err in
    let legal = legal here in
    filed_room c.args.self.now.naming c.file.new.naming _ c.args.order.after c.args.order c.file.ensures (λ e. legal.two (sym e)) (room here c.args.order.after legal.after_in)

pub invariant_of-self-2-clause-legal : goal.invariant_of-self-2-clause-legal
invariant_of-self-2-clause-legal c =
    let here = (goal.at.invariant_of-self-2-clause-legal c).In_ok-map_err in
    ap orders_legal (grown here) ∙ legal_push (listed c.args.self.now.entries) c.args.order c.args.self.now.legal (sym c.if-not-is_legal.ensures)

pub invariant_of-self-2-clause-grouped : goal.invariant_of-self-2-clause-grouped
invariant_of-self-2-clause-grouped c =
    let here = (goal.at.invariant_of-self-2-clause-grouped c).In_ok-map_err in
    grouped_push c.args.self.now.naming c.file.new.naming c.file-2.new.naming (listed c.args.self.now.entries) _ c.args.order (legal here) c.args.self.now.grouped (grown here) c.file.ensures c.file-2.ensures
