use Rattle.std.proofs.Common.{◌≡◌, ◌<◌, ◌≤◌, length, Ok, sym, refl, ap, ◌∙◌, arith}
use Rattle.std.proofs.lemmas.List.{length-map}
use Rattle.std.proofs.lemmas.Bool.{cond-true, cond-false, lt-ltb, le-ltb}
use Rattle.room.specs.Listed.{listed}
use Rattle.forms.specs.Outcome.{map_ok}
use Rattle.sheet.specs.Held.{plan_of}
use Rattle.sheet.specs.Lay.{answered, left_in_records, laid_all}
use Rattle.sheet.specs.Meaning.{meaning}
use Rattle.sheet.proofs.lay.read_sheet.Goals as goal

pub returns-then-records-contents : goal.returns-then-records-contents
returns-then-records-contents c =
    let p = plan_of c.in_ok-sheet.sheet in
    let said : Ok p ≡ meaning c.args.text.now = c.in_ok-sheet.ensures.says in
    let short : length c.args.records.now < length p.pieces = omega (arith, ap (λ k. k.pieces) c.contents-contents.ensures) in
    record {
      answer = sym (ap (answered (length c.args.records.now)) (sym said) ∙ cond-true _ _ _ (lt-ltb _ _ short));
      records = sym (ap (λ r. left_in_records r c.args.records.now) (sym said) ∙ cond-true _ _ _ (lt-ltb _ _ short));
      walls = refl;
      orders = refl;
    }

pub lay_pieces-requires : goal.lay_pieces-requires
lay_pieces-requires c =
    omega (arith, ap (λ k. k.pieces) c.contents-contents.ensures, ap length c.pieces.ensures, length-map c.pieces.result.now (λ es. listed es))

pub returns : goal.returns
returns c =
    let p = plan_of c.in_ok-sheet.sheet in
    let said : Ok p ≡ meaning c.args.text.now = c.in_ok-sheet.ensures.says in
    let room : length p.pieces ≤ length c.args.records.now = omega (arith, ap (λ k. k.pieces) c.contents-contents.ensures) in
    record {
      answer = ap Ok c.contents-contents.ensures ∙ sym (ap (answered (length c.args.records.now)) (sym said) ∙ cond-false _ _ _ (le-ltb _ _ room));
      records =
          c.lay_pieces.ensures
          ∙ ap (λ ps. laid_all ps c.args.records.now) c.pieces.ensures
          ∙ sym (ap (λ r. left_in_records r c.args.records.now) (sym said) ∙ cond-false _ _ _ (le-ltb _ _ room));
      walls = ap (map_ok (λ q. q.rows)) (sym said) ∙ ap Ok (sym c.walls.ensures);
      orders = ap (map_ok (λ q. q.orders)) (sym said) ∙ ap Ok (sym c.orders.ensures);
    }
