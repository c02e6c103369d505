-- The entries that name a piece give the boxes of a right list.
use Rattle.std.proofs.Common.{◌≡◌, ℕ, ◌<◌, ◌≤◌, Bool, true, false, List, length, get_or, Option, ap, ◌∙◌, subst, sym, arith}
use Rattle.std.specs.Bool.{then_some}
use Rattle.std.proofs.lemmas.Int.{ints}
use Rattle.std.proofs.lemmas.List.Elements.{All-filter, All-get_or, filter_passes}
use Rattle.std.proofs.lemmas.Map.Views.{any-filter_same}
use Rattle.std.proofs.lemmas.Bool.{cond-true}
use Rattle.std.proofs.lemmas.Bool.Decides.{nat_tests}
use Rattle.room.specs.Listed.{listed}
use Rattle.room.specs.Seen.{Room, Point, Box, Within, Holds, box_of}
use Rattle.room.specs.Spans.{span_holds_any}
use Rattle.room.specs.declared.orders.Order.{Order}
use Rattle.room.specs.declared.region.Region.{Region}
use Rattle.room.specs.declared.span.Span.{Span}
use Rattle.room.proofs.Belows.{false_from, passes}
use Rattle.room.proofs.Cuts.{common_point, decides_int_le}
use Rattle.rule.specs.Gathered.{Shows, Sound}
use Rattle.rule.specs.Means.{Covers, EndsFit, ListsBox, SameBox, Shuts}
use Rattle.rule.specs.Subjects.{Suits as BoardSuits, room_seen, shut_there}
use Rattle.rule.specs.declared.subject.Subject.{Subject}
use Rattle.rule.proofs.Boxes.{bounds_order, given_some, inside_fits, same_back, same_covers, same_holds, shows_given}
use Rattle.orders.specs.Boxes.{Applies, order_box, order_span, source_of}
use Rattle.orders.specs.Entries.{entries_of}
use Rattle.orders.specs.Named.{Legal, Suits, names, naming_of, no_orders}
use Rattle.orders.specs.Ordered.{no_order, order_shuts, orders_shut, orders_suit}
use Rattle.orders.specs.declared.held.OrderRule.{OrderRule}
use Rattle.orders.proofs.Boxes.{held_in, inside_bounds, meets_bounds, shut_in}
use Rattle.orders.proofs.Grouping.{decides_all_legal}
use Rattle.orders.specs.Shutting.{EntryShuts, at_one, decides_shut, suits_at}

-- an entry that shuts a point of a piece names the piece
shuts_named : (k : ℕ) (r : Room) (p : ℕ) (x : Point) (o : Order) → order_shuts k r p x o ≡ true → names p o ≡ true
shuts_named k r p x o e = grind (arith, nat_tests)

-- the entries that name a piece shut all that is shut of it
shut_naming : (entries : List Order) (k : ℕ) (r : Room) (p : ℕ) (x : Point) → orders_shut (naming_of p entries) k r p x ≡ orders_shut entries k r p x
unfolding orders_shut
shut_naming entries k r p x = any-filter_same (order_shuts k r p x) (names p) true (shuts_named k r p x) entries

-- a rule that is asked about a piece of a board that it suits
module _ (rule : OrderRule) (s : Subject) (suits : BoardSuits (orders_suit (entries_of rule)) s) where
  -- the entries that name the piece, one by its number, and its box
  abbrev named : List Order
  named = naming_of s.piece (entries_of rule)

  abbrev entry : ℕ → Order
  entry i = get_or named i no_order

  abbrev box : ℕ → Box
  box i = order_box (room_seen s) s.piece (entry i)

  abbrev shut : Point → Bool
  shut = shut_there (orders_shut (entries_of rule)) s

  applies_at : (i : ℕ) → i < length named → Applies s (entry i)
  applies_at i h =
      let here = All-get_or (Suits s.axes (length s.records.now)) named i no_order h (All-filter (names s.piece) (Suits s.axes (length s.records.now)) (entries_of rule) (suits_at (entries_of rule) s.axes (length s.records.now) suits)) in
      record {
        legal = All-get_or Legal named i no_order h (All-filter (names s.piece) Legal (entries_of rule) ((decides_all_legal (entries_of rule)).0 rule.legal));
        suits = here;
        named = All-get_or (λ o. names s.piece o ≡ true) named i no_order h (filter_passes (names s.piece) (entries_of rule));
        before_limits = s.board.limits (entry i).before here.before_in (entry i).axis here.axis_in;
        after_limits = s.board.limits (entry i).after here.after_in (entry i).axis here.axis_in;
      }

  ends_fit : (i : ℕ) → EndsFit s.axes (box i)
  ends_fit i = inside_fits s (box i) (inside_bounds (room_seen s) s.piece (entry i))

  -- all in the box of an entry is shut
  shuts_all : (i : ℕ) → i < length named → Shuts s.axes (room_seen s) s.piece shut (box i)
  shuts_all i h y within held =
      let a = applies_at i h in
      sym (shut_naming (entries_of rule) s.axes (room_seen s) s.piece y)
      ∙ (decides_shut named s.axes (room_seen s) s.piece y).1 (i, h, at_one (EntryShuts s.axes (room_seen s) s.piece y) named i h (a.suits, shut_in (room_seen s) s.piece (entry i) s.axes y a.named a.suits.axis_in held))

  -- what is shut lies in the box of an entry
  held_by : (x : Point) → Within s.axes (room_seen s) s.piece x → shut x ≡ true → (i : ℕ) × (i < length named) × Holds s.axes (box i) x
  held_by x within is =
      let (i, h, at) = (decides_shut named s.axes (room_seen s) s.piece x).0 (shut_naming (entries_of rule) s.axes (room_seen s) s.piece x ∙ is) in
      (i, h, held_in (room_seen s) s.piece (entry i) s.axes x (applies_at i h).legal within (at no_order).1)

  pub sound : Sound s.axes (room_seen s) s.piece shut (source_of (entries_of rule) (room_seen s) s.piece) (length named)
  sound = record {
    each = λ i b h gives.
        let (test, is) = given_some _ (box i) b gives in
        let opens = (decides_int_le ((box i).from (entry i).axis) ((box i).to (entry i).axis)).0 test in
        subst (ListsBox s.axes (room_seen s) s.piece shut) is (record {
          shuts = shuts_all i h;
          some = common_point s.axes (box i) (room_seen s) s.piece (bounds_order s) (meets_bounds (room_seen s) s.piece (entry i) s.axes (bounds_order s) opens);
          ends = ends_fit i;
        });
    every = λ x within is.
        let (i, h, held) = held_by x within is in
        let on = held (entry i).axis (applies_at i h).suits.axis_in in
        (i, box i, h, cond-true _ _ _ ((decides_int_le ((box i).from (entry i).axis) ((box i).to (entry i).axis)).1 (omega (arith, ints))), held);
  }

  -- the list from which the code reads those entries
  module _ (items : List Order) (read : items ≡ listed (get_or rule.naming s.piece no_orders)) where
    same_items : items ≡ named
    same_items = read ∙ rule.grouped s.piece (let known = s.known in let few = s.board.pieces_to in omega arith)

    pub there_item : (i : ℕ) → i < length named → i < length items
    there_item i h = omega (arith, ap length same_items)

    pub applies_item : (i : ℕ) → i < length items → Applies s (get_or items i no_order)
    applies_item i = subst (λ l. i < length l → Applies s (get_or l i no_order)) (sym same_items) (applies_at i)

    item_box : (i : ℕ) (region : Region) → SameBox s.axes (box_of region) (order_box (room_seen s) s.piece (get_or items i no_order)) → SameBox s.axes (box_of region) (box i)
    item_box i region = subst (λ l. SameBox s.axes (box_of region) (order_box (room_seen s) s.piece (get_or l i no_order))) same_items

    -- the region of an entry answers for each point that it holds
    pub covers : (i : ℕ) (region : Region) (x : Point) → i < length items → SameBox s.axes (box_of region) (order_box (room_seen s) s.piece (get_or items i no_order)) → Holds s.axes (box_of region) x → Covers s.axes (room_seen s) s.piece shut x (box_of region)
    covers i region x h same held =
        let is = item_box i region same in
        same_covers (same_back is) (record { holds = same_holds x is held; shuts = shuts_all i (omega (arith, ap length same_items)); ends = ends_fit i })

    -- a point that the region does not hold is not in the box
    pub not_held : (i : ℕ) (region : Region) (x : Point) → SameBox s.axes (box_of region) (order_box (room_seen s) s.piece (get_or items i no_order)) → (Holds s.axes (box_of region) x → ⊥) → Holds s.axes (box i) x → ⊥
    not_held i region x same none held = none (same_holds x (same_back (item_box i region same)) held)

    -- a point that no box of the first entries holds, and there are no more, is not shut
    pub none_holds : (n : ℕ) (x : Point) → length items ≤ n → Within s.axes (room_seen s) s.piece x → ((i : ℕ) → i < n → Holds s.axes (box i) x → ⊥) → shut x ≡ false
    none_holds n x all within none =
        false_from _ (passes _) (λ is.
        let (i, h, held) = held_by x within is in
        none i (omega (arith, ap length same_items)) held)

    -- a region that is given where the range on the entry's axis holds an origin shows what the entry gives
    pub shows : (i : ℕ) (region : Region) (span : Span) (holds_any : Bool) (answer : Option Region) → SameBox s.axes (box_of region) (order_box (room_seen s) s.piece (get_or items i no_order)) → span ≡ order_span (room_seen s) s.piece (get_or items i no_order) → holds_any ≡ span_holds_any span → answer ≡ then_some holds_any region → Shows s.axes (source_of (entries_of rule) (room_seen s) s.piece i) answer
    shows i region span holds_any answer same is tells gives =
        let test = tells ∙ ap span_holds_any is ∙ ap (λ l. span_holds_any (order_span (room_seen s) s.piece (get_or l i no_order))) same_items in
        shows_given s.axes _ (box i) region answer (gives ∙ ap (λ t. then_some t region) test) (item_box i region same)
