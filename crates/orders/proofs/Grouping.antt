-- Legal entries, and how they are grouped by the pieces that they name.
use Rattle.std.proofs.Common.{◌≡◌, ℕ, ◌<◌, ◌≤◌, true, ltb, List, [], ◌∷◌, ◌++◌, length, get_or, take, Some, Decides, refl, ap, ◌∙◌, arith}
use Rattle.std.specs.List.{All}
use Rattle.std.proofs.lemmas.List.Elements.{filter-append}
use Rattle.std.proofs.lemmas.List.Folds.{list_all-append, list_all_at}
use Rattle.std.proofs.lemmas.List.Sums.{count_by-le-length, length-filter}
use Rattle.std.proofs.lemmas.List.{append-nil, length-take}
use Rattle.std.proofs.lemmas.Bool.{and_from, cond-false, lt-ltb, ne_eqb}
use Rattle.std.proofs.lemmas.Bool.Decides.{Decides-by_and, nat_tests}
use Rattle.std.proofs.lemmas.Int.{ints}
use Rattle.room.specs.Limits.{max_pieces, max_orders}
use Rattle.room.specs.Listed.{listed}
use Rattle.room.specs.declared.array_vec.ArrayVec.{ArrayVec}
use Rattle.room.specs.declared.orders.Order.{Order}
use Rattle.room.specs.declared.refusal.Refusal.{Refusal}
use Rattle.orders.specs.Named.{Filed, Grouped, Legal, all_refusal, names, naming_of, no_orders, orders_legal}
use Rattle.orders.specs.Ordered.{add_refusal, no_order, order_legal}

pub decides_legal : (o : Order) → Decides (order_legal o) (Legal o)
decides_legal o = (
  λ e. record { before_in = grind (arith, nat_tests); after_in = grind (arith, nat_tests); axis_in = grind (arith, nat_tests); gap_from = grind (arith, ints, nat_tests); gap_to = grind (arith, ints, nat_tests); two = grind (arith, nat_tests) },
  λ l. grind (arith, ints, nat_tests),
)

pub decides_all_legal : (entries : List Order) → Decides (orders_legal entries) (All Legal entries)
decides_all_legal = Decides-by_and order_legal Legal orders_legal decides_legal refl (λ _ _. refl)

pub legal_push : (entries : List Order) (o : Order) → orders_legal entries ≡ true → order_legal o ≡ true → orders_legal (entries ++ o ∷ []) ≡ true
legal_push entries o all here = list_all-append order_legal entries (o ∷ []) ∙ and_from _ _ all (and_from _ _ here refl)

-- while there is room for one more entry, there is under each piece
pub grouped_room : (naming : List (ArrayVec Order 32)) (entries : List Order) (p : ℕ) → Grouped naming entries → p < max_pieces → length entries < max_orders → length (listed (get_or naming p no_orders)) < max_orders
grouped_room naming entries p grouped known room = omega (arith, ap length (grouped p known), length-filter (names p) entries, count_by-le-length (names p) entries)

-- the list of another piece stays, so there is as much room in it
pub filed_room : (old new : List (ArrayVec Order 32)) (piece p : ℕ) (o : Order) → Filed piece o old new → (p ≡ piece → ⊥) → length (listed (get_or old p no_orders)) < max_orders → length (listed (get_or new p no_orders)) < max_orders
filed_room old new piece p o filed other room = omega (arith, ap length (filed p ∙ cond-false _ _ _ (ne_eqb p piece other)))

-- an entry is filed under its two pieces
pub grouped_push : (first second third : List (ArrayVec Order 32)) (entries more : List Order) (o : Order) → Legal o → Grouped first entries → more ≡ entries ++ o ∷ [] → Filed o.before o first second → Filed o.after o second third → Grouped third more
grouped_push first second third entries more o legal grouped grown one two p known =
    let apart = legal.two in
    let before = one p in
    let after = two p in
    let held = grouped p known in
    let all : naming_of p more ≡ naming_of p entries ++ naming_of p (o ∷ []) = ap (naming_of p) grown ∙ filter-append (names p) entries (o ∷ []) in
    let same = append-nil (naming_of p entries) in
    grind (arith, nat_tests)

-- of a list that may be held, only an entry that is not legal is refused, and then the list is
pub refused_all : (orders : List Order) (i : ℕ) (e : Refusal) (entries : List Order) → i < length orders → length orders ≤ max_orders → entries ≡ take i orders → add_refusal entries (get_or orders i no_order) ≡ Some e → all_refusal orders ≡ Some e
refused_all orders i e entries known few front refused =
    let room : ltb (length entries) max_orders ≡ true = lt-ltb _ _ (omega (arith, ap length front, length-take i orders)) in
    let none = list_all_at order_legal orders i no_order known in
    grind arith
