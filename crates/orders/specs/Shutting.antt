-- What it means that entries shut a point: some entry does. From it, the law of rules, and which placements keep the rule.
use Rattle.std.specs.Prelude.{◌≡◌, ℕ, ◌<◌, true, ◌⊎◌, List, length, get_or, ◌<ℤ◌, Decides, slice_index_or, refl}
use Rattle.std.proofs.Common.{inl, subst, arith}
use Rattle.std.specs.List.{All, HoldsAt}
use Rattle.std.proofs.lemmas.List.Elements.{All-get_or}
use Rattle.std.proofs.lemmas.List.{get_or_default}
use Rattle.std.proofs.lemmas.Int.{ints, by_lt_z}
use Rattle.std.proofs.lemmas.Bool.{both_ways}
use Rattle.std.proofs.lemmas.Bool.Decides.{Decides-by_and, Decides-by_or, nat_tests}
use Rattle.room.specs.Seen.{Room, Point, Inside}
use Rattle.room.specs.declared.orders.Order.{Order}
use Rattle.room.proofs.Belows.{false_from}
use Rattle.rule.specs.Kept.{fixed}
use Rattle.orders.specs.Named.{Suits}
use Rattle.orders.specs.Ordered.{OrdersKept, order_suits, orders_suit, order_shuts, orders_shut, reach, no_order}

pub decides_suits : (k n : ℕ) (o : Order) → Decides (order_suits k n o) (Suits k n o)
decides_suits k n o = (
  λ e. record { before_in = grind (arith, nat_tests); after_in = grind (arith, nat_tests); axis_in = grind (arith, nat_tests) },
  λ s. grind (arith, nat_tests),
)

-- each entry suits where all do
pub suits_at : (entries : List Order) (k n : ℕ) → orders_suit entries k n ≡ true → All (Suits k n) entries
suits_at entries k n e = (Decides-by_and (order_suits k n) (Suits k n) (λ os. orders_suit os k n) (decides_suits k n) refl (λ _ _. refl) entries).0 e

-- the piece is the one before and reaches too far, or it is the one after and lies too low
abbrev pub Parted : Room → ℕ → Point → Order → Type 0
Parted r p x o =
    ((p ≡ o.before) × (r.high o.after o.axis <ℤ reach r o (x o.axis)))
    ⊎ ((p ≡ o.after) × (x o.axis <ℤ reach r o (r.low o.before o.axis)))

abbrev pub EntryShuts : ℕ → Room → ℕ → Point → Order → Type 0
EntryShuts k r p x o = Suits k r.count o × Parted r p x o

pub decides_shuts : (k : ℕ) (r : Room) (p : ℕ) (x : Point) (o : Order) → Decides (order_shuts k r p x o) (EntryShuts k r p x o)
decides_shuts k r p x o = (
  λ e. ((decides_suits k r.count o).0 (grind (arith, nat_tests)), grind (arith, ints, nat_tests)),
  λ (suits, parted). let s = (decides_suits k r.count o).1 suits in grind (arith, ints, nat_tests),
)

pub decides_shut : (entries : List Order) (k : ℕ) (r : Room) (p : ℕ) (x : Point) → Decides (orders_shut entries k r p x) ((i : ℕ) × (i < length entries) × HoldsAt (EntryShuts k r p x) entries i)
unfolding orders_shut
decides_shut entries k r p x =
    Decides-by_or (order_shuts k r p x) (EntryShuts k r p x) (λ os. orders_shut os k r p x) (decides_shuts k r p x) refl (λ _ _. refl) entries

-- bounds that get tighter shut no less
pub narrows : (entries : List Order) (k : ℕ) (b c : Room) (p : ℕ) (x : Point) → Inside k c b → orders_shut entries k b p x ≡ true → orders_shut entries k c p x ≡ true
narrows entries k b c p x inside shut =
    let (i, known, at) = (decides_shut entries k b p x).0 shut in
    (decides_shut entries k c p x).1 (
      i,
      known,
      λ d.
          let o = get_or entries i d in
          let (s, parted) = at d in
          let counts = inside.counts in
          let size = inside.sizes o.before o.axis s.before_in s.axis_in in
          let low = inside.lows o.before o.axis s.before_in s.axis_in in
          let high = inside.highs o.after o.axis s.after_in s.axis_in in
          (record { before_in = omega arith; after_in = omega arith; axis_in = s.axis_in }, grind (arith, ints)),
    )

-- what holds of an element that is there, at any default
pub at_one : (P : Order → Type 0) (xs : List Order) (i : ℕ) → i < length xs → P (slice_index_or xs i no_order) → HoldsAt P xs i
at_one P xs i h holds d = subst P (get_or_default xs i no_order d h) holds

-- the rule is kept by exactly the placements that keep each entry
pub orders_kept : (entries : List Order) → OrdersKept entries
orders_kept entries k r q suit = (
  λ keeps i h.
      let o = get_or entries i no_order in
      let s = All-get_or (Suits k r.count) entries i no_order h (suits_at entries k r.count suit) in
      by_lt_z (q o.after o.axis) (reach r o (q o.before o.axis))
      (λ past. absurd (both_ways _ (keeps o.before s.before_in)
      ((decides_shut entries k (fixed r q) o.before (q o.before)).1 (i, h, at_one (EntryShuts k (fixed r q) o.before (q o.before)) entries i h (s, inl (refl, past))))))
      (λ ends. ends),
  λ each p h. false_from _ (decides_shut entries k (fixed r q) p (q p)) (λ (i, known, at).
      let (s, parted) = at no_order in
      let kept = each i known in
      grind (arith, ints)),
)
