-- Entries that are legal and suit a board, and entries by the pieces that they name.
use Rattle.std.specs.Prelude.{◌≡◌, ℕ, ◌<◌, Bool, cond, ◌||◌, List, [], ◌∷◌, ◌++◌, pos, ◌≤ℤ◌, None, filter, Option, ◌==◌, slice_index_or}
use Rattle.std.specs.List.{list_all}
use Rattle.room.specs.Limits.{max_axes, max_length, max_pieces}
use Rattle.room.specs.Listed.{listed}
use Rattle.room.specs.declared.array_vec.ArrayVec.{ArrayVec}
use Rattle.room.specs.declared.orders.Order.{Order}
use Rattle.room.specs.declared.refusal.Layer.TheVariants.{Rule}
use Rattle.room.specs.declared.refusal.Refusal.{Refusal}
use Rattle.room.specs.declared.refusal.Refusal.TheVariants.{OutOfRange}
use Rattle.rule.specs.Refused.{unless}
use Rattle.orders.specs.Ordered.{order_legal}

-- an entry that may be added, in facts
pub record Legal (o : Order) : Type 0 where
  pub before_in : o.before < max_pieces
  pub after_in : o.after < max_pieces
  pub axis_in : o.axis < max_axes
  pub gap_from : pos 0 ≤ℤ o.gap
  pub gap_to : o.gap ≤ℤ pos max_length
  pub two : o.before ≡ o.after → ⊥

-- the board has the entry's pieces and its axis
pub record Suits (k n : ℕ) (o : Order) : Type 0 where
  pub before_in : o.before < n
  pub after_in : o.after < n
  pub axis_in : o.axis < k

-- the piece is one of the entry's two
abbrev pub names : ℕ → Order → Bool
names p o = p == o.before || p == o.after

-- the entries that name the piece, in order
abbrev pub naming_of : ℕ → List Order → List Order
naming_of p entries = filter (names p) entries

-- every entry may be added
abbrev pub orders_legal : List Order → Bool
orders_legal entries = list_all order_legal entries

abbrev pub no_orders : ArrayVec Order 32
no_orders = record { len = 0; slots = [] }

-- the lists hold, for each piece of any board, the entries that name it
abbrev pub Grouped : List (ArrayVec Order 32) → List Order → Type 0
Grouped naming entries = (p : ℕ) → p < max_pieces → listed (slice_index_or naming p no_orders) ≡ naming_of p entries

-- the second lists are the first with the entry at the end of the piece's list
abbrev pub Filed : ℕ → Order → List (ArrayVec Order 32) → List (ArrayVec Order 32) → Type 0
Filed piece o old new =
    (p : ℕ) → listed (slice_index_or new p no_orders) ≡ cond (p == piece) (listed (slice_index_or old p no_orders) ++ o ∷ []) (listed (slice_index_or old p no_orders))

-- why these are not all added to no entries: they are few enough, so only one that is out of range stands against it
abbrev pub all_refusal : List Order → Option Refusal
all_refusal orders = unless (orders_legal orders) (OutOfRange Rule) None
