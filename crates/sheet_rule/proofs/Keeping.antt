-- Which placements keep the rules of a sheet.
use Rattle.std.proofs.Common.{ℕ, true, ◌&&◌, List}
use Rattle.std.proofs.lemmas.Bool.{and_parts}
use Rattle.room.specs.Seen.{Room}
use Rattle.room.specs.declared.orders.Order.{Order}
use Rattle.room.specs.declared.walls.Cell.{Cell}
use Rattle.forms.specs.declared.contents.Mode.{Mode}
use Rattle.forms.specs.declared.contents.Mode.TheVariants.{Strict, Nonstrict}
use Rattle.rule.specs.Kept.{Placement, Keeps, Same, either}
use Rattle.rule.proofs.Pairs.{both_kept}
use Rattle.overlap.specs.Clash.{overlap_shut}
use Rattle.overlap.proofs.Parted.{nonstrict_kept, strict_kept}
use Rattle.orders.specs.Ordered.{orders_shut, orders_suit}
use Rattle.orders.specs.Shutting.{orders_kept}
use Rattle.walls.specs.Walled.{walls_shut, walls_suit}
use Rattle.walls.specs.Walls.{kept}
use Rattle.sheet_rule.specs.Together.{Apart, SheetKept, overlap_of}

apart : (mode : Mode) (k : ℕ) (r : Room) (q : Placement) → Same (Keeps (overlap_shut (overlap_of mode)) k r q) (Apart mode k r q)
apart Strict k r q = strict_kept k r q
apart Nonstrict k r q = nonstrict_kept k r q

pub sheet_kept : (mode : Mode) (rows : List (List Cell)) (orders : List Order) → SheetKept mode rows orders
sheet_kept mode rows orders k r q suits =
    let (ordered, rest) = and_parts (orders_suit orders k r.count) (walls_suit rows k r.count && true) suits in
    let walled = (and_parts (walls_suit rows k r.count) true rest).0 in
    let outer = both_kept (orders_shut orders) (either (walls_shut rows) (overlap_shut (overlap_of mode))) k r q in
    let inner = both_kept (walls_shut rows) (overlap_shut (overlap_of mode)) k r q in
    let by_orders = orders_kept orders k r q ordered in
    let by_walls = kept rows k r q walled in
    let by_overlap = apart mode k r q in (
      λ keeps.
          let (a, rest) = outer.0 keeps in
          let (b, c) = inner.0 rest in
          record { in_order = by_orders.0 a; off_walls = by_walls.0 b; parted = by_overlap.0 c },
      λ all. outer.1 (by_orders.1 all.in_order, inner.1 (by_walls.1 all.off_walls, by_overlap.1 all.parted)),
    )
