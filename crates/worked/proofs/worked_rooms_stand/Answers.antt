use Rattle.std.proofs.Common.{refl}
use Rattle.room.specs.Seen.{cut}
use Rattle.overlap.specs.Clash.{overlap_shut}
use Rattle.orders.specs.Ordered.{orders_shut}
use Rattle.worked.proofs.worked_rooms_stand.Goals as goal

pub returns : goal.returns
unfolding cut overlap_shut orders_shut
returns c = (refl, (refl, (refl, (refl, (refl, (refl, (refl, tt)))))))
