use Rattle.std.proofs.Common.{refl}
use Rattle.sheet_tests.proofs.worked_sheets_stand.Goals as goal

pub returns : goal.returns
returns c = (refl, (refl, (refl, (refl, (refl, (refl, (refl, (refl, tt))))))))
