-- A sheet in memory, and the plan that it holds.
use Rattle.sheet.specs.declared.reader.Sheet.{Sheet}
use Rattle.sheet.specs.Parts.{plan_held}
use Rattle.sheet.specs.Plan.{Plan}

abbrev pub plan_of : Sheet → Plan
plan_of s = plan_held s.axes s.mode s.pieces s.orders s.walls
