use Rattle.std.proofs.Common.{◌≡◌, ◌-◌, map, length}
use Rattle.room.specs.Listed.{listed}
use Rattle.sheet.specs.Meaning.{each_says}
use Rattle.sheet.specs.Walked.{after}
use Rattle.sheet.proofs.Saying.{put_on}
use Rattle.sheet.proofs.walk.Lines.read_each.Given as goal

-- the items read and those still to read are all of them
abbrev pub invariant-loop : goal.invariant-loop
invariant-loop g l = record {
  items : length (listed l.items) ≡ l.counter;
  left : l.self ≡ after l.counter l.initial.self;
  all : put_on (map g.L.LineForm.denotes (listed l.items)) (each_says (g.L.LineForm.says l.form) l.self.number (l.count - l.counter) l.self.left) ≡ each_says (g.L.LineForm.says l.form) l.initial.self.number l.count l.initial.self.left;
}
