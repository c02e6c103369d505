-- What a contents line has, as it is held in memory.
use Rattle.forms.specs.declared.contents.Announced.{Announced as Held}
use Rattle.forms.specs.Forms.{Announced}

abbrev pub announced_by : Held → Announced
announced_by h = record { axes = h.axes; mode = h.mode; counts = h.counts }
