-- What follows from what: the first fault decides.
use Rattle.std.specs.Prelude.{Bool, cond, Some, None, Ok, Err, Option, Result}
use Rattle.forms.specs.declared.fault.Fault.{Fault}
use Rattle.forms.specs.declared.fault.Fault.TheVariants.{Form, Range}

abbrev pub and_then : {A B E : Type 0} → Result A E → (A → Result B E) → Result B E
and_then (Ok x) f = f x
and_then (Err e) f = Err e

abbrev pub map_ok : {A B E : Type 0} → (A → B) → Result A E → Result B E
map_ok f (Ok x) = Ok (f x)
map_ok f (Err e) = Err e

abbrev pub with_some : {A B : Type 0} → Option A → (A → Option B) → Option B
with_some None f = None
with_some (Some x) f = f x

-- a value whose numbers are in range, or one of them is not
abbrev pub in_range : {A : Type 0} → Bool → A → Result A Fault
in_range fits value = cond fits (Ok value) (Err Range)

-- a line that is not of its form is faulty; one that is, where its numbers are out of range
abbrev pub judged : {A B : Type 0} → Option A → (A → Bool) → (A → B) → Result B Fault
judged None fits value = Err Form
judged (Some x) fits value = in_range (fits x) (value x)
