-- The two rules of a pair.
use Rattle.rule.specs.declared.both.Both.{Both}

abbrev pub one_of : {P Q : Type 0} → Both P Q → P
one_of pair = pair.one

abbrev pub two_of : {P Q : Type 0} → Both P Q → Q
two_of pair = pair.two
