-- Numbers that are checked one by one.
use Rattle.std.proofs.Common.{◌≡◌, ℕ, Bool, true, false, get_or, pos, Ok, refl, arith}
use Rattle.forms.specs.declared.contents.Contents.{Contents}
use Rattle.forms.specs.Forms.{Announced, count, between, contents_fit, contents_from}
use Rattle.forms.specs.Outcome.{in_range}

-- what a check that passes tells
pub passed : {A : Type 0} (fits : Bool) (value x : A) → Ok x ≡ in_range fits value → (fits ≡ true) × (value ≡ x)
passed true value x e = (refl, cc)
passed false value x e = absurd cc

pub contents_made : (a : Announced) (axes pieces orders rows : ℕ)
    → Ok axes ≡ in_range (between 1 3 a.axes) (count a.axes)
    → Ok pieces ≡ in_range (between 1 24 (get_or a.counts 0 (pos 0))) (count (get_or a.counts 0 (pos 0)))
    → Ok orders ≡ in_range (between 0 32 (get_or a.counts 1 (pos 0))) (count (get_or a.counts 1 (pos 0)))
    → Ok rows ≡ in_range (between 0 64 (get_or a.counts 2 (pos 0))) (count (get_or a.counts 2 (pos 0)))
    → Ok (record { axes = axes; mode = a.mode; pieces = pieces; orders = orders; rows = rows }) ≡ in_range {A = Contents} (contents_fit a) (contents_from a)
contents_made a axes pieces orders rows e f g h =
    let p = passed _ _ _ e in
    let q = passed _ _ _ f in
    let r = passed _ _ _ g in
    let s = passed _ _ _ h in
    grind arith
