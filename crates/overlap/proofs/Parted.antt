-- Which placements keep the rule: those in which every pair of pieces is parted.
use Rattle.std.proofs.Common.{◌≡◌, ℕ, ◌<◌, false, ◌&&◌, ◌⊎◌, ◌+ℤ◌, ◌≤ℤ◌, sym, inl, inr, ⊎_elim, arith}
use Rattle.std.proofs.Math.Logic.{⊎_map, ⊎_swap}
use lib.Signed.{le_z}
use Rattle.std.proofs.lemmas.Int.{ints}
use Rattle.std.proofs.lemmas.Bool.{both_ways, cases_Bool, cases_order}
use Rattle.std.proofs.lemmas.Bool.Decides.{not_from_Decides}
use Rattle.room.specs.Seen.{Room}
use Rattle.room.proofs.Belows.{all_or_some, false_from}
use Rattle.rule.specs.Kept.{Placement, Keeps, Same, fixed}
use Rattle.overlap.specs.Clash.{exempt, clash_box, overlap_shut, Exempt}
use Rattle.overlap.specs.Diffn.{StrictKept, NonstrictKept}
use Rattle.overlap.specs.declared.Overlap.{Overlap}
use Rattle.overlap.specs.declared.Overlap.TheVariants.{Strict, Nonstrict}
use Rattle.overlap.specs.Clashing.{Boxed, decides_exempt, decides_shut}

-- one of the two ends before the other begins
abbrev Apart : Room → Placement → ℕ → ℕ → ℕ → Type 0
Apart r q i j d = ((q i d +ℤ r.size i d) ≤ℤ q j d) ⊎ ((q j d +ℤ r.size j d) ≤ℤ q i d)

-- the pair never clashes, or is apart on some axis
abbrev Parted : Overlap → ℕ → Room → Placement → ℕ → ℕ → Type 0
Parted mode k r q i j = Exempt mode k r i j ⊎ ((d : ℕ) × (d < k) × Apart r q i j d)

exempt_swap : (mode : Overlap) (k : ℕ) (r : Room) (i j : ℕ) → Exempt mode k r i j → Exempt mode k r j i
exempt_swap Strict k r i j e = e
exempt_swap Nonstrict k r i j (d, h, zero) = (d, h, ⊎_swap zero)

parted_swap : (mode : Overlap) (k : ℕ) (r : Room) (q : Placement) (i j : ℕ) → Parted mode k r q i j → Parted mode k r q j i
parted_swap mode k r q i j parted = ⊎_map (exempt_swap mode k r i j) (λ (d, h, apart). (d, h, ⊎_swap apart)) parted

-- exempt goes by lengths alone, which the fixed bounds keep
exempt_fixed : (mode : Overlap) (k : ℕ) (r : Room) (q : Placement) (i j : ℕ) → Same (Exempt mode k (fixed r q) i j) (Exempt mode k r i j)
exempt_fixed Strict k r q i j = (λ e. e, λ e. e)
exempt_fixed Nonstrict k r q i j = (λ e. e, λ e. e)

-- a parted pair does not clash
clear : (mode : Overlap) (k : ℕ) (r : Room) (q : Placement) (i j : ℕ) → Parted mode k r q i j → Boxed mode k (fixed r q) i (q i) j → ⊥
clear mode k r q i j parted boxed =
    ⊎_elim
    (λ e. boxed.rival.can ((exempt_fixed mode k r q i j).1 e))
    (λ (d, h, apart). let held = boxed.held d h in grind (arith, ints))
    parted

-- an axis on which the point is out of the box is one on which the pair is apart
out_apart : (r : Room) (q : Placement) (i j d : ℕ) → (le_z ((clash_box (fixed r q) i j).from d) (q i d) && le_z (q i d) ((clash_box (fixed r q) i j).to d)) ≡ false → Apart r q i j d
out_apart r q i j d out = grind (arith, ints)

-- a pair that does not clash is parted
parted_from : (mode : Overlap) (k : ℕ) (r : Room) (q : Placement) (i j : ℕ) → (j ≡ i → ⊥) → (Boxed mode k (fixed r q) i (q i) j → ⊥) → Parted mode k r q i j
parted_from mode k r q i j other free =
    ⊎_elim
    (λ e. inl ((exempt_fixed mode k r q i j).0 ((decides_exempt mode k (fixed r q) i j).0 e)))
    (λ e. ⊎_elim
    (λ every. absurd (free (record {
      rival = record { other = other; can = not_from_Decides _ (decides_exempt mode k (fixed r q) i j) e };
      held = λ d h. let passes = every d h in (grind (arith, ints), grind (arith, ints));
    })))
    (λ (d, h, out). inr (d, h, out_apart r q i j d out))
    (all_or_some (λ d. le_z ((clash_box (fixed r q) i j).from d) (q i d) && le_z (q i d) ((clash_box (fixed r q) i j).to d)) k))
    (cases_Bool (exempt mode k (fixed r q) i j))

kept_parted : (mode : Overlap) (k : ℕ) (r : Room) (q : Placement) → Same (Keeps (overlap_shut mode) k r q) ((i j : ℕ) → i < j → j < r.count → Parted mode k r q i j)
kept_parted mode k r q = (
  λ keeps i j below known. parted_from mode k r q i j (λ e. omega arith)
      (λ boxed. both_ways _ (keeps i (omega arith)) ((decides_shut mode k (fixed r q) i (q i)).1 (j, known, boxed))),
  λ parted p known. false_from _ (decides_shut mode k (fixed r q) p (q p))
      (λ (j, there, boxed). ⊎_elim
      (λ same. boxed.rival.other (sym same))
      (λ apart. ⊎_elim
      (λ below. clear mode k r q p j (parted p j below there) boxed)
      (λ above. clear mode k r q p j (parted_swap mode k r q j p (parted j p above known)) boxed)
      apart)
      (cases_order p j)),
)

pub strict_kept : StrictKept
strict_kept k r q = (
  λ keeps i j below known. ⊎_elim (λ e. absurd e) (λ apart. apart) ((kept_parted Strict k r q).0 keeps i j below known),
  λ diffn. (kept_parted Strict k r q).1 (λ i j below known. inr (diffn i j below known)),
)

pub nonstrict_kept : NonstrictKept
nonstrict_kept k r q = (
  λ keeps i j below known. ⊎_elim
      (λ (d, h, zero). (d, h, ⊎_map (λ a. a) inl zero))
      (λ (d, h, apart). (d, h, inr (inr apart)))
      ((kept_parted Nonstrict k r q).0 keeps i j below known),
  λ diffn. (kept_parted Nonstrict k r q).1 (λ i j below known.
      let (d, h, ways) = diffn i j below known in
      ⊎_elim (λ a. inl (d, h, inl a)) (λ rest. ⊎_elim (λ b. inl (d, h, inr b)) (λ apart. inr (d, h, apart)) rest) ways),
)
